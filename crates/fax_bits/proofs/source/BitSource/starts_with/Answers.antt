use Rattle.std.proofs.Common.{◌-◌, ◌/◌, ◌^◌, ◌≤◌, sym, ◌∙◌, ap, subst, arith}
use Rattle.std.proofs.Math.Pow.{pow_mono}
use Rattle.fax_bits.specs.Bits.{code_bits, StartsWith}
use Rattle.fax_bits.specs.views.Source.{Source}
use Rattle.fax_bits.proofs.TakeLemmas.{both_taken, first_other, high_part-lt, two_parts}
use Rattle.fax_bits.proofs.source.BitSource.starts_with.Goals as goal

pub overflow_cast-bits : goal.overflow_cast-bits
overflow_cast-bits c =
    let high = high_part-lt c.args.len (c.args.len / 2) c.args.bits (omega arith) c.requires.short c.requires.fits in
    let few : c.args.len - c.args.len / 2 ≤ 24 = omega (arith, c.requires.short) in
    let most : 2 ^ (c.args.len - c.args.len / 2) ≤ 2 ^ 24 = pow_mono few in
    omega (arith, high, most)

pub take-requires-clause-fits : goal.take-requires-clause-fits
take-requires-clause-fits c = high_part-lt c.args.len (c.args.len / 2) c.args.bits (omega arith) c.requires.short
    c.requires.fits

pub returns-then-not-take : goal.returns-then-not-take
returns-then-not-take c = (
  λ is. absurd (cc is),
  λ begins.
      absurd (first_other c.args.self.now.remaining _ _
      (λ front. c.if-not-take.ensures.taken.1 (subst (λ (s : Source). StartsWith s.remaining
      (code_bits (c.args.len - c.args.len / 2) (c.args.bits / 2 ^ (c.args.len / 2)))) (sym c.fork-ahead.ensures)
      front))
      (subst (StartsWith c.args.self.now.remaining) (two_parts c.args.len (c.args.len / 2) c.args.bits (omega arith)
      c.requires.short
      c.requires.fits) begins)),
)

pub returns : goal.returns
returns c =
    let low = c.args.len / 2 in
    let here = both_taken c.args.self.now.remaining c.take.new.self.remaining _ _ c.take-2.result
    c.take-2.new.self.remaining
    (ap (λ (s : Source). s.remaining) (sym c.fork-ahead.ensures)
    ∙ c.if-not-take.ensures.taken) c.take-2.ensures.taken in
    rw (two_parts c.args.len low c.args.bits (omega arith) c.requires.short c.requires.fits) here
