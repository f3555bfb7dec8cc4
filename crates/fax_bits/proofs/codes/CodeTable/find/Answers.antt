use Rattle.std.proofs.Common.{◌/◌, ◌^◌, ◌-◌, ◌≤◌, arith, refl, ap, sym, ◌∙◌}
use Rattle.fax_bits.specs.Codes.{bits_of}
use Rattle.fax_bits.specs.Bits.{code_bits, StartsWith}
use Rattle.fax_bits.proofs.FindLemmas.{code_ahead, ahead_is_short, ahead_is_first}
use Rattle.fax_bits.proofs.TableLemmas.{listed, each_below_more, each-from_below}
use Rattle.fax_bits.proofs.codes.CodeTable.find.Goals.{else-len-n-via-then-len-n+else-window-n}
use Rattle.fax_bits.proofs.codes.CodeTable.find.Goals.{else-len-n-via-else-len-n}
use Rattle.fax_bits.proofs.codes.CodeTable.find.Goals as goal

pub returns-then-window-n : goal.returns-then-window-n
returns-then-window-n g c =
    let entry = c.entry-entry.result in
    let within : entry.len ≤ c.args.n = omega (arith, c.from-len.ensures, c.if-len-n.true) in
    record {
      entry = entry;
      listed = listed g.Self.CodeTable.table c.loop-i.i entry c.entry-entry.ensures.found;
      length = sym c.from-len.ensures;
      means = refl;
      ahead = code_ahead c.args.n c.args.window entry.len entry.code within
          (ap (λ k. c.args.window / 2 ^ (c.args.n - k)) (sym c.from-len.ensures) ∙ c.if-window-n.true ∙ c.from.ensures);
    }

pub loop-i-preserved : goal.loop-i-preserved
loop-i-preserved g c =
    let table = g.Self.CodeTable.table in
    let entry = c.entry-entry.result in
    let found = c.entry-entry.ensures.found in
    each_below_more (λ other. StartsWith (code_bits c.args.n c.args.window) (bits_of other) → ⊥) table c.loop-i.i entry
    c.loop-i.invariant found
    (λ ahead.
    let within : entry.len ≤ c.args.n = ahead_is_short c.args.n c.args.window entry.len entry.code ahead in
    elim c.else-len-n.branch [
      | else-len-n-via-then-len-n+else-window-n w ↦
          w.if-window-n.false
          (ap (λ k. c.args.window / 2 ^ (c.args.n - k)) c.from-len.ensures
          ∙ ahead_is_first c.args.n c.args.window entry.len entry.code within c.requires.fits
          (g.met.Self.CodeTable.short_codes entry (listed table c.loop-i.i entry found)).2 ahead ∙ sym w.from.ensures)
      | else-len-n-via-else-len-n w ↦ omega (arith, within, c.from-len.ensures, w.if-len-n.false)
    ])

pub returns : goal.returns
returns g c =
    each-from_below (λ other. StartsWith (code_bits c.args.n c.args.window) (bits_of other) → ⊥) g.Self.CodeTable.table
    c.loop-i.i
    (omega (arith, g.met.Self.CodeTable.counted, c.loop-i-test.false)) c.loop-i.invariant
