use Rattle.std.proofs.Common.{◌++◌, take, replicate, false, inl, inr, refl, ◌∙◌, ap, arith}
use Rattle.std.proofs.lemmas.Grind.{common_steps}
use Rattle.fax_bits.specs.Bits.{code_bits, bits_number}
use Rattle.fax_bits.proofs.AheadLemmas.{enough, loaded_left, loaded-remaining, all_loaded, end_kept}
use Rattle.fax_bits.proofs.TakeLemmas.{spelled, as_many, spells_it}
use Rattle.fax_bits.proofs.source.BitSource.take.Goals as goal
use Rattle.fax_bits.proofs.source.BitSource.take.Goals.{then-ahead-len-via-then-ahead-len}
use Rattle.fax_bits.proofs.source.BitSource.take.Goals.{then-ahead-len-via-else-ahead-len+then-number-bits}

pub returns-then-len-eq0-clause-taken : goal.returns-then-len-eq0-clause-taken
unfolding code_bits
returns-then-len-eq0-clause-taken c = rw c.if-len-eq0.true refl

pub returns-then-ahead-len-clause-taken : goal.returns-then-ahead-len-clause-taken
returns-then-ahead-len-clause-taken c =
    let order = c.self.inside.order in
    let bytes = c.self.inside.bytes.now in
    let more = c.filled-ahead.ensures in
    let window = c.filled-ahead.result in
    let remaining = loaded_left order bytes c.self.inside.window window c.args.self.now c.self.invariant c.self.view_is
    more.ahead more.place more.within in
    let all = all_loaded order bytes c.self.inside.window window c.args.self.now c.self.invariant c.self.view_is
    more.ahead more.place more.within in (
      refl,
      λ begins.
          elim c.then-ahead-len.branch [
            | then-ahead-len-via-then-ahead-len w ↦
                elim more.many [
                  | inl many ↦ omega (arith, many, c.requires.short, w.if-ahead-len.true)
                  | inr ends ↦ omega (arith, as_many _ _ _ begins, all ends, w.if-ahead-len.true)
                ]
            | then-ahead-len-via-else-ahead-len+then-number-bits w ↦
                w.if-number-bits.true (w.number.ensures.number order bytes
                (enough c.args.len bytes window c.requires.short more.many)
                ∙ ap (λ b. bits_number (take c.args.len (b ++ replicate c.args.len false))) remaining
                ∙ spells_it _ _ _ c.requires.fits begins)
          ],
    )

pub returns-clause-taken : goal.returns-clause-taken
returns-clause-taken c = grind (arith, common_steps, loaded-remaining, spelled)

pub returns-clause-same_end : goal.returns-clause-same_end
returns-clause-same_end c =
    let more = c.filled-ahead.ensures in
    end_kept c.self.inside.order c.self.inside.bytes.now c.self.inside.window c.filled-ahead.result c.args.self.now
    c.self.invariant
    c.self.view_is more.ahead more.place more.within c.args.len c.after-self-inside.result c.requires.short
    c.after-self-inside.ensures.count c.after-self-inside.ensures.at
