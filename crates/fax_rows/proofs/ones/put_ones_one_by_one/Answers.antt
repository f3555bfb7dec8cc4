use Rattle.std.proofs.Common.{◌+◌, ◌∙◌, ◌++◌, [], ◌∷◌, take, refl, ap, sym, arith}
use Rattle.std.proofs.lemmas.List.{append_assoc, take_more_set}
use lib.Count.{count_leading_zeros}
use Rattle.fax_rows.specs.code.Ones.{ones_among}
use Rattle.fax_rows.proofs.OnesLemmas.{IsHighest, highest, ahead, less_left, less_without, none_left, one_more}
use Rattle.fax_rows.proofs.ones.put_ones_one_by_one.Goals as goal

pub bounds-changes-end : goal.bounds-changes-end
bounds-changes-end c =
    let top = highest c.loop-remaining.remaining _ (omega arith) (omega (arith, c.loop-remaining.auto.remaining-fits))
    refl in
    let so_far = c.loop-remaining.invariant.1 in
    omega (
      arith,
      so_far.within,
      ahead _ _ _ so_far.rest _ top,
      top.within,
      c.requires.room,
      c.loop-remaining.auto.changes,
    )

pub loop-remaining-smaller : goal.loop-remaining-smaller
loop-remaining-smaller c =
    less_without c.loop-remaining.remaining _ (highest c.loop-remaining.remaining _ (omega arith)
    (omega (arith, c.loop-remaining.auto.remaining-fits)) refl)

pub loop-remaining-preserved : goal.loop-remaining-preserved
loop-remaining-preserved c =
    let at = count_leading_zeros 64 c.loop-remaining.remaining in
    let top : IsHighest c.loop-remaining.remaining at = highest c.loop-remaining.remaining at (omega arith)
    (omega (arith, c.loop-remaining.auto.remaining-fits)) refl in
    let so_far = c.loop-remaining.invariant.1 in (
      at + 1,
      record {
        rest = less_left _ _ _ so_far.rest at top;
        put =
            take_more_set c.loop-remaining.changes c.loop-remaining.end (c.args.from + at) (bounds-changes-end c)
            ∙ ap (λ ps. ps ++ (c.args.from + at) ∷ []) so_far.put
            ∙ append_assoc (take c.args.end c.args.changes.now) (ones_among c.args.from 63 c.args.word
            c.loop-remaining.invariant.0) _
            ∙ ap (λ ps. take c.args.end c.args.changes.now ++ ps) (one_more _ _ _ so_far.rest c.args.from at top);
        within = omega (arith, so_far.within, ahead _ _ _ so_far.rest at top);
      },
    )

pub returns-clause-put : goal.returns-clause-put
returns-clause-put c =
    let so_far = c.loop-remaining.invariant.1 in
    so_far.put ∙ ap (λ ps. take c.args.end c.args.changes.now ++ ps)
    (sym (none_left _ _ _ so_far.rest c.args.from (omega arith)))
