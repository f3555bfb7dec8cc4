use Rattle.std.proofs.Common.{◌≡◌, ◌+◌, refl, ap, arith, ◌∙◌}
use Rattle.std.proofs.lemmas.Result.{err_from_is_err_and}
use Rattle.fax_rows.specs.ReadRows.{read_run}
use Rattle.std.proofs.lemmas.Bool.{and_parts, eqb-true}
use Rattle.fax_bits.specs.Tables.{run_table}
use Rattle.fax_bits.specs.declared.run_codes.RunCode.TheVariants.{Terminating, MakeUp, Extension as RunExtension}
use Rattle.fax_rows.specs.declared.RowFault.TheVariants.{Extension, RunTooLong}
use Rattle.fax_bits.proofs.CodeLemmas.{read_is_taken}
use Rattle.fax_rows.proofs.RunLemmas.{none_chosen, none_longest, one_chosen, one_longest}
use Rattle.fax_rows.proofs.RunReadLemmas.{ends, goes_on, no_code, refuses, not_within}
use Rattle.fax_rows.proofs.runs.read_run.Goals as goal

pub loop-more-init : goal.loop-more-init
loop-more-init c = record {
  same =
      let start : c.args.from ≡ c.args.from + 0 = omega arith in
      ap (λ k. read_run c.args.colour c.args.width k c.args.source.now.remaining) start;
  chosen = λ is. none_chosen c.chosen_codes_are_written.ensures c.args.colour c.args.source.now.remaining;
  longest = λ is. none_longest c.chosen_codes_are_written.ensures c.args.colour c.args.source.now.remaining;
  within = omega arith;
  no_longer = omega arith;
  same_end = refl;
}

pub returns-in-Terminating-clause-read : goal.returns-in-Terminating-clause-read
returns-in-Terminating-clause-read c =
    let is = rw c.in-Terminating.is at c.in_ok-more.ensures.read in
    let so_far = c.loop-more.invariant in
    rw c.from.ensures
    (so_far.same
    ∙ ends c.args.colour c.args.width _ (c.args.from + (c.loop-more.pels + c.in-Terminating.more))
    c.in-Terminating.more _ _ is (omega arith) (omega (arith, c.from.ensures)))

pub returns-in-Terminating-clause-chosen : goal.returns-in-Terminating-clause-chosen
returns-in-Terminating-clause-chosen c is =
    let read = rw c.in-Terminating.is at c.in_ok-more.ensures.read in
    let taken = read_is_taken c.loop-more.source.remaining (run_table c.args.colour) _ _ read in
    rw c.from.ensures (c.loop-more.invariant.chosen is _ _ taken)

pub returns-then-from-pels-clause-read : goal.returns-then-from-pels-clause-read
returns-then-from-pels-clause-read c =
    let is = rw c.in-Terminating.is at c.in_ok-more.ensures.read in
    c.loop-more.invariant.same
    ∙ refuses c.args.colour c.args.width _ _ (Terminating c.in-Terminating.more) _ RunTooLong is
    (not_within c.args.width (c.args.from + c.loop-more.pels + c.in-Terminating.more) _
    (omega (arith, c.if-from-pels.true, c.from.ensures)))

pub returns-then-from-pels-2-clause-read : goal.returns-then-from-pels-2-clause-read
returns-then-from-pels-2-clause-read c =
    let is = rw c.in-MakeUp.is at c.in_ok-more.ensures.read in
    c.loop-more.invariant.same
    ∙ refuses c.args.colour c.args.width _ _ (MakeUp c.in-MakeUp.more) _ RunTooLong is
    (not_within c.args.width (c.args.from + c.loop-more.pels + c.in-MakeUp.more) _
    (omega (arith, c.if-from-pels-2.true, c.from-pels.ensures)))

pub returns-in-Extension-clause-read : goal.returns-in-Extension-clause-read
returns-in-Extension-clause-read c =
    let is = rw c.in-Extension.is at c.in_ok-more.ensures.read in
    c.loop-more.invariant.same ∙ refuses c.args.colour c.args.width _ _ RunExtension _ Extension is refl

pub returns-in_err-more-clause-read : goal.returns-in_err-more-clause-read
returns-in_err-more-clause-read c =
    let so_far = c.loop-more.invariant in
    let p = err_from_is_err_and c.from_residual.result c.from_residual.ensures.1 in
    rw (p.1, p.2)
    (so_far.same
    ∙ no_code c.args.colour c.args.width _ _ c.in_err-more.field-0.0 c.in_err-more.ensures.read)

pub loop-more-preserved : goal.loop-more-preserved
loop-more-preserved c =
    let is = rw c.in-MakeUp.is at c.in_ok-more.ensures.read in
    let taken = read_is_taken c.loop-more.source.remaining (run_table c.args.colour) _ _ is in
    let so_far = c.loop-more.invariant in
    let on = goes_on c.args.colour c.args.width (c.args.from + c.loop-more.pels)
    (c.args.from + (c.loop-more.pels + c.in-MakeUp.more)) c.in-MakeUp.more _ _ is (omega arith)
    (omega (arith, c.from-in-MakeUp.ensures, c.from-pels.ensures)) in
    rw (c.from-pels.ensures, c.from-in-MakeUp.ensures) (record {
      same = so_far.same ∙ on;
      chosen = λ are. one_chosen c.chosen_codes_are_written.ensures c.args.colour _ _ _ _ _ (so_far.longest are) taken;
      longest = λ are.
          let both = and_parts c.loop-more.are_longest _ are in
          one_longest c.chosen_codes_are_written.ensures c.args.colour _ _ _ _ _ (so_far.longest both.0)
          (eqb-true c.in-MakeUp.more 2560 both.1) taken;
      within = omega arith;
      no_longer = omega (arith, c.in_ok-more.ensures.shorter);
      same_end = omega (arith, c.in_ok-more.ensures.same_end);
    })
