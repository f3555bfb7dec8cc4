use Rattle.std.proofs.Common.{ap, sym, ◌∙◌}
use Rattle.fax_bits.specs.views.Source.{Source}
use Rattle.fax_page.proofs.FirstFaultLemmas.{marker_there, few_ahead, few_alone}
use Rattle.fax_page.proofs.lines.check_first_code.Goals as goal

pub returns-then-take-clause-err : goal.returns-then-take-clause-err
returns-then-take-clause-err c = marker_there _ _ (ap (λ (s : Source). s.remaining) (sym c.fork.ensures)
    ∙ c.if-take.ensures.taken)

pub returns-in-Some-clause-ok : goal.returns-in-Some-clause-ok
returns-in-Some-clause-ok c =
    few_ahead _ _ (λ begins. c.if-take.ensures.taken.1 (
      begins.0,
      ap (λ (s : Source). s.remaining) c.fork.ensures
          ∙ begins.1,
    )) c.in-Some.ensures

pub returns-in-None-clause-err : goal.returns-in-None-clause-err
returns-in-None-clause-err c =
    few_alone _ (λ begins. c.if-take.ensures.taken.1 (
      begins.0,
      ap (λ (s : Source). s.remaining) c.fork.ensures
          ∙ begins.1,
    ))
    c.in-None.ensures
