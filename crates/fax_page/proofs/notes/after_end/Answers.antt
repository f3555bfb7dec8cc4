use Rattle.std.proofs.Common.{sym, ◌∙◌, ap}
use Rattle.fax_bits.specs.views.Source.{Source}
use Rattle.fax_page.proofs.EndLemmas.{eols_end, block_end, no_block_end}
use Rattle.fax_page.proofs.notes.after_end.Goals as goal

pub returns-in-Mh : goal.returns-in-Mh
returns-in-Mh c = eols_end _ _ _ c.in-Mh.is c.after_return_to_control.ensures

pub returns-then-take : goal.returns-then-take
returns-then-take c =
    block_end _ _ _ c.in-Mmr.is (ap (λ (s : Source). s.remaining) (sym c.fork-ahead.ensures) ∙ c.if-take.ensures.taken)

pub returns-else-take : goal.returns-else-take
returns-else-take c = λ rest mark.
    no_block_end _ _ rest c.in-Mmr.is
    (λ begins. c.if-take.ensures.taken.1 (
      begins.0,
      ap (λ (s : Source). s.remaining) c.fork-ahead.ensures
          ∙ begins.1,
    )) mark
