use Rattle.fax_page.proofs.EndLemmas.{IsEndFound, end_found, no_end_found, notes_of_eols, notes_of_block}
use Rattle.fax_page.proofs.notes.notes_after.Goals as goal
use Rattle.fax_page.proofs.notes.notes_after.Goals.{in-Some, in-None}

pub returns-in-Mh : goal.returns-in-Mh
returns-in-Mh c =
    let found : IsEndFound c.args.coding c.args.source.now.remaining c.match-after_end.ended.0 c.match-after_end.ended.1
    =
    elim c.match-after_end.branch [
      | in-Some w ↦ end_found _ _ _ _ _ _ w.in-Some.ensures w.zeros.ensures w.is_some.ensures w.ended-is
      | in-None w ↦ no_end_found _ _ _ _ _ w.in-None.ensures w.zeros-in-None.ensures w.is_some-in-None.ensures
          w.ended-is
    ] in
    notes_of_eols _ _ _ _ _ c.in-Mh.is found

pub returns-in-Mmr : goal.returns-in-Mmr
returns-in-Mmr c =
    let found : IsEndFound c.args.coding c.args.source.now.remaining c.match-after_end.ended.0 c.match-after_end.ended.1
    =
    elim c.match-after_end.branch [
      | in-Some w ↦ end_found _ _ _ _ _ _ w.in-Some.ensures w.zeros.ensures w.is_some.ensures w.ended-is
      | in-None w ↦ no_end_found _ _ _ _ _ w.in-None.ensures w.zeros-in-None.ensures w.is_some-in-None.ensures
          w.ended-is
    ] in
    notes_of_block _ _ _ _ _ c.in-Mmr.is found
