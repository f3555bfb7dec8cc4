use Rattle.std.proofs.Common.{◌≡◌, true, false, sym, ◌∙◌}
use Rattle.fax_walk.proofs.SalvageRowLemmas.{no_part, part_read, read_in_page}
use Rattle.fax_walk.proofs.salvage_rows.SalvageRows.next_part.Goals as goal
use Rattle.fax_walk.proofs.salvage_rows.SalvageRows.next_part.Goals.{then-self, else-self}

pub returns-in_default : goal.returns-in_default
returns-in_default c =
    let self = c.self.invariant in
    let enters = rw (← c.self.view_is) at c.enter_strip.ensures in
    no_part _ self.limits self.inside self.reader_form self.within _ enters c.whole_strips_are_found.ensures
    self.whole_before self.clean_now _ c.in_default.ensures

pub invariant_of-self-2 : goal.invariant_of-self-2
invariant_of-self-2 c =
    read_in_page _ _ _ _ _ _ c.self.invariant c.upcoming_rows_stand_in_strips.ensures _ _ _ c.in-Some.ensures
    (elim c.if-self.branch [
      | then-self w ↦ λ is. (w.if-self.true, sym w.is_found-self-inside.ensures ∙ sym w.self-is ∙ is)
      | else-self w ↦ λ is. let apart : false ≡ true = sym w.if-self.false ∙ sym w.self-is ∙ is in cc
    ])

pub returns : goal.returns
returns c =
    let self = c.self.invariant in
    let enters = rw (← c.self.view_is) at c.enter_strip.ensures in
    rw c.part_of.ensures
    (part_read _ self.limits self.inside self.reader_form self.within _ enters _ _ _ c.in-Some.ensures)
