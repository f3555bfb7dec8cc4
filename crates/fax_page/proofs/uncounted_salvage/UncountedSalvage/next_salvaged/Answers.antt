use Rattle.std.proofs.Common.{sym}
use Rattle.fax_page.proofs.LeftUncountedLemmas.{is_upcoming, passes_so, same_after, still_going}
use Rattle.fax_page.proofs.uncounted_salvage.UncountedSalvage.next_salvaged.Goals as goal

pub invariant_of-self-2 : goal.invariant_of-self-2
invariant_of-self-2 c =
    let row_is = c.self.invariant.upcoming c.in_default.is in
    let upcoming = is_upcoming c.self.inside.reader c.in-Some-next_salvaged.salvaged c.next_salvaged.new.self
    c.rows_end.result
    c.rows_end.ensures c.in-TooMany.is c.in-Some-next_salvaged.ensures in
    still_going c.self.inside.reader c.next_salvaged.new.self c.self.inside.row c.in-Some-next_salvaged.salvaged
    c.final_fault_after-self-inside.result c.self.invariant.most row_is c.in-Some-next_salvaged.ensures
    (same_after c.self.inside.reader c.next_salvaged.new.self c.self.inside.row c.final_fault_after-self-inside.result
    row_is
    c.self.invariant.most upcoming c.in-Some-next_salvaged.salvaged c.in-Some-next_salvaged.ensures)
    upcoming.0 c.final_fault_after-self-inside.ensures

pub returns : goal.returns
returns c =
    let row_is = c.self.invariant.upcoming c.in_default.is in
    let upcoming = is_upcoming c.self.inside.reader c.in-Some-next_salvaged.salvaged c.next_salvaged.new.self
    c.rows_end.result
    c.rows_end.ensures c.in-TooMany.is c.in-Some-next_salvaged.ensures in
    passes_so c.self.inside.reader c.next_salvaged.new.self c.self.inside.row c.final_fault_after-self-inside.result
    row_is
    c.self.invariant.most upcoming c.args.self.now c.self.inside.final_fault c.alone.result
    c.in-Some-next_salvaged.salvaged
    (sym c.self.view_is) c.in_default.is c.alone.ensures c.in-Some-next_salvaged.ensures
    c.final_fault_after-self-inside.ensures
