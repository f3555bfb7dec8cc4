use Rattle.std.proofs.Common.{rules, inr}
use Rattle.fax_page.proofs.RestLemmas.{row_after, line_between, placed_after, cause_there}
use Rattle.fax_page.proofs.LineFaultLemmas.{bits_again}
use Rattle.fax_page.proofs.reader.StripReader.advance.Goals as goal

pub invariant_of-self : goal.invariant_of-self
invariant_of-self c =
    let count = c.bits_stand_by_index.ensures.count c.self.inside.form.order c.self.inside.bytes.now in
    record {
      limits = c.self.invariant.limits;
      width = search rules;
      count = search rules;
      started_before = search rules;
      within = search rules;
      placed =
          placed_after c.self.inside.form _ _ _ _ _ _ _ _ count c.self.invariant.placed (c.self.invariant.at_row
          c.in_default.is)
          c.in-Ok.ensures.ok
          c.in-Ok.ensures.same_end c.place-self-inside.ensures (c.lines_are_read_in_one_way.ensures _ _ _);
      at_row = λ none.
          row_after c.self.inside.form _ _ _ _ _ _ _ _ count c.self.invariant.placed (c.self.invariant.at_row none)
          c.in-Ok.ensures.ok
          c.in-Ok.ensures.same_end c.place-self-inside.ensures (c.lines_are_read_in_one_way.ensures _ _ _);
    }

pub returns-in-Ok : goal.returns-in-Ok
returns-in-Ok c =
    let count = c.bits_stand_by_index.ensures.count c.self.inside.form.order c.self.inside.bytes.now in
    let here = c.self.invariant.at_row c.in_default.is in
    let ok = c.in-Ok.ensures.ok in
    let same_end = c.in-Ok.ensures.same_end in
    rw (← c.self.view_is) (record {
      no_fault = search rules;
      upcoming = search rules;
      line = line_between c.self.inside.form _ _ _ _ _ _ _ _ count c.self.invariant.placed here ok same_end
          c.place-self-inside.ensures
          (c.lines_are_read_in_one_way.ensures _ _ _);
      next_row = search rules;
      read = search rules;
      same_form = search rules;
      same_bytes = search rules;
      still_no_fault = search rules;
      within = placed_after c.self.inside.form _ _ _ _ _ _ _ _ count c.self.invariant.placed here ok same_end
          c.place-self-inside.ensures (c.lines_are_read_in_one_way.ensures _ _ _);
    })

pub returns-in-Err : goal.returns-in-Err
returns-in-Err c =
    let reader = c.self.inside in
    let here = c.self.invariant.at_row c.in_default.is in
    let again = bits_again reader.form.order reader.bytes.now reader.place _ _ _ c.new-start.ensures c.skip.ensures here
    in
    let cause =
    cause_there reader.form reader.row reader.rows reader.bytes.now reader.place reader.source c.line_fault-fault.result
    here
    (rw again (c.line_fault-fault.ensures reader.rows (rw again at c.in-Err.ensures.err))) in
    rw (← c.self.view_is)
    (inr (record { no_fault = search rules; upcoming = search rules; cause = cause; told = search rules }))
