use Rattle.fax_walk.proofs.RowsLeftLemmas.{page_next, strip_next, uncounted_ended, uncounted_next}
use Rattle.fax_walk.proofs.rows_left.next_of.Goals as goal

pub returns-in-Page : goal.returns-in-Page
returns-in-Page c =
    rw c.in-Page.is
    (page_next c.in-Page.its c.next_part-part.new.self c.next_part-part.result c.next_part-part.ensures
    c.lemma_rows_left.ensures)

pub returns-in-Some : goal.returns-in-Some
returns-in-Some c =
    rw (c.in-Strip.is, c.part_of.ensures)
    (strip_next c.strips_are_salvaged_in_one_way.ensures c.in-Strip.reader c.next_salvaged.new.self c.in-Strip.field-1
    c.in-Some.salvaged c.in-Some.ensures)

pub returns-in-Ok : goal.returns-in-Ok
returns-in-Ok c =
    rw (c.in-Uncounted.is, c.part_of-in-Ok.ensures)
    (uncounted_next c.uncounted_rows_are_left_in_one_way.ensures c.in-Uncounted.reader
    c.next_salvaged-in-Uncounted.new.self c.in-Uncounted.field-1 c.in-Uncounted.field-2
    (rw c.in-Uncounted.is at c.requires) c.in-Ok.salvaged c.in-Ok.ensures)

pub returns-in-Err : goal.returns-in-Err
returns-in-Err c =
    rw c.in-Uncounted.is
    (uncounted_ended c.uncounted_rows_are_left_in_one_way.ensures c.in-Uncounted.reader
    c.next_salvaged-in-Uncounted.new.self c.in-Uncounted.field-1 c.in-Uncounted.field-2
    (rw c.in-Uncounted.is at c.requires) c.in-Err._end c.in-Err.ensures)
