use Rattle.fax_page.proofs.SalvageReaderLemmas.{finds_row, lost_for, is_unended, row_over, kept_by, after_lost}
use Rattle.fax_page.proofs.salvage_reader.SalvageReader.next_salvaged.Goals as goal

pub returns-then-is_unterminated : goal.returns-then-is_unterminated
returns-then-is_unterminated c =
    let reads = rw c.in-Ok-true.field-0-test at c.in-Ok-true.ensures in
    let over = rw (← c.self.view_is) at c.in_default.ensures in
    let unended = is_unended _ _ reads c.if-is_unterminated.ensures in
    let passes = rw (c.row-row.ensures.row, c.bit_place-place.ensures.place)
    at c.resync_at_eol-rows-then-is_unterminated.ensures in
    rw (← c.self.view_is) (
      _,
      _,
      row_over _ _ over _ reads,
      unended.0,
      unended.1,
      after_lost c.self.inside.reader c.advance.new.self c.resync_at_eol-rows-then-is_unterminated.new.self
          c.self.inside.before _ _
          (reads.same_form, reads.same_bytes) passes,
    )

pub returns-else-is_unterminated : goal.returns-else-is_unterminated
returns-else-is_unterminated c =
    let reads = rw c.in-Ok-true.field-0-test at c.in-Ok-true.ensures in
    let over = rw (← c.self.view_is) at c.in_default.ensures in
    rw (← c.self.view_is) (finds_row _ _ over _ reads c.if-is_unterminated.ensures)

pub returns-in-Err : goal.returns-in-Err
returns-in-Err c =
    let over = rw (← c.self.view_is) at c.in_default.ensures in
    let lost = lost_for _ _ over _ _ c.self.invariant c.in-Err.ensures in
    let passes = rw (c.row-row.ensures.row, c.bit_place-place.ensures.place) at c.resync_at_eol-rows-in-Err.ensures in
    rw (← c.self.view_is) (
      lost.0,
      lost.1,
      after_lost c.self.inside.reader c.advance.new.self c.resync_at_eol-rows-in-Err.new.self c.self.inside.before _ _
          (kept_by _ _ _ c.in-Err.ensures) passes,
    )
