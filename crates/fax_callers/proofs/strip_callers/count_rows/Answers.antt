use Rattle.std.proofs.Common.{[], ◌∷◌, ◌++◌, ap, inl, inr, arith, length-append}
use Rattle.fax_page.specs.declared.StripForm.{StripForm}
use Rattle.fax_page.specs.views.Reader.{ReadsRow, IsAtEnd}
use Rattle.fax_callers.proofs.strip_callers.count_rows.Goals as goal

pub loop-count-preserved : goal.loop-count-preserved
loop-count-preserved c =
    let old = c.loop-count.reader in
    let new = c.advance.new.self in
    let so_far = c.loop-count.invariant in
    let reads : ReadsRow old new = rw c.in-Ok-true.field-0-test at c.in-Ok-true.ensures in
    let rows = so_far.3 ++ new.reference ∷ [] in (
      reads.still_no_fault,
      omega (arith, reads.next_row, so_far.1),
      omega (arith, reads.next_row, reads.upcoming, ap (λ (f : StripForm). f.rows) so_far.5.same_form),
      rows,
      omega (arith, length-append so_far.3 (new.reference ∷ []), so_far.4),
      c.strips_are_read_row_by_row.ensures.goes_on c.args.form c.args.bytes.now so_far.3 old new so_far.5 reads,
    )

pub returns-in-Ok-false : goal.returns-in-Ok-false
returns-in-Ok-false c =
    let so_far = c.loop-count.invariant in
    let at_end : IsAtEnd c.loop-count.reader c.advance.new.self =
    rw c.in-Ok-false.field-0-test at c.in-Ok-false.ensures in (
      so_far.3,
      so_far.4,
      c.strips_are_read_row_by_row.ensures.ends c.args.form c.args.bytes.now so_far.3 c.loop-count.reader
          c.advance.new.self
          so_far.5 at_end,
    )

pub returns-in-Err : goal.returns-in-Err
returns-in-Err c =
    let so_far = c.loop-count.invariant in
    elim c.in-Err.ensures [
      | inl again ↦ absurd (cc (so_far.0, again.told))
      | inr meets ↦ (
        so_far.3,
        so_far.4,
        c.strips_are_read_row_by_row.ensures.stops c.args.form c.args.bytes.now so_far.3 c.loop-count.reader
            c.advance.new.self
            c.in-Err.fault so_far.5 meets,
      )
    ]
