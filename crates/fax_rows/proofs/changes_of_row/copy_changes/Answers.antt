use Rattle.std.proofs.Common.{◌+◌, sym, arith}
use Rattle.std.proofs.lemmas.List.{length-take-le}
use Rattle.fax_rows.proofs.PlacedRowLemmas.{end_within}
use Rattle.fax_rows.proofs.changes_of_row.copy_changes.Goals as goal

pub slice_bounds-copy_from_slice-end : goal.slice_bounds-copy_from_slice-end
slice_bounds-copy_from_slice-end c = omega (arith, c.requires.room, end_within c.requires.row)

pub slice_bounds-copy_from_slice-end-2 : goal.slice_bounds-copy_from_slice-end-2
slice_bounds-copy_from_slice-end-2 c =
    sym (length-take-le (c.args.end + 3) c.args.changes.now
    (omega (arith, c.requires.room, end_within c.requires.row)))

pub slice_bounds-copy_from_slice-end-3 : goal.slice_bounds-copy_from_slice-end-3
slice_bounds-copy_from_slice-end-3 c =
    sym (length-take-le (c.args.end + 3) c.args.other.now
    (omega (arith, c.requires.row.room, end_within c.requires.row)))
