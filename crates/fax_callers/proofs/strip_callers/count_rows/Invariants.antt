use Rattle.std.proofs.Common.{◌≡◌, ◌-◌, ◌≤◌, List, None, length}
use Rattle.fax_bits.specs.declared.Colour.{Colour}
use Rattle.fax_page.specs.laws.Reader.{HasRead}
use Rattle.fax_callers.proofs.strip_callers.count_rows.Given as goal

-- as many rows were read as are counted, and no fault was met
abbrev pub invariant-loop-count : goal.invariant-loop-count
invariant-loop-count l =
    (l.reader.fault ≡ None) × (l.reader.row ≡ l.count) × (l.reader.row ≤ l.fn.form.rows)
    × (rows : List (List Colour)) × (length rows ≡ l.count) × HasRead l.fn.form l.fn.bytes rows l.reader

abbrev pub decreases-loop-count : goal.decreases-loop-count
decreases-loop-count l = l.fn.form.rows - l.reader.row
