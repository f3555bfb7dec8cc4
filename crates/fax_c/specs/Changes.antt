-- The changing elements of a row.
use Rattle.std.specs.Prelude.{ℕ, List, length}
use Rattle.std.specs.List.{filter, range_with_len}
use Rattle.fax_rows.specs.Rows.{Colour, is_changing}

-- the places of the pels that are of another colour than the pel before (T.4, section 4.2.1.3.1)
abbrev pub changes_of : List Colour → List ℕ
changes_of row = filter (is_changing row) (range_with_len 0 (length row))
