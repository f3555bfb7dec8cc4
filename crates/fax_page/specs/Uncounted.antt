-- How the rows of a strip of unknown height end: data of T.4 and T.6 with no file around them come
-- without a number of rows. A definition without a citation is this project's profile.
use Rattle.std.specs.Prelude.{ℕ, zero, suc, Bool, true, false, IsTrue, is_some, List, ◌++◌}
use Rattle.std.specs.Prelude.{Option, Some, None}
use Rattle.fax_page.specs.Lines.{Coding, NextOne, StripFault, StripForm, next_one, not_there}
use Rattle.fax_page.specs.Strip.{after_mark, most_rows}
pub use Rattle.fax_page.specs.declared.RowsEnd.{RowsEnd}
pub use Rattle.fax_page.specs.declared.RowsEnd.TheVariants.{Marked, DataEnd, Fault, TooMany}

-- the form of rows of a strip of unknown height: they may be as many as a strip has at most
abbrev pub uncounted : StripForm → StripForm
uncounted form = record form { rows = most_rows }

-- the bits begin with an end mark, or may where more follow
abbrev pub has_end_mark : Coding → List Bool → Bool
has_end_mark coding b = is_some (after_mark coding b)

abbrev pub MayHaveEndMark : Coding → List Bool → Type 0
MayHaveEndMark coding b = (more : List Bool) × IsTrue (has_end_mark coding (b ++ more))

-- after so many rows, and at least one, no 1 is left: fill, which T.4 knows before an EOL alone
-- (T.4, section 4.1.3); that it may stand at the end of all data is ours
abbrev pub is_not_there : NextOne → Bool
is_not_there not_there = true
is_not_there _ = false

abbrev pub has_data_end : ℕ → List Bool → Bool
has_data_end zero remaining = false
has_data_end (suc row) remaining = is_not_there (next_one 0 remaining)

-- how so many rows end, by what is left where the next one begins, and by the fault that is in its
-- way: with an end mark (T.4, sections 4.1.4 and 4.2.4; T.6, End-of-facsimile block), or with the
-- data; else with that fault, or with none where a strip has no more rows
abbrev pub end_by_stop : Option StripFault → RowsEnd
end_by_stop None = TooMany
end_by_stop (Some fault) = Fault fault

abbrev pub rows_end : Coding → ℕ → List Bool → Option StripFault → RowsEnd
rows_end coding row remaining stop =
    elim (has_end_mark coding remaining) [
      | true ↦ Marked
      | false ↦ elim (has_data_end row remaining) [ true ↦ DataEnd | false ↦ end_by_stop stop ]
    ]
