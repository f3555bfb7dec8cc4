-- Rows as runs, which lie where a table says, coded as a strip.
-- A definition without a citation is this project's profile.
use Rattle.std.specs.Prelude.{◌≡◌, ℕ, ◌+◌, ◌<◌, ◌≤◌, ◌⊎◌, List, [], ◌∷◌, length, take, drop}
use Rattle.std.specs.Prelude.{slice_get, Some, ⊤}
use Rattle.fax_rows.specs.Rows.{Colour, runs_of}
use Rattle.fax_page.specs.declared.StripForm.{StripForm}
use Rattle.fax_page.specs.Strip.{coded_strip}
use Rattle.fax_c.specs.declared.rows.FaxRow.{FaxRow}
use Rattle.fax_c.specs.declared.strip_form.FaxStrip.{FaxStrip}
use Rattle.fax_c.specs.views.PlaceTexts.{IsTextTold}
use Rattle.fax_c.specs.views.BareStrips.{IsStripFormGiven}

-- row i of a table has these pels, so many of them: its runs lie where the table says
abbrev pub IsRowAt : ℕ → List FaxRow → List ℕ → ℕ → List Colour → Type 0
IsRowAt width table runs i row =
    (entry : FaxRow) × (slice_get table i ≡ Some entry) × (entry.at + entry.len ≤ length runs)
    × (length row ≡ width) × (runs_of row ≡ take entry.len (drop entry.at runs))

-- so have the rows of a table from row i on
abbrev pub AreRowsAt : ℕ → List FaxRow → List ℕ → ℕ → List (List Colour) → Type 0
AreRowsAt width table runs i [] = ⊤
AreRowsAt width table runs i (row ∷ rows) =
    IsRowAt width table runs i row × AreRowsAt width table runs (i + 1) rows

-- these are the first rows of a table, as many as the form says
abbrev pub AreRowsInTable : StripForm → List FaxRow → List ℕ → List (List Colour) → Type 0
AreRowsInTable form table runs rows =
    (length rows ≡ form.rows) × AreRowsAt form.width table runs 0 rows

-- these numbers are a form and a k
abbrev pub IsFormWith : FaxStrip → ℕ → StripForm → Type 0
IsFormWith given k form = IsStripFormGiven given form × (0 < k)

-- what is to be coded: the numbers of a form, k, a table of rows, and the runs that it names
pub record AskedRuns : Type 0 where
  pub form : FaxStrip
  pub k : ℕ
  pub table : List FaxRow
  pub runs : List ℕ

-- the rows of a table are coded as a strip, which is written where it has room, and its length
-- reported; or memory was refused; or the numbers are no form, or there are no such rows; then
-- nothing is written
abbrev pub TellsStripOfRuns : AskedRuns → List ℕ → List ℕ → ℕ → ℕ → Type 0
TellsStripOfRuns asked old new len status =
    ((form : StripForm) × IsFormWith asked.form asked.k form
    × (((rows : List (List Colour)) × AreRowsInTable form asked.table asked.runs rows
    × IsTextTold (coded_strip form asked.k rows) old new len status)
    ⊎ ((status ≡ 4) × (len ≡ 0) × (new ≡ old))))
    ⊎ ((status ≡ 7) × (len ≡ 0) × (new ≡ old)
    × ((form : StripForm) (rows : List (List Colour)) → IsFormWith asked.form asked.k form
    → AreRowsInTable form asked.table asked.runs rows → ⊥))
