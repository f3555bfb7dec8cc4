-- Places of rows.
-- A definition without a citation is this project's profile.
use Rattle.std.specs.Prelude.{◌≡◌, ℕ, ◌+◌, ◌*◌, ◌/◌, ◌%◌, ◌≤◌, ◌==◌, nat_lt, if◌then◌else◌}
use Rattle.std.specs.Prelude.{List, length}
use Rattle.std.specs.Prelude.{Option, Some, IfSome}
use Rattle.fax_rows.specs.Rows.{White, pels_of_runs, runs_of}
use Rattle.fax_files.specs.declared.PageForm.{PageForm}
use Rattle.fax_walk.specs.declared.cursor.Cursor.{Cursor}
use Rattle.fax_walk.specs.Pages.{LongCursorValue}
use Rattle.fax_walk.specs.Items.{StripPosition, RowPosition}
use Rattle.fax_walk.specs.Items.{first_at}

-- the cursor of a place
abbrev pub cursor_at : RowPosition → Cursor
cursor_at at = record { page = at.page; row = at.row }

-- the number of the strip that holds row r, and the row's number in it (TIFF 6.0, RowsPerStrip)
abbrev pub strip_at : PageForm → ℕ → ℕ
strip_at form r = r / form.rows_per_strip

abbrev pub row_in_strip : PageForm → ℕ → ℕ
row_in_strip form r = r % form.rows_per_strip

-- the place of row r of a page: inside its strip, at a strip's first row, or on the page after
abbrev pub place_on : PageForm → ℕ → ℕ → StripPosition → RowPosition
place_on form p r inner =
    if nat_lt r form.rows
    then (if row_in_strip form r == 0 then first_at p r
    else record { page = p; row = r; inner = Some inner })
    else first_at (p + 1) 0

-- the place of the first row r of a strip, or on the page after
abbrev pub first_on : PageForm → ℕ → ℕ → RowPosition
first_on form p r = if nat_lt r form.rows then first_at p r else first_at (p + 1) 0

-- a place inside a strip has the longest runs of a row of the width, as coded, and its bits
abbrev pub IsInner : ℕ → List ℕ → LongCursorValue → Type 0
IsInner width bytes place =
    (place.bits ≤ 8 * length bytes) × (length (pels_of_runs White place.runs) ≡ width)
    × (runs_of (pels_of_runs White place.runs) ≡ place.runs)

-- the same, where the file has the strip
abbrev pub FitsStrip : ℕ → Option (List ℕ) → LongCursorValue → Type 0
FitsStrip width found place = IfSome found (λ bytes. IsInner width bytes place)
