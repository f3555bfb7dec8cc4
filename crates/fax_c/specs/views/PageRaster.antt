-- A page of a file, written into a raster.
-- A definition without a citation is this project's profile.
use Rattle.std.specs.Prelude.{◌≡◌, ℕ, ◌<◌, ◌≤◌, ◌⊎◌, List, length}
use Rattle.fax_rows.specs.Coded.{packed_len}
use Rattle.fax_walk.specs.declared.walk_start.WalkStart.{WalkStart}
use Rattle.fax_walk.specs.declared.walk_start.WalkStart.TheVariants.{AtCursor}
use Rattle.fax_walk.specs.declared.end.End.{End}
use Rattle.fax_walk.specs.Pages.{FormItem, IsFormTail}
use Rattle.fax_walk.specs.views.InOrder.{EndsAfter, IsNumber}
use Rattle.fax_c.specs.declared.fill.Filled.{Filled}
use Rattle.fax_c.specs.declared.fill.Stop.{Stop}
use Rattle.fax_c.specs.declared.fill.Stop.TheVariants.{Ended, NoRoom}
use Rattle.fax_c.specs.declared.forms.FaxForm.{FaxForm}
use Rattle.fax_c.specs.declared.rows.FaxRow.{FaxRow}
use Rattle.fax_c.specs.declared.told.FaxTold.{FaxTold}
use Rattle.fax_c.specs.Forms.{form_numbers}
use Rattle.fax_c.specs.Raster.{padded_row}
use Rattle.fax_c.specs.Told.{IsTold, none_filled_at}
use Rattle.fax_c.specs.views.Filled.{AreRowsFilled}

-- the first rows of what a walk returns that begins so are written, each in so many bytes at least,
-- as they are with a table of so many rows
abbrev pub IsRasterFilled : List ℕ → WalkStart → ℕ → ℕ → List ℕ → Filled → List ℕ → Type 0
IsRasterFilled file origin asked stride old filled new =
    (table : List FaxRow) × (lie : List FaxRow) × (length table ≡ asked)
    × AreRowsFilled (padded_row stride) file origin table old filled lie new

-- nothing is written of a page, for this reason
abbrev pub none_filled : ℕ → Stop → Filled
none_filled page = none_filled_at (record { page = page; row = 0 })

-- a page's form is reported, and its rows are written and reported, where a row has room in so many
-- bytes; or there is no such page, and the end is reported
abbrev pub TellsPage : List ℕ → ℕ → ℕ → FaxForm → FaxForm → List ℕ → List ℕ → FaxTold → ℕ → Type 0
TellsPage file page stride old_form form old new told status =
    (filled : Filled) × IsTold filled told status
    × (((item : FormItem) × IsNumber (IsFormTail file (record { page = page; row = 0 })) 0 item
    × (form ≡ form_numbers item.form)
    × (((packed_len item.form.width ≤ stride)
    × IsRasterFilled file (AtCursor (record { page = page; row = 0 }))
    item.form.rows stride old filled
    new)
    ⊎ ((stride < packed_len item.form.width) × (filled ≡ none_filled page NoRoom) × (new ≡ old))))
    ⊎ ((end : End) × EndsAfter (IsFormTail file (record { page = page; row = 0 })) 0 end
    × (filled ≡ none_filled page (Ended end)) × (form ≡ old_form) × (new ≡ old)))
