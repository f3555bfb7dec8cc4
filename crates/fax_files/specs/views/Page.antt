-- The limits of a page's form.
-- A definition without a citation is this project's profile.
use Rattle.std.specs.Prelude.{◌≡◌, ◌≢◌, ℕ, ◌<◌, ◌≤◌, true}
use Rattle.fax_page.specs.declared.Coding.TheVariants.{Mmr}
use Rattle.fax_files.specs.Page.{most_pels, most_rows}
use Rattle.fax_files.specs.declared.PageForm.{PageForm}
use Rattle.std.specs.Int.{div_ceil}

-- the number of strips: the rows divided by those of a strip, rounded up (TIFF 6.0, RowsPerStrip)
abbrev pub strip_count : ℕ → ℕ → ℕ
strip_count rows rows_per_strip = div_ceil rows rows_per_strip

-- a rational with numerator and denominator above 0, of 32 bits each (TIFF 6.0, section 2)
pub record IsGoodRational (value : ℕ × ℕ) : Type 0 where
  pub some_top : 1 ≤ value.0
  pub top : value.0 < 4294967296
  pub some_bottom : 1 ≤ value.1
  pub bottom : value.1 < 4294967296

-- the limits of a page's form; EOLs are aligned only where rows have them
pub record IsPageForm (form : PageForm) : Type 0 where
  pub some_width : 1 ≤ form.width
  pub width : form.width ≤ most_pels
  pub some_rows : 1 ≤ form.rows
  pub rows : form.rows ≤ most_rows
  pub some_rows_per_strip : 1 ≤ form.rows_per_strip
  pub rows_per_strip : form.rows_per_strip ≤ form.rows
  pub strips : form.strips ≡ strip_count form.rows form.rows_per_strip
  pub x : IsGoodRational form.x
  pub y : IsGoodRational form.y
  pub some_unit : 1 ≤ form.unit
  pub unit : form.unit ≤ 3
  pub aligned : form.aligned ≡ true → form.coding ≢ Mmr
