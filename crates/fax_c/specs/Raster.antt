-- Rows in a raster: each in so many bytes, one after another.
-- A definition without a citation is this project's profile.
use Rattle.std.specs.Prelude.{ℕ, ◌+◌, ◌*◌, ◌-◌, ◌≤◌, List, ◌++◌, length, map, take, drop, replicate}
use Rattle.std.specs.List.{range_with_len}
use Rattle.fax_rows.specs.Rows.{Colour}
use Rattle.fax_page.specs.Strip.{coded_strip}
use Rattle.fax_files.specs.declared.PageForm.{PageForm}
use Rattle.fax_files.specs.Page.{strip_form}
use Rattle.fax_rows.specs.Coded.{packed_len, packed_row, unpacked_row}

-- a row's bytes, and zeros after them up to so many bytes
abbrev pub padded_row : ℕ → List Colour → List ℕ
padded_row stride row =
    let bytes = packed_row row in bytes ++ replicate (stride - length bytes) 0

-- so many bytes hold a raster of so many rows, of which the last may end with its pels
abbrev pub HoldsRaster : ℕ → ℕ → ℕ → ℕ → Type 0
HoldsRaster len width rows stride = (rows - 1) * stride + packed_len width ≤ len

-- what is to be coded: the numbers of a form, k, and a raster with so many bytes a row
pub record AskedRaster (F : Type 0) : Type 0 where
  pub form : F
  pub k : ℕ
  pub raster : List ℕ
  pub stride : ℕ

-- row i of a raster: so many pels from byte i * stride on
abbrev pub raster_row : ℕ → ℕ → List ℕ → ℕ → List Colour
raster_row width stride bytes i =
    unpacked_row width (take (packed_len width) (drop (i * stride) bytes))

-- so many rows of a raster, from one on
abbrev pub rows_of_raster : ℕ → ℕ → List ℕ → ℕ → ℕ → List (List Colour)
rows_of_raster width stride bytes first count =
    map (raster_row width stride bytes) (range_with_len first count)

-- the strips of a page, whose rows are those of a raster (TIFF 6.0, RowsPerStrip)
abbrev pub page_strips : PageForm → ℕ → ℕ → List ℕ → List (List ℕ)
page_strips form k stride bytes =
    let strip : ℕ → List ℕ =
    λ s. coded_strip (strip_form form s) k
    (rows_of_raster form.width stride bytes (s * form.rows_per_strip) (strip_form form s).rows) in
    map strip (range_with_len 0 form.strips)
