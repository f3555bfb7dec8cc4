-- A strip that is read row by row.
use Rattle.std.specs.Prelude.{◌≡◌, ℕ, ◌*◌, ◌≤◌, List}
use Rattle.std.specs.Prelude.{Bool, true, false, length, Option, None}
use Rattle.fax_bits.specs.declared.Colour.{Colour}
use Rattle.fax_bits.specs.views.Source.{Source, source_of}
use Rattle.fax_page.specs.declared.StripForm.{StripForm}
use Rattle.fax_page.specs.declared.StripFault.{StripFault}
use Rattle.fax_page.specs.views.Strip.{IsStripForm}

-- the row before the next one, of two that take turns
abbrev pub row_before : Bool → List Colour → List Colour → List Colour
row_before true first second = second
row_before false first second = first

-- the form is within the limits, the bytes can be read, the reference has its width, the next row
-- stands from the one that was started at up to the place after the last, the place lies in the
-- bytes, and until a fault was met the source stands where the next row begins
pub record IsReading (form : StripForm) (bytes : List ℕ) (source : Source) (place origin row : ℕ)
    (reference : List Colour) (fault : Option StripFault) : Type 0 where
  pub limits : IsStripForm form
  pub width : length reference ≡ form.width
  pub count : length bytes ≤ 4294967295
  pub started_before : origin ≤ row
  pub within : row ≤ form.rows
  pub placed : place ≤ 8 * length bytes
  pub at_row : fault ≡ None → source ≡ source_of form.order bytes place
