-- A strip that is written row by row.
use Rattle.std.specs.Prelude.{◌≡◌, ℕ, ◌<◌, ◌≤◌, Bool, List, ◌++◌, length}
use Rattle.fax_bits.specs.declared.Colour.{Colour}
use Rattle.fax_bits.specs.declared.FillOrder.{FillOrder}
use Rattle.fax_page.specs.declared.StripForm.{StripForm}
use Rattle.fax_page.specs.Strip.{coded_lines}
use Rattle.fax_page.specs.views.Strip.{IsStripForm}
use Rattle.fax_page.specs.views.Writer.{WriterState}

-- the form is within the limits, k is not 0, the bits are put in the form's order, the last row has
-- the form's width, and there are no more rows than the form says
pub record IsWriting (form : StripForm) (k : ℕ) (order : FillOrder) (row : ℕ)
    (last : List Colour) : Type 0 where
  pub limits : IsStripForm form
  pub some_k : 0 < k
  pub same_order : order ≡ form.order
  pub width : length last ≡ form.width
  pub within : row ≤ form.rows

-- the bits of a strip are these, and it is as it was otherwise
abbrev pub with_bits : WriterState → List Bool → WriterState
with_bits writer bits = record writer { bits = bits }

-- the codes of these rows were put, and they are not counted yet
abbrev pub with_rows : WriterState → List (List Colour) → WriterState
with_rows writer rows = with_bits writer
    (writer.bits
    ++ coded_lines writer.form writer.k (length writer.bits) writer.row writer.last rows)
