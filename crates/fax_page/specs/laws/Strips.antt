-- Laws of strips, which the functions of the module `laws` prove.
-- A definition without a citation is this project's profile.
use Rattle.std.specs.Prelude.{◌≡◌, ℕ, ◌+◌, ◌<◌, ◌≤◌, ◌%◌, Bool, true, List, ◌++◌, length}
use Rattle.std.specs.Prelude.{drop, None, All}
use Rattle.fax_bits.specs.declared.Colour.{Colour}
use Rattle.fax_page.specs.declared.StripForm.{StripForm}
use Rattle.fax_page.specs.Lines.{IsLine, IsCause}
use Rattle.fax_bits.specs.Bits.{bits}
use Rattle.fax_bits.specs.laws.Codes.{IsReadInOneWay}
use Rattle.fax_page.specs.views.Strip.{IsStripForm}
use Rattle.fax_page.specs.laws.Lines.{IsStrip}
use Rattle.fax_page.specs.Strip.{eol_bits, fill_zeros, coded_bits, coded_strip}

-- the rows are as many and as wide as the form says
pub record AreRowsOf (form : StripForm) (rows : List (List Colour)) : Type 0 where
  pub count : length rows ≡ form.rows
  pub widths : All (λ row. length row ≡ form.width) rows

-- bits are read in one way as row i of a strip over a reference row: one row and one rest, or one
-- cause. The rest after a row that begins among some bits is the end of them, and a row over one
-- of the width has it too
pub record ReadsLinesOneWay (form : StripForm) (i : ℕ) (reference : List Colour) : Type 0 where
  pub line : IsReadInOneWay (IsLine form i reference) (IsCause form i reference)
  pub rest : (b : List Bool) (n : ℕ) (row : List Colour) (rest : List Bool)
      → IsLine form i reference (drop n b) row rest
      → (after : ℕ) × (after ≤ length b) × (drop after b ≡ rest)
  pub width : (b : List Bool) (row : List Colour) (rest : List Bool)
      → length reference ≡ form.width → IsLine form i reference b row rest
      → length row ≡ form.width

-- after so many bits and this much fill an EOL ends on a byte boundary
-- (T.4, section 4.1.3; TIFF 6.0, T4Options)
abbrev pub IsAligned : ℕ → ℕ → Type 0
IsAligned before fill = (before + fill + length eol_bits) % 8 ≡ 0

-- the fill before an aligned EOL makes it end on a byte boundary, and less fill does not
-- (T.4, section 4.1.3; TIFF 6.0, T4Options)
pub record IsLeastFill (before : ℕ) : Type 0 where
  pub aligned : IsAligned before (fill_zeros true before)
  pub least : (fewer : ℕ) → fewer < fill_zeros true before → IsAligned before fewer → ⊥

-- the bits of a written strip, whatever follows them, are a strip with its rows and no fault
abbrev pub CodedBitsAreRead : Type 0
CodedBitsAreRead =
    (form : StripForm) (k : ℕ) (rows : List (List Colour)) (more : List Bool)
    → IsStripForm form → AreRowsOf form rows
    → IsStrip form (coded_bits form k rows ++ more) rows None

-- a written strip is read back: its bytes are a strip with its rows and no fault
abbrev pub CodedStripsAreRead : Type 0
CodedStripsAreRead =
    (form : StripForm) (k : ℕ) (rows : List (List Colour)) → IsStripForm form → AreRowsOf form rows
    → IsStrip form (bits form.order (coded_strip form k rows)) rows None
