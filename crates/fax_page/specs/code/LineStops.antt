-- Why a row of a strip could not be read.
use Rattle.std.specs.Prelude.{◌≡◌, ℕ, Bool, List}
use Rattle.fax_bits.specs.declared.Colour.{Colour}
use Rattle.fax_page.specs.declared.lines.LineStop.{LineStop}
use Rattle.fax_page.specs.declared.lines.LineStop.TheVariants.{Start, Codes}
use Rattle.fax_bits.specs.Reading.{read, failed}
use Rattle.fax_page.specs.Lines.{Dimension, StripForm, read_codes, read_start}

-- row i does not begin, or it does, and its codes stop for this cause
abbrev pub IsLineStop : StripForm → ℕ → List Colour → List Bool → LineStop → Type 0
IsLineStop form i reference b (Start fault) = read_start form.coding i b ≡ failed fault
IsLineStop form i reference b (Codes cause) =
    (dimension : Dimension) × (codes : List Bool)
    × (read_start form.coding i b ≡ read dimension codes)
    × (read_codes dimension form.width reference codes ≡ failed cause)
