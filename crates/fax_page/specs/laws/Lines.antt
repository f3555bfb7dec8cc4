-- The rows of a strip, line by line: what a function reads of them is said of each row here, from
-- any row on. A function of the module `laws` proves that both are the same.
use Rattle.std.specs.Prelude.{◌≡◌, ℕ, ◌+◌, ◌<◌, ◌↔◌, Bool, List, [], ◌∷◌, Option, Some, None}
use Rattle.fax_bits.specs.declared.Colour.{Colour}
use Rattle.fax_page.specs.declared.StripFault.{StripFault}
use Rattle.fax_page.specs.declared.StripForm.{StripForm}
use Rattle.fax_page.specs.Lines.{IsCause, IsLine}
use Rattle.fax_page.specs.Strip.{read_lines, read_strip}

-- from row i on, over this reference, the bits are these rows, each over the row before it, and
-- then those that are left: the strip has all its rows, or this fault is in the way of the next
abbrev pub AreLines : StripForm → ℕ → List Colour → List Bool → List (List Colour)
    → Option StripFault → List Bool → Type 0
AreLines form i reference b [] None remaining = (b ≡ remaining) × (i ≡ form.rows)
AreLines form i reference b [] (Some fault) remaining =
    (b ≡ remaining) × (i < form.rows) × IsCause form i reference b fault
AreLines form i reference b (row ∷ rows) end remaining =
    (rest : List Bool) × (i < form.rows) × IsLine form i reference b row rest
    × AreLines form (i + 1) row rest rows end remaining

-- where n rows stand from row i on, these lines are what is read of them
abbrev pub LinesAreReadByAFunction : Type 0
LinesAreReadByAFunction =
    (n : ℕ) (form : StripForm) (i : ℕ) (reference : List Colour) (b : List Bool)
    (rows : List (List Colour)) (end : Option StripFault) (remaining : List Bool)
    → i + n ≡ form.rows
    → AreLines form i reference b rows end remaining
    ↔ (read_lines n form i reference b
    ≡ record { rows = rows; end = end; remaining = remaining })

-- the bits are a strip with these rows and this end
abbrev pub IsStrip : StripForm → List Bool → List (List Colour) → Option StripFault → Type 0
IsStrip form b rows end =
    let strip = read_strip form b in
    (strip.rows ≡ rows) × (strip.end ≡ end)
