-- What is left of a damaged strip: each row that stands between its EOLs is found, and each other
-- one is lost, and named. No row is made up, copied or guessed.
-- A definition without a citation is this project's profile.
use Rattle.std.specs.Prelude.{◌≡◌, ◌≢◌, ℕ, suc, ◌+◌, ◌-◌, ◌<◌, ◌⊎◌, Bool, true, false}
use Rattle.std.specs.Prelude.{nat_le, if◌then◌else◌, List, [], ◌∷◌, ◌++◌, replicate, Option, Some}
use Rattle.std.specs.Prelude.{None, option_map, MatchOption}
use Rattle.fax_bits.specs.Reading.{Read, read, failed}
use Rattle.fax_bits.specs.declared.Colour.{Colour}
use Rattle.fax_page.specs.declared.StripFault.TheVariants.{DataEnds, MissingEol}
use Rattle.fax_page.specs.Lines.{Coding, Mmr, Dimension, TwoDimensional}
use Rattle.fax_page.specs.Lines.{StripForm, StripFault, IsCause, IsLine, in_code, next_one}
use Rattle.fax_page.specs.Lines.{read_start, white_row}
use Rattle.fax_page.specs.Strip.{eol_bits}

-- what becomes of a row: it is found; it is lost, since it cannot be read, for this cause; or it is
-- read, and is lost since neither an EOL nor the end of the data follows it
pub data SalvagedRow : Type 0 where
  found : List Colour → SalvagedRow
  lost : StripFault → SalvagedRow
  unended : List Colour → SalvagedRow

-- what follows the first EOL, where so many zeros stand before the bits (T.4, section 4.1.2)
abbrev pub after_eol : ℕ → List Bool → Option (List Bool)
after_eol ahead [] = None
after_eol ahead (false ∷ b) = after_eol (suc ahead) b
after_eol ahead (true ∷ b) = if nat_le 11 ahead then (Some b) else (after_eol 0 b)

-- where the next row begins after a lost one, of which the EOL is looked for in these bits: at the
-- first EOL among them. In MMR no row has one (T.4, section 4.1.2; T.6, section 2.2.1)
abbrev pub resync_point : Coding → List Bool → Option (List Bool)
resync_point Mmr from = None
resync_point coding from = option_map (λ rest. eol_bits ++ rest) (after_eol 0 from)

-- where the next EOL is looked for after row i, which is lost: after its own EOL and tag bit, or
-- from its place on where it has none; where the data end before its codes nothing is left
abbrev pub resync_from : List Bool → Read Dimension StripFault → List Bool
resync_from b (read dimension codes) = codes
resync_from b (failed DataEnds) = []
resync_from b (failed fault) = b

-- row i is coded over the row before it (T.4, section 4.2.2; T.6, section 2.2.1)
abbrev pub IsTwoDimensionalNext : Coding → ℕ → List Bool → Type 0
IsTwoDimensionalNext coding i b =
    (codes : List Bool) × (read_start coding i b ≡ read TwoDimensional codes)

-- row i is this one over its reference, and the rest follows it. Where the row before it is lost,
-- for some cause, it is not coded over that one
pub record IsReadFrom (form : StripForm) (i : ℕ) (before : Option StripFault)
    (reference : List Colour) (b : List Bool) (row : List Colour) (rest : List Bool) : Type 0 where
  pub line : IsLine form i reference b row rest
  pub alone : before ≢ None → IsTwoDimensionalNext form.coding i b → ⊥

-- an EOL is expected after row i: in MH and MR, after each row of a strip but the last
abbrev pub NeedsEol : StripForm → ℕ → Type 0
NeedsEol form i = (form.coding ≢ Mmr) × (i + 1 < form.rows)

-- row i cannot be read, for this cause: the one that its own bits give, or that of the row before
-- it, where that one is lost and it is coded over it
abbrev pub IsLostBecause : StripForm → ℕ → Option StripFault → List Colour → List Bool → StripFault
    → Type 0
IsLostBecause form i before reference b fault =
    ((before ≡ Some fault) × IsTwoDimensionalNext form.coding i b)
    ⊎ (((before ≡ None) ⊎ (IsTwoDimensionalNext form.coding i b → ⊥))
    × IsCause form i reference b fault)

-- after row i, which is lost for this cause, the next one begins at the next EOL; where none is
-- left all other rows are lost
abbrev pub ResumesAfter : StripForm → ℕ → List Bool → StripFault → (List Bool → Type 0)
    → List SalvagedRow → Type 0
ResumesAfter form i b fault at_eol rows =
    (from : List Bool) × (resync_from b (read_start form.coding i b) ≡ from)
    × MatchOption (resync_point form.coding from) (rows
    ≡ replicate (form.rows - (i + 1)) (lost fault))
    at_eol

-- from row i on these rows are found or lost, over this reference; before it stands a row that is
-- lost, where a cause is given: then the reference is white, and no row is read over it
abbrev pub AreSalvaged : StripForm → ℕ → Option StripFault → List Colour → List Bool
    → List SalvagedRow → Type 0
AreSalvaged form i before reference b [] = i ≡ form.rows
AreSalvaged form i before reference b (found row ∷ rows) =
    (rest : List Bool) × (i < form.rows) × IsReadFrom form i before reference b row rest
    × (NeedsEol form i → next_one 0 rest ≢ in_code) × AreSalvaged form (i + 1) None row rest rows
AreSalvaged form i before reference b (lost fault ∷ rows) =
    (i < form.rows) × IsLostBecause form i before reference b fault
    × ResumesAfter form i b fault
    (λ upcoming. AreSalvaged form (i + 1) (Some fault) (white_row form.width) upcoming rows) rows
AreSalvaged form i before reference b (unended row ∷ rows) =
    (rest : List Bool) × IsReadFrom form i before reference b row rest
    × NeedsEol form i × (next_one 0 rest ≡ in_code)
    × ResumesAfter form i b MissingEol
    (λ upcoming. AreSalvaged form (i + 1) (Some MissingEol) (white_row form.width) upcoming rows)
    rows

-- what is left of a strip: each of its rows is found or lost, in order
abbrev pub IsSalvagedStrip : StripForm → List Bool → List SalvagedRow → Type 0
IsSalvagedStrip form b rows = AreSalvaged form 0 None (white_row form.width) b rows
