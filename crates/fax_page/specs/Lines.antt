-- How a row begins in a strip, and what keeps it from being read.
-- A definition without a citation is this project's profile.
use Rattle.std.specs.Prelude.{◌≡◌, ℕ, zero, suc, nat_le, if◌then◌else◌, Bool, true, false}
use Rattle.std.specs.Prelude.{List, [], ◌∷◌, replicate, Option, Some, None}
use Rattle.fax_bits.specs.Codes.{after_front}
use Rattle.fax_bits.specs.Reading.{Read, read, failed, ◌>>=◌, map_fault}
use Rattle.fax_rows.specs.Rows.{Colour, White}
use Rattle.fax_rows.specs.ReadRows.{read_one_dimensional, read_two_dimensional}
use Rattle.fax_rows.specs.declared.RowFault.{RowFault}
use Rattle.fax_rows.specs.declared.RowFault.TheVariants as in_row
use Rattle.fax_page.specs.declared.StripFault.TheVariants.{DataEnds, BadCode, Extension, RunTooLong}
use Rattle.fax_page.specs.declared.StripFault.TheVariants.{OutOfRow, MissingEol, EndMarker}
pub use Rattle.fax_page.specs.declared.Dimension.{Dimension}
pub use Rattle.fax_page.specs.declared.Dimension.TheVariants.{OneDimensional, TwoDimensional}
pub use Rattle.fax_page.specs.declared.Coding.{Coding}
pub use Rattle.fax_page.specs.declared.Coding.TheVariants.{Mh, Mr, Mmr}
pub use Rattle.fax_page.specs.declared.StripForm.{StripForm}
pub use Rattle.fax_page.specs.declared.StripFault.{StripFault}

-- a strip's first reference is all white (T.6, section 2.2.1; in MR this project's profile, since
-- T.4 begins a page with a one-dimensional row)
abbrev pub white_row : ℕ → List Colour
white_row width = replicate width White

-- the bit after an EOL in MR that says how the next row is coded (T.4, section 4.2.2)
abbrev pub tag_bit : Dimension → Bool
tag_bit OneDimensional = true
tag_bit TwoDimensional = false

-- the next 1, after so many zeros: after eleven or more it ends an EOL, which these bits follow
-- (T.4, sections 4.1.2, 4.1.3 and 4.2.3); after fewer it stands in a code; or none is left
pub data NextOne : Type 0 where
  ends_line : List Bool → NextOne
  in_code : NextOne
  not_there : NextOne

abbrev pub next_one : ℕ → List Bool → NextOne
next_one n [] = not_there
next_one n (false ∷ b) = next_one (suc n) b
next_one n (true ∷ b) = if nat_le 11 n then ends_line b else in_code

-- what stands before the codes of row i of a strip: in MH an EOL, in MR an EOL and a tag bit,
-- nothing in MMR. How the row is coded, or the fault (T.4, sections 4.1.2 and 4.2.2; T.6, section
-- 2.2.1; that row 0 of MH may lack its EOL is this project's profile)
abbrev pub start_by : Coding → ℕ → List Bool → NextOne → Read Dimension StripFault
start_by Mmr i b one = read TwoDimensional b
start_by Mh i b (ends_line codes) = read OneDimensional codes
start_by Mh zero b in_code = read OneDimensional b
start_by Mr i b (ends_line []) = failed DataEnds
start_by Mr i b (ends_line (tag ∷ codes)) =
    read (if tag then OneDimensional else TwoDimensional) codes
start_by _ i b in_code = failed MissingEol
start_by _ i b not_there = failed DataEnds

abbrev pub read_start : Coding → ℕ → List Bool → Read Dimension StripFault
read_start coding i b = start_by coding i b (next_one 0 b)

-- eleven zeros where a row's first code is next are an end marker, whatever follows them; after
-- fewer, and nothing more, the data ends. Else the codes may be read, and nothing is
abbrev pub first_bits : Option (List Bool) → NextOne → List Bool → Read (Unit {0}) StripFault
first_bits (Some after) one b = failed EndMarker
first_bits None not_there b = failed DataEnds
first_bits None one b = read tt b

abbrev pub check_first : List Bool → Read (Unit {0}) StripFault
check_first b = first_bits (after_front (replicate 11 false) b) (next_one 0 b) b

-- the codes of a row, coded so (T.4, sections 4.1.1 and 4.2.1.3.3)
abbrev pub read_codes : Dimension → ℕ → List Colour → List Bool → Read (List Colour) RowFault
read_codes OneDimensional width reference b = read_one_dimensional width b
read_codes TwoDimensional width reference b = read_two_dimensional reference b

-- a strip's name for the fault of a row
abbrev pub strip_fault : RowFault → StripFault
strip_fault in_row.DataEnds = DataEnds
strip_fault in_row.BadCode = BadCode
strip_fault in_row.Extension = Extension
strip_fault in_row.RunTooLong = RunTooLong
strip_fault in_row.OutOfRow = OutOfRow

-- row i of a strip over its reference
abbrev pub codes_after : StripForm → List Colour → Dimension → List Bool
    → Read (List Colour) StripFault
codes_after form reference dimension codes =
    check_first codes
    >>= λ _ b. map_fault strip_fault (read_codes dimension form.width reference b)

abbrev pub read_line : StripForm → ℕ → List Colour → List Bool → Read (List Colour) StripFault
read_line form i reference b = read_start form.coding i b >>= codes_after form reference

-- row i of a strip is this row over its reference, and the rest follows it
abbrev pub IsLine : StripForm → ℕ → List Colour → List Bool → List Colour → List Bool → Type 0
IsLine form i reference b row rest = read_line form i reference b ≡ read row rest

-- row i of a strip is not there, for this cause
abbrev pub IsCause : StripForm → ℕ → List Colour → List Bool → StripFault → Type 0
IsCause form i reference b fault = read_line form i reference b ≡ failed fault
