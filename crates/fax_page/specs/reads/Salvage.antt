-- What is left of a damaged strip, and of damaged rows of a strip of unknown height, read by
-- functions (T.4, sections 4.1.2 and 4.2.2; T.6, section 2.2.1; the rest is this project's
-- profile).
use Rattle.std.specs.Prelude.{ℕ, zero, suc, ◌+◌, nat_lt, ◌&&◌, if◌then◌else◌, Bool, true, false}
use Rattle.std.specs.Prelude.{List, [], ◌∷◌, replicate, Option, Some, None}
use Rattle.fax_bits.specs.declared.Colour.{Colour}
use Rattle.fax_page.specs.declared.Coding.{Coding}
use Rattle.fax_page.specs.declared.Coding.TheVariants.{Mh, Mr, Mmr}
use Rattle.fax_page.specs.declared.Dimension.{Dimension}
use Rattle.fax_page.specs.declared.Dimension.TheVariants.{OneDimensional, TwoDimensional}
use Rattle.fax_page.specs.declared.RowsEnd.{RowsEnd}
use Rattle.fax_page.specs.declared.RowsEnd.TheVariants.{Fault, TooMany}
use Rattle.fax_page.specs.declared.StripFault.{StripFault}
use Rattle.fax_page.specs.declared.StripFault.TheVariants.{MissingEol}
use Rattle.fax_page.specs.declared.StripForm.{StripForm}
use Rattle.fax_bits.specs.Reading.{Read, read, failed}
use Rattle.fax_page.specs.Lines.{NextOne, in_code, next_one, read_line, read_start, white_row}
use Rattle.fax_page.specs.Salvage.{SalvagedRow, found, lost, resync_point, resync_from, unended}
use Rattle.fax_page.specs.Uncounted.{rows_end}

-- why a row is lost that is coded over one that is: for the cause of that one
abbrev pub cause_over : Option StripFault → Read Dimension StripFault → Option StripFault
cause_over None start = None
cause_over (Some fault) (failed stop) = None
cause_over (Some fault) (read OneDimensional codes) = None
cause_over (Some fault) (read TwoDimensional codes) = Some fault

-- what is read, where there is no such cause
abbrev pub unless : Option StripFault → Read (List Colour) StripFault
    → Read (List Colour) StripFault
unless None line = line
unless (Some fault) line = failed fault

-- row i of a strip, after one that is lost for a cause, or over its reference
abbrev pub read_over : StripForm → ℕ → Option StripFault → List Colour → List Bool
    → Read (List Colour) StripFault
read_over form i before reference b =
    unless (cause_over before (read_start form.coding i b)) (read_line form i reference b)

-- an EOL is expected after row i, and something else begins there
abbrev pub has_eols : Coding → Bool
has_eols Mh = true
has_eols Mr = true
has_eols Mmr = false

abbrev pub is_in_code : NextOne → Bool
is_in_code in_code = true
is_in_code _ = false

abbrev pub is_unterminated : StripForm → ℕ → List Bool → Bool
is_unterminated form i rest =
    (has_eols form.coding && nat_lt (i + 1) form.rows)
    && is_in_code (next_one 0 rest)

-- what becomes of n rows that follow one that is lost for this cause: the first of them begins at
-- the next EOL; where none is left all are lost
abbrev pub from_eol : ℕ → StripForm
    → (Option StripFault → List Colour → List Bool → List SalvagedRow) → StripFault
    → Option (List Bool) → List SalvagedRow
from_eol n form more fault None = replicate n (lost fault)
from_eol n form more fault (Some upcoming) = more (Some fault) (white_row form.width) upcoming

-- what becomes of the n rows after row i, which is lost for this cause
abbrev pub after_lost : ℕ → StripForm → ℕ → List Bool
    → (Option StripFault → List Colour → List Bool → List SalvagedRow) → StripFault
    → List SalvagedRow
after_lost n form i b more fault =
    from_eol n form more fault
    (resync_point form.coding (resync_from b (read_start form.coding i b)))

-- what becomes of row i, which is read so, and of the n rows after it
abbrev pub row_and_more : ℕ → StripForm → ℕ → List Bool
    → (Option StripFault → List Colour → List Bool → List SalvagedRow)
    → Read (List Colour) StripFault → List SalvagedRow
row_and_more n form i b more (failed fault) = lost fault ∷ after_lost n form i b more fault
row_and_more n form i b more (read row rest) =
    if is_unterminated form i rest then unended row ∷ after_lost n form i b more MissingEol
    else found row ∷ more None row rest

-- what becomes of n rows from row i on
abbrev pub salvage_rows : ℕ → StripForm → ℕ → Option StripFault → List Colour → List Bool
    → List SalvagedRow
salvage_rows zero form i before reference b = []
salvage_rows (suc n) form i before reference b =
    row_and_more n form i b (λ lost row rest. salvage_rows n form (i + 1) lost row rest)
    (read_over form i before reference b)

-- what is left of a strip
abbrev pub salvage_strip : StripForm → List Bool → List SalvagedRow
salvage_strip form b = salvage_rows form.rows form 0 None (white_row form.width) b

-- rows, found or lost, and how they end
abbrev pub RowsAndEnd : Type 0
RowsAndEnd = List SalvagedRow × RowsEnd

-- a row, and those after it
abbrev pub before_rows : SalvagedRow → RowsAndEnd → RowsAndEnd
before_rows row more = (row ∷ more.0, more.1)

-- what follows a row that is lost for this cause: rows from the next EOL on, of which there may be
-- so many; where no EOL is left, or there may be none, they end with that fault
abbrev pub uncounted_from_eol : ℕ → StripForm
    → (Option StripFault → List Colour → List Bool → RowsAndEnd) → StripFault
    → Option (List Bool) → RowsAndEnd
uncounted_from_eol (suc n) form more fault (Some upcoming) =
    more (Some fault) (white_row form.width) upcoming
uncounted_from_eol _ form more fault _ = ([], Fault fault)

abbrev pub uncounted_after_lost : ℕ → StripForm → ℕ → List Bool
    → (Option StripFault → List Colour → List Bool → RowsAndEnd) → StripFault → RowsAndEnd
uncounted_after_lost n form i b more fault =
    uncounted_from_eol n form more fault
    (resync_point form.coding (resync_from b (read_start form.coding i b)))

-- what becomes of row i, which is read so, and of those after it
abbrev pub uncounted_row : ℕ → StripForm → ℕ → List Bool
    → (Option StripFault → List Colour → List Bool → RowsAndEnd)
    → Read (List Colour) StripFault → RowsAndEnd
uncounted_row n form i b more (failed fault) =
    before_rows (lost fault) (uncounted_after_lost n form i b more fault)
uncounted_row n form i b more (read row rest) =
    if is_unterminated form i rest
    then before_rows (unended row) (uncounted_after_lost n form i b more MissingEol)
    else before_rows (found row) (more None row rest)

-- the rows end so before one that is expected, or it is read, where they do not
abbrev pub end_or_row : RowsEnd → RowsAndEnd → RowsAndEnd
end_or_row TooMany row = row
end_or_row end row = ([], end)

-- what is left from row i on, of rows of which there may be n more
abbrev pub salvage_uncounted : ℕ → StripForm → ℕ → Option StripFault → List Colour → List Bool
    → RowsAndEnd
salvage_uncounted zero form i before reference b = ([], rows_end form.coding i b None)
salvage_uncounted (suc n) form i before reference b =
    end_or_row (rows_end form.coding i b None)
    (uncounted_row n form i b (λ lost row rest. salvage_uncounted n form (i + 1) lost row rest)
    (read_over form i before reference b))

-- what is left of rows of a strip of unknown height: the form has as many rows as there may be
abbrev pub salvage_rows_and_end : StripForm → List Bool → RowsAndEnd
salvage_rows_and_end form b =
    salvage_uncounted form.rows form 0 None (white_row form.width) b
