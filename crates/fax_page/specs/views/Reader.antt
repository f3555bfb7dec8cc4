-- A strip that is read row by row.
use Rattle.std.specs.Prelude.{◌≡◌, ℕ, ◌+◌, ◌-◌, ◌*◌, ◌<◌, ◌≤◌, ◌⊎◌, min, Bool, true, false, List}
use Rattle.std.specs.Prelude.{length, drop, Option, Some, None, Result, Ok, Err}
use Rattle.fax_bits.specs.declared.Colour.{Colour}
use Rattle.fax_bits.specs.Bits.{bits}
use Rattle.fax_page.specs.declared.StripForm.{StripForm}
use Rattle.fax_page.specs.declared.StripFault.{StripFault}
use Rattle.fax_rows.specs.Rows.{runs_of}
use Rattle.fax_page.specs.declared.PlaceFault.{PlaceFault}
use Rattle.fax_page.specs.declared.PlaceFault.TheVariants.{Memory, Outside}
use Rattle.fax_page.specs.declared.ReferenceRow.{ReferenceRow}
use Rattle.fax_page.specs.declared.ReferenceRow.TheVariants.{Runs, White}
use Rattle.fax_page.specs.Lines.{IsLine, IsCause, white_row}

-- how far a strip is read: its form and its bytes, the place in bits and the number of the next
-- row, how many rows the reader answered, over all its strips, the row before the next one, and the
-- fault that was returned
pub record StripState : Type 0 where
  pub form : StripForm
  pub bytes : List ℕ
  pub place : ℕ
  pub row : ℕ
  pub read : ℕ
  pub reference : List Colour
  pub fault : Option StripFault

-- the bits from the next row on
abbrev pub bits_left : StripState → List Bool
bits_left state = drop state.place (bits state.form.order state.bytes)

-- before the first row of the bytes, where the reader answered so many rows before
abbrev pub strip_after : ℕ → StripForm → List ℕ → StripState
strip_after read form bytes = record {
  form = form;
  bytes = bytes;
  place = 0;
  row = 0;
  read = read;
  reference = white_row form.width;
  fault = None;
}

-- before the first row of the bytes, which are a reader's first
abbrev pub strip_beginning : StripForm → List ℕ → StripState
strip_beginning form bytes = strip_after 0 form bytes

-- before the first row of other bytes, which have so many rows; the rest of the form stays
abbrev pub restarted : StripState → List ℕ → ℕ → StripState
restarted old bytes rows = strip_after old.read (record old.form { rows = rows }) bytes

-- before row i of other bytes, which have so many rows, after so many bits, over this reference;
-- the rest of the form stays
abbrev pub restarted_at : StripState → List ℕ → ℕ → ℕ → ℕ → List Colour → StripState
restarted_at old bytes rows i place reference = record {
  form = record old.form { rows = rows };
  bytes = bytes;
  place = place;
  row = i;
  read = old.read;
  reference = reference;
  fault = None;
}

-- a row of a width is the one before a place
abbrev pub IsBefore : ℕ → ReferenceRow → List Colour → Type 0
IsBefore width White row = row ≡ white_row width
IsBefore width (Runs runs) row = (length row ≡ width) × (runs_of row ≡ runs.now)

-- before row i of the bytes, which are a reader's first, after so many bits, with this row before
-- it; or there is no such place, or memory was refused
abbrev pub IsStartedInside : StripForm → List ℕ → ℕ → ℕ → ReferenceRow
    → Result StripState PlaceFault → Type 0
IsStartedInside form bytes i place before (Ok state) =
    (place ≤ 8 * length bytes) × IsBefore form.width before state.reference
    × (state ≡ restarted_at (strip_beginning form bytes) bytes form.rows i place state.reference)
IsStartedInside form bytes i place before (Err Outside) =
    place ≤ 8 * length bytes → (row : List Colour) → IsBefore form.width before row → ⊥
IsStartedInside form bytes i place before (Err Memory) =
    (place ≤ 8 * length bytes) × (row : List Colour) × IsBefore form.width before row

-- a count of rows and one more, up to the greatest number of 64 bits
abbrev pub counted : ℕ → ℕ
counted read = min (read + 1) 18446744073709551615

-- how many rows were read, where so many were read before this strip was started at a row of it, up
-- to the greatest number of 64 bits
abbrev pub rows_read : ℕ → ℕ → ℕ → ℕ
rows_read before origin row = min (before + (row - origin)) 18446744073709551615

-- the next row is read, and the one after it comes next
pub record ReadsRow (old new : StripState) : Type 0 where
  pub no_fault : old.fault ≡ None
  pub upcoming : old.row < old.form.rows
  pub line : IsLine old.form old.row old.reference (bits_left old) new.reference (bits_left new)
  pub next_row : new.row ≡ old.row + 1
  pub read : new.read ≡ counted old.read
  pub same_form : new.form ≡ old.form
  pub same_bytes : new.bytes ≡ old.bytes
  pub still_no_fault : new.fault ≡ None
  pub within : new.place ≤ 8 * length new.bytes

-- all rows are read, and nothing changes
pub record IsAtEnd (old new : StripState) : Type 0 where
  pub no_fault : old.fault ≡ None
  pub all_read : old.row ≡ old.form.rows
  pub unchanged : new ≡ old

-- the next row is not there, for this cause, and nothing else changes
pub record MeetsFault (old : StripState) (fault : StripFault) (new : StripState) : Type 0 where
  pub no_fault : old.fault ≡ None
  pub upcoming : old.row < old.form.rows
  pub cause : IsCause old.form old.row old.reference (bits_left old) fault
  pub told : new ≡ record old { fault = Some fault }

-- the fault was returned before, and nothing changes
pub record TellsAgain (old : StripState) (fault : StripFault) (new : StripState) : Type 0 where
  pub told : old.fault ≡ Some fault
  pub unchanged : new ≡ old

-- what a call for the next row answers: whether there was one, or the fault in its place
abbrev pub IsAdvance : StripState → Result Bool StripFault → StripState → Type 0
IsAdvance old (Ok true) new = ReadsRow old new
IsAdvance old (Ok false) new = IsAtEnd old new
IsAdvance old (Err fault) new = TellsAgain old fault new ⊎ MeetsFault old fault new
