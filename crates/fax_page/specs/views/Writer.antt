-- A strip that is written row by row.
use Rattle.std.specs.Prelude.{◌≡◌, ℕ, ◌+◌, Bool, true, false, List, [], ◌∷◌, ◌++◌, length}
use Rattle.std.specs.Prelude.{Result, Ok, Err}
use Rattle.fax_bits.specs.Bits.{packed}
use Rattle.fax_bits.specs.declared.Colour.{Colour}
use Rattle.fax_bits.specs.declared.Memory.{Memory}
use Rattle.fax_page.specs.declared.StripForm.{StripForm}
use Rattle.fax_page.specs.Strip.{coded_line, coded_lines, end_bits}
use Rattle.fax_page.specs.Lines.{white_row}

-- how far a strip is written: its form and k, its bits, how many rows were put, the last of them,
-- or a white row before the first, and whether memory was refused
pub record WriterState : Type 0 where
  pub form : StripForm
  pub k : ℕ
  pub bits : List Bool
  pub row : ℕ
  pub last : List Colour
  pub refused : Bool

-- before the first row
abbrev pub writer_beginning : StripForm → ℕ → WriterState
writer_beginning form k =
    record { form = form; k = k; bits = []; row = 0; last = white_row form.width; refused = false }

-- the row is written over the last one, and is the last one now
pub record PutsRow (old : WriterState) (row : List Colour) (new : WriterState) : Type 0 where
  pub not_refused : old.refused ≡ false
  pub put : new ≡ record old {
    bits = old.bits ++ coded_line old.form old.k (length old.bits) old.row old.last row;
    row = old.row + 1;
    last = row;
  }

-- the last of the rows, or the reference where there is none
abbrev pub last_of : List Colour → List (List Colour) → List Colour
last_of reference [] = reference
last_of reference (row ∷ rows) = last_of row rows

-- the rows are written one after another
pub record PutsRows (old : WriterState) (rows : List (List Colour)) (new : WriterState)
    : Type 0 where
  pub not_refused : old.refused ≡ false
  pub put : new ≡ record old {
    bits = old.bits ++ coded_lines old.form old.k (length old.bits) old.row old.last rows;
    row = old.row + length rows;
    last = last_of old.last rows;
  }

-- memory is refused from now on, and nothing is said of the bits
abbrev pub Refuses : WriterState → WriterState → Type 0
Refuses old new = new ≡ record old { bits = new.bits; refused = true }

-- what a call that puts a row answers
abbrev pub IsPutRow : WriterState → List Colour → Result (Unit {0}) Memory → WriterState → Type 0
IsPutRow old row (Ok done) new = PutsRow old row new
IsPutRow old row (Err memory) new = Refuses old new

-- what a call that puts rows answers
abbrev pub IsPutRows : WriterState → List (List Colour) → Result (Unit {0}) Memory → WriterState
    → Type 0
IsPutRows old rows (Ok done) new = PutsRows old rows new
IsPutRows old rows (Err memory) new = Refuses old new

-- all rows were put, and these are the bytes of the strip
pub record FinishesAs (writer : WriterState) (bytes : List ℕ) : Type 0 where
  pub not_refused : writer.refused ≡ false
  pub bytes_are : bytes ≡ packed writer.form.order (writer.bits ++ end_bits writer.form.coding)
