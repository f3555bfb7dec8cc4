-- A reader that reads rows one after another reads the rows of its strip.
use Rattle.std.specs.Prelude.{◌≡◌, ℕ, Bool, List, []}
use Rattle.std.specs.Prelude.{◌∷◌, ◌++◌, Option, Some, None, Err}
use Rattle.fax_bits.specs.declared.Colour.{Colour}
use Rattle.fax_bits.specs.Bits.{bits}
use Rattle.fax_page.specs.declared.StripForm.{StripForm}
use Rattle.fax_page.specs.declared.StripFault.{StripFault}
use Rattle.fax_page.specs.laws.Lines.{AreLines}
use Rattle.fax_page.specs.laws.Lines.{IsStrip}
use Rattle.fax_page.specs.views.Reader.{IsAdvance, IsAtEnd, MeetsFault, ReadsRow, StripState}
use Rattle.fax_page.specs.views.Reader.{bits_left, strip_after}

-- these rows were read, one after another, from a place of a reader to a later one: whatever lines
-- follow the later one, they follow these rows from the first place on
pub record HasReadFrom (start : StripState) (rows : List (List Colour))
    (state : StripState) : Type 0 where
  pub same_form : state.form ≡ start.form
  pub same_bytes : state.bytes ≡ start.bytes
  pub followed : (more : List (List Colour)) (end : Option StripFault) (remaining : List Bool)
      → AreLines start.form state.row state.reference (bits_left state) more end remaining
      → AreLines start.form start.row start.reference (bits_left start) (rows ++ more) end remaining

-- these rows of the bytes were read, one after another from the first on, and no more
abbrev pub HasRead : StripForm → List ℕ → List (List Colour) → StripState → Type 0
HasRead form bytes = HasReadFrom (strip_after 0 form bytes)

-- a reader that reads rows one after another, from a strip's beginning on, reads the rows of the
-- strip, up to its end
pub record ReadsRowByRow : Type 0 where
  pub begins : (read : ℕ) (form : StripForm) (bytes : List ℕ)
      → HasRead form bytes [] (strip_after read form bytes)
  pub goes_on : (form : StripForm) (bytes : List ℕ) (rows : List (List Colour))
      (old new : StripState)
      → HasRead form bytes rows old → ReadsRow old new
      → HasRead form bytes (rows ++ new.reference ∷ []) new
  pub ends : (form : StripForm) (bytes : List ℕ) (rows : List (List Colour)) (old new : StripState)
      → HasRead form bytes rows old → IsAtEnd old new
      → IsStrip form (bits form.order bytes) rows None
  pub stops : (form : StripForm) (bytes : List ℕ) (rows : List (List Colour)) (old new : StripState)
      (fault : StripFault)
      → HasRead form bytes rows old → MeetsFault old fault new
      → IsStrip form (bits form.order bytes) rows (Some fault)

-- a reader that reads rows one after another, from any place on, reads the lines from there, up to
-- their end; a fault leaves it before the row that could not be read, over the same reference
pub record StripsAreReadOn : Type 0 where
  pub begins : (start : StripState) → HasReadFrom start [] start
  pub goes_on : (start : StripState) (rows : List (List Colour)) (old new : StripState)
      → HasReadFrom start rows old → ReadsRow old new
      → HasReadFrom start (rows ++ new.reference ∷ []) new
  pub ends : (start : StripState) (rows : List (List Colour)) (old new : StripState)
      → HasReadFrom start rows old → IsAtEnd old new
      → AreLines start.form start.row start.reference (bits_left start) rows None (bits_left new)
  pub stops : (start : StripState) (rows : List (List Colour)) (old new : StripState)
      (fault : StripFault)
      → HasReadFrom start rows old → MeetsFault old fault new
      → AreLines start.form start.row start.reference (bits_left start) rows (Some fault)
      (bits_left new)
  pub stays : (old new : StripState) (fault : StripFault) → IsAdvance old (Err fault) new
      → (new.place ≡ old.place) × (new.row ≡ old.row) × (new.reference ≡ old.reference)
