-- A strip that is read row by row.
use Rattle.std.proofs.Common.{arith, ◌≡◌, List, [], ◌∷◌, ◌++◌, Option, Some, None, Err, refl, append_assoc, append-nil}
use Rattle.fax_bits.specs.declared.Colour.{Colour}
use Rattle.fax_page.specs.declared.StripFault.{StripFault}
use Rattle.fax_page.specs.laws.Lines.{AreLines}
use Rattle.fax_bits.specs.Bits.{bits}
use Rattle.fax_page.proofs.StripGraph.{is_strip}
use Rattle.fax_page.proofs.StripLaws.{EndsAt, no_rows}
use Rattle.fax_page.specs.views.Reader.{StripState, bits_left, strip_after, ReadsRow, IsAtEnd, MeetsFault, IsAdvance}
use Rattle.fax_page.specs.laws.Reader.{HasReadFrom, ReadsRowByRow, StripsAreReadOn}

begins_on : (start : StripState) → HasReadFrom start [] start
begins_on start = record { same_form = refl; same_bytes = refl; followed = λ more end remaining lines. lines }

-- one row more
row_read_on : (start : StripState) (rows : List (List Colour)) (old new : StripState) → HasReadFrom start rows old
    → ReadsRow old new
    → HasReadFrom start (rows ++ new.reference ∷ []) new
row_read_on start rows old new so_far reads = grind (arith, append_assoc)

-- the rows so far, and an end after them
stopped_on : (start : StripState) (rows : List (List Colour)) (state : StripState) (end : Option StripFault)
    → HasReadFrom start rows state
    → EndsAt start.form state.row state.reference (bits_left state) end
    → AreLines start.form start.row start.reference (bits_left start) rows end (bits_left state)
stopped_on start rows state end so_far stop =
    rw append-nil at
    (so_far.followed [] end (bits_left state) (no_rows start.form state.row state.reference (bits_left state) end stop))

ended_before : (start : StripState) (rows : List (List Colour)) (old new : StripState) → HasReadFrom start rows old
    → IsAtEnd old new
    → AreLines start.form start.row start.reference (bits_left start) rows None (bits_left old)
ended_before start rows old new so_far at_end = grind (arith, stopped_on)

fault_before : (start : StripState) (rows : List (List Colour)) (old new : StripState) (fault : StripFault)
    → HasReadFrom start rows old → MeetsFault old fault new
    → AreLines start.form start.row start.reference (bits_left start) rows (Some fault) (bits_left old)
fault_before start rows old new fault so_far meets = grind (arith, stopped_on)

ended_on : (start : StripState) (rows : List (List Colour)) (old new : StripState) → HasReadFrom start rows old
    → IsAtEnd old new
    → AreLines start.form start.row start.reference (bits_left start) rows None (bits_left new)
ended_on start rows old new so_far at_end = rw at_end.unchanged (ended_before start rows old new so_far at_end)

fault_met_on : (start : StripState) (rows : List (List Colour)) (old new : StripState) (fault : StripFault)
    → HasReadFrom start rows old → MeetsFault old fault new
    → AreLines start.form start.row start.reference (bits_left start) rows (Some fault) (bits_left new)
fault_met_on start rows old new fault so_far meets = rw meets.told (fault_before start rows old new fault so_far meets)

-- a fault leaves the reader where it was
stays_there : (old new : StripState) (fault : StripFault) → IsAdvance old (Err fault) new
    → (new.place ≡ old.place) × (new.row ≡ old.row) × (new.reference ≡ old.reference)
stays_there old new fault h = grind arith

-- from a strip's beginning on
pub read_row_by_row : ReadsRowByRow
read_row_by_row = record {
  begins = λ read form bytes. record {
    same_form = refl;
    same_bytes = refl;
    followed = λ more end remaining lines. lines;
  };
  goes_on = λ form bytes. row_read_on (strip_after 0 form bytes);
  ends = λ form bytes rows old new so_far at_end.
      is_strip form (bits form.order bytes) rows None (bits_left old)
      (ended_before (strip_after 0 form bytes) rows old new so_far at_end);
  stops = λ form bytes rows old new fault so_far meets.
      is_strip form (bits form.order bytes) rows (Some fault) (bits_left old)
      (fault_before (strip_after 0 form bytes) rows old new fault so_far meets);
}

-- from any place on
pub read_on : StripsAreReadOn
read_on = record {
  begins = begins_on;
  goes_on = row_read_on;
  ends = ended_on;
  stops = fault_met_on;
  stays =
      stays_there;
}
