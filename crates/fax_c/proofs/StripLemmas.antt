-- The rows of a strip, written one after another.
use Rattle.std.proofs.Common.{◌≡◌, ℕ, ◌+◌, ◌-◌, ◌*◌, ◌<◌, ◌≤◌, Bool, List, [], ◌∷◌, ◌++◌, length, drop, sym, ◌∙◌}
use Rattle.std.proofs.Common.{subst, refl, inl, inr}
use Rattle.std.proofs.Common.{arith, length-append}
use Rattle.std.specs.Prelude.{Some, None, Err, flat_map}
use Rattle.fax_bits.specs.Bits.{bits}
use Rattle.fax_bits.specs.laws.Codes.{AreBitsByIndex}
use Rattle.fax_rows.specs.Rows.{Colour, runs_of}
use Rattle.std.proofs.lemmas.List.{length_push, length-replicate, take_at, drop_at}
use Rattle.fax_rows.specs.Coded.{packed_len}
use Rattle.fax_page.specs.declared.StripForm.{StripForm}
use Rattle.fax_page.specs.Lines.{IsLine, white_row}
use Rattle.fax_page.specs.declared.PlaceFault.TheVariants.{Memory, Outside}
use Rattle.fax_page.specs.declared.ReferenceRow.{ReferenceRow}
use Rattle.fax_page.specs.declared.ReferenceRow.TheVariants.{Runs, White}
use Rattle.fax_page.specs.views.Reader.{IsStartedInside, ReadsRow, StripState}
use Rattle.fax_c.specs.declared.fill.Filled.{Filled}
use Rattle.fax_c.specs.declared.fill.Stop.{Stop}
use Rattle.fax_walk.specs.declared.cursor.Cursor.{Cursor}
use Rattle.fax_c.specs.declared.places.FaxPlace.{FaxPlace}
use Rattle.fax_c.specs.Raster.{padded_row}
use Rattle.fax_c.specs.views.Places.{HasRuns, cursor_of}
use Rattle.fax_c.specs.views.BareStrips.{AreStripRows, IsUpcomingAt, IsPlace, ReadsNone, ReadsOn, ReadsTo, StopsAt}
use Rattle.fax_c.specs.views.BareStrips.{StripMemory, StripPlace}
use Rattle.fax_c.specs.code.CallSteps.{IsPutAt}
use Rattle.fax_c.specs.code.BareStrips.{IsReadNext, IsRowBefore, upcoming_place}
use Rattle.fax_c.proofs.ListLemmas.{more_put}
use Rattle.fax_c.proofs.PaddedLemmas.{fills_stride, padded_push}
use Rattle.fax_walk.proofs.ShortLemmas.{some_run}

-- where no reader begins after the row that a place's runs say, no row is expected there
pub not_started : (form : StripForm) (strip : List ℕ) (place : FaxPlace) (runs : List ℕ) (before : ReferenceRow)
    → IsRowBefore place runs (Some before) → IsStartedInside form strip place.row place.bits before (Err Outside)
    → (at : StripPlace) → IsUpcomingAt form strip place runs at → ⊥
not_started form strip place runs White its none at (is, below, within) =
    none (omega (arith, is.bits, within)) (white_row form.width) refl
not_started form strip place runs (Runs those) (has, same) none at (is, below, within) = elim is.reference [
  | inl (zero, white) ↦ omega (arith, zero, has.0)
  | inr (there, runs_are) ↦ none (omega (arith, is.bits, within)) at.reference (is.width_is, runs_are ∙ sym same)
]

-- and where memory is refused for one, a row is expected there
pub refused_at : (form : StripForm) (strip : List ℕ) (place : FaxPlace) (runs : List ℕ) (before : ReferenceRow)
    → place.row < form.rows → IsRowBefore place runs (Some before)
    → IsStartedInside form strip place.row place.bits before (Err Memory)
    → (at : StripPlace) × IsUpcomingAt form strip place runs at
refused_at form strip place runs White upcoming its (within, row, is) =
    let place_is : IsPlace form.width place runs (record { row = place.row; bits = place.bits; reference = row }) =
    record { row = refl; bits = refl; width_is = rw (is, length-replicate); reference = inl (its, is) } in
    (record { row = place.row; bits = place.bits; reference = row }, (place_is, upcoming, within))
refused_at form strip place runs (Runs those) upcoming (has, same) (within, row, (wide, is)) =
    let place_is : IsPlace form.width place runs (record { row = place.row; bits = place.bits; reference = row }) =
    record { row = refl; bits = refl; width_is = wide; reference = inr (has, is ∙ same) } in
    (record { row = place.row; bits = place.bits; reference = row }, (place_is, upcoming, within))

-- one row more is read
reads_more : (form : StripForm) (all : List Bool) (from : StripPlace) (rows : List (List Colour)) (mid : StripPlace)
    (n : ℕ) (row : List Colour) → ReadsTo form all from rows mid → n ≤ length all → mid.row < form.rows
    → IsLine form mid.row mid.reference (drop mid.bits all) row (drop n all)
    → ReadsTo form all from (rows ++ row ∷ []) (record { row = mid.row + 1; bits = n; reference = row })
reads_more form all from [] mid n row same inside upcoming line = grind arith
reads_more form all from (first ∷ rows) mid n row (bits, within, before, first_line, reads) inside upcoming line = (
  bits,
  within,
  before,
  first_line,
  reads_more form all (record { row = from.row + 1; bits = bits; reference = first }) rows mid n row reads inside
      upcoming
      line,
)

-- so many rows are read from a place on, and written
pub record AreReadSoFar (form : StripForm) (bytes : List ℕ) (stride : ℕ) (from : StripPlace) (old : List ℕ)
    (count used : ℕ) (state : StripState) (now : List ℕ) : Type 0 where
  pub same_form : state.form ≡ form
  pub same_bytes : state.bytes ≡ bytes
  pub no_fault : state.fault ≡ None
  pub rows : List (List Colour)
  pub read : ReadsTo form (bits form.order bytes) from rows (upcoming_place state)
  pub count_is : count ≡ length rows
  pub used_is : used ≡ length rows * stride
  pub len : length (flat_map (padded_row stride) rows) ≡ used
  pub room : used ≤ length old
  pub written : now ≡ flat_map (padded_row stride) rows ++ drop used old

-- the place of the next row, where the runs of the row before it are written
pub upcoming_told : (width : ℕ) (reference : List Colour) (row bits count page : ℕ) (old_runs runs : List ℕ)
    → length reference ≡ width → IsPutAt (runs_of reference) old_runs 0 (Some count) runs
    → let place : FaxPlace = record { page = page; row = row; bits = bits; runs = count } in
    HasRuns place runs × IsPlace width place runs (record { row = row; bits = bits; reference = reference })
    × (drop count runs ≡ drop count old_runs)
upcoming_told width reference row bits count page old_runs runs len (count_is, within, runs_are) =
    grind (arith, some_run, take_at, drop_at, length-append)

-- what was read is all that is, where it stops
pub stops_after : {form : StripForm} {bytes : List ℕ} {page stride : ℕ} {from : StripPlace} {old : List ℕ}
    {count used row : ℕ} {state : StripState} (next : StripState) {now : List ℕ} {stop : Stop}
    → AreReadSoFar form bytes stride from old count used state now
    → upcoming_place next ≡ upcoming_place state → row ≡ next.row
    → StopsAt form (bits form.order bytes) (upcoming_place next) page stride (length old - used) stop
    → AreStripRows form (bits form.order bytes) page stride from old
    (record { cursor = record { page = page; row = row }; count = count; used = used; stop = stop }) (upcoming_place
    next)
    now
stops_after next so_far same row_is why = grind arith

-- why no row is read
pub why_none : {form : StripForm} {bytes : List ℕ} (page stride remaining : ℕ) {old next : StripState} (stop : Stop)
    → old.form ≡ form → old.bytes ≡ bytes → stride ≤ remaining → IsReadNext page old (Some stop) next
    → StopsAt form (bits form.order bytes) (upcoming_place next) page stride remaining stop
why_none {form} {bytes} page stride remaining stop same_form same_bytes room (same, next_form, next_bytes, why) =
    subst (λ (to : StripPlace). StopsAt form (bits form.order bytes) to page stride remaining stop) (sym same)
    (elim why [
      | inl (end, is) ↦ inr (room, None, is, rw same_form at end.all_read)
      | inr (fault, meets, is) ↦
          inr (room, Some fault, is, (rw same_form at meets.upcoming, rw (same_form, same_bytes) at meets.cause))
    ])

module _ {form : StripForm} {bytes : List ℕ} {stride : ℕ} {from : StripPlace} {old : List ℕ} {count used : ℕ}
    {state : StripState} {now : List ℕ} (so_far : AreReadSoFar form bytes stride from old count used state now)
    (bits_stand : AreBitsByIndex) where
  pub one_more : (next : StripState) (to : ℕ) (new : List ℕ) → ReadsRow state next
      → packed_len (length next.reference) ≤ stride
      → IsPutAt (padded_row stride next.reference) now used (Some to) new → length now ≡ length old
      → AreReadSoFar form bytes stride from old (count + 1) to next new
  one_more next to new reads short (to_is, within, new_is) same_len =
      let row = next.reference in
      let front = flat_map (padded_row stride) so_far.rows in
      let step : IsLine form state.row state.reference (drop state.place (bits form.order bytes)) row
      (drop next.place (bits form.order bytes)) =
      rw (reads.same_form, reads.same_bytes, so_far.same_form, so_far.same_bytes) at reads.line in
      let same_bytes = reads.same_bytes ∙ so_far.same_bytes in
      let inside : next.place ≤ length (bits form.order bytes) =
      rw (bits_stand.count, ← same_bytes) (omega (arith, reads.within)) in
      let more = reads_more form (bits form.order bytes) from so_far.rows (upcoming_place state) next.place row
      so_far.read
      inside (rw so_far.same_form at reads.upcoming) step in
      let all = padded_push stride so_far.rows row in
      record {
        same_form = reads.same_form ∙ so_far.same_form;
        same_bytes = same_bytes;
        no_fault = reads.still_no_fault;
        rows = so_far.rows ++ row ∷ [];
        read = rw reads.next_row more;
        count_is = rw (length_push, so_far.count_is);
        used_is = rw length_push (omega (arith, to_is, fills_stride stride row short, so_far.used_is));
        len = rw (all, length-append, so_far.len) (sym to_is);
        room = omega (arith, within, same_len);
        written = rw all
            (more_put front old now (padded_row stride row) new used to so_far.len so_far.written to_is new_is);
      }

-- nothing is read from a place, for this reason
pub none_for : (form : StripForm) (strip : List ℕ) (stride : ℕ) (old : StripMemory) (stop : Stop) (at : Cursor)
    (filled : Filled) → at ≡ cursor_of old.place → filled ≡ record { cursor = at; count = 0; used = 0; stop = stop }
    → ReadsNone form strip stride old.place old.runs (length old.raster) stop
    → ReadsOn form strip stride old filled old
none_for form strip stride old stop at filled at_is filled_is why = grind arith
