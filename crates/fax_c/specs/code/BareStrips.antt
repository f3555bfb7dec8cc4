-- One step of a call on a strip.
use Rattle.std.specs.Prelude.{◌≡◌, ◌≢◌, ℕ, ◌<◌, ◌⊎◌, List, take}
use Rattle.std.specs.Prelude.{Option, Some, None, Result, Ok, Err}
use Rattle.fax_bits.specs.Bits.{bits}
use Rattle.fax_page.specs.declared.Coding.{Coding}
use Rattle.fax_page.specs.declared.ReferenceRow.{ReferenceRow}
use Rattle.fax_page.specs.declared.ReferenceRow.TheVariants.{Runs, White}
use Rattle.fax_page.specs.declared.StripFault.{StripFault}
use Rattle.fax_page.specs.declared.StripForm.{StripForm}
use Rattle.fax_page.specs.views.Reader.{IsAtEnd, MeetsFault, ReadsRow, StripState}
use Rattle.fax_files.specs.declared.Cause.TheVariants.{Strip}
use Rattle.fax_walk.specs.declared.end.End.TheVariants.{EndOfPages, Fault, Outside}
use Rattle.fax_c.specs.declared.fill.Filled.{Filled}
use Rattle.fax_c.specs.declared.fill.Stop.{Stop}
use Rattle.fax_c.specs.declared.fill.Stop.TheVariants.{Ended, Memory}
use Rattle.fax_c.specs.declared.places.FaxPlace.{FaxPlace}
use Rattle.fax_c.specs.Numbers.{coding_number}
use Rattle.fax_c.specs.views.Places.{HasRuns}
use Rattle.fax_c.specs.views.BareStrips.{AreStripRows, HasRoom, IsUpcomingAt, IsPlaceAfter}
use Rattle.fax_c.specs.views.BareStrips.{ReadsNone, StripPlace}

-- the coding with a number, or no coding has it
abbrev pub IsCodingOf : ℕ → Option Coding → Type 0
IsCodingOf number None = (coding : Coding) → number ≢ coding_number coding
IsCodingOf number (Some coding) = number ≡ coding_number coding

-- the place of the next row
abbrev pub upcoming_place : StripState → StripPlace
upcoming_place state = record { row = state.row; bits = state.place; reference = state.reference }

-- the row before a place, or its runs are not in their room
abbrev pub IsRowBefore : FaxPlace → List ℕ → Option ReferenceRow → Type 0
IsRowBefore place runs (Some White) = place.runs ≡ 0
IsRowBefore place runs (Some (Runs its)) =
    HasRuns place runs × (its.now ≡ take place.runs runs)
IsRowBefore place runs None = (0 < place.runs) × (HasRuns place runs → ⊥)

-- a reader that stands at a place of a strip, or it is no place of it, or memory was refused
abbrev pub IsReaderAt : StripForm → List ℕ → FaxPlace → List ℕ → Result StripState Stop → Type 0
IsReaderAt form strip place runs (Ok state) =
    (state.form ≡ form) × (state.bytes ≡ strip) × (state.fault ≡ None)
    × IsUpcomingAt form strip place runs (upcoming_place state)
IsReaderAt form strip place runs (Err stop) =
    ((stop ≡ Memory) × (at : StripPlace) × IsUpcomingAt form strip place runs at)
    ⊎ ((stop ≡ Ended Outside) × ((at : StripPlace) → IsUpcomingAt form strip place runs at → ⊥))

-- the next row is read, or why it is not, and the place stays
abbrev pub IsReadNext : ℕ → StripState → Option Stop → StripState → Type 0
IsReadNext page old None new = ReadsRow old new
IsReadNext page old (Some stop) new =
    (upcoming_place new ≡ upcoming_place old) × (new.form ≡ old.form) × (new.bytes ≡ old.bytes)
    × ((IsAtEnd old new × (stop ≡ Ended EndOfPages))
    ⊎ ((fault : StripFault) × MeetsFault old fault new
    × (stop ≡ Ended (Fault page old.row (Strip fault)))))

-- the rows of a strip that a reader reads on are written
abbrev pub AreStripRowsFilled : ℕ → ℕ → StripState → List ℕ → Filled → StripState → List ℕ → Type 0
AreStripRowsFilled page stride old old_out filled new out =
    (new.form ≡ old.form) × (new.bytes ≡ old.bytes)
    × AreStripRows old.form (bits old.form.order old.bytes) page stride (upcoming_place old) old_out
    filled (upcoming_place new) out

-- the place of the next row is reported, after so many rows
abbrev pub IsUpcomingTold : StripState → ℕ → FaxPlace → List ℕ → FaxPlace → List ℕ → Type 0
IsUpcomingTold state count old old_runs new runs =
    IsPlaceAfter state.form.width count old old_runs new runs (upcoming_place state)

-- why no row is looked for at a place, with so much room, or nothing says so
abbrev pub IsStopBefore : StripForm → FaxPlace → ℕ → ℕ → Option Stop → Type 0
IsStopBefore form place stride room None = HasRoom form stride room × (place.row < form.rows)
IsStopBefore form place stride room (Some stop) =
    (strip runs : List ℕ) → ReadsNone form strip stride place runs room stop
