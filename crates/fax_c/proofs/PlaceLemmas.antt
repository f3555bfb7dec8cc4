-- The place after rows that were written.
use Rattle.std.proofs.Common.{◌≡◌, ℕ, ◌+◌, ◌-◌, ◌<◌, ◌≤◌, List, length, take, drop, inl, inr, ap, refl}
use Rattle.std.proofs.Common.{◌∙◌, arith, length-append, length-drop}
use Rattle.std.specs.Prelude.{Some, None}
use Rattle.std.proofs.lemmas.List.{take_at, drop_at, drop-drop}
use Rattle.fax_rows.specs.Rows.{Colour, runs_of}
use Rattle.fax_walk.specs.declared.walk_start.WalkStart.{WalkStart}
use Rattle.fax_walk.specs.declared.cursor.Cursor.{Cursor}
use Rattle.fax_walk.specs.declared.walk.LongCursorRef.{LongCursorRef}
use Rattle.fax_walk.specs.Items.{start_cursor}
use Rattle.fax_walk.specs.Pages.{LongCursorValue}
use Rattle.fax_walk.specs.views.Walk.{HasPage, IsLongOf, WalkView, place_inside}
use Rattle.fax_c.specs.declared.places.FaxPlace.{FaxPlace}
use Rattle.fax_c.specs.views.Filled.{TakesRuns}
use Rattle.fax_c.specs.views.Places.{HasRuns, IsAfterRows, KeepsRuns, place_started, cursor_of, most_runs, place_at}
use Rattle.fax_c.specs.code.CallSteps.{IsInsideTold, IsPutAt}
use Rattle.fax_walk.proofs.ShortLemmas.{some_run}

-- what is kept past a place is kept past a later one
kept_past : (n m : ℕ) (runs old : List ℕ) → n ≤ m → drop n runs ≡ drop n old → drop m runs ≡ drop m old
kept_past n m runs old before same =
    let more : m ≡ n + (m - n) = omega (arith, before) in
    rw (more, ← drop-drop (m - n) n runs, ← drop-drop (m - n) n old, same)

-- a place that is lent, and whose runs are written, is reported
pub inside_told : (walk : WalkView) (lent : LongCursorRef) (count : ℕ) (old : FaxPlace) (old_runs runs : List ℕ)
    → IsLongOf walk (place_inside (Some lent)) → length (runs_of lent.reference.now) ≤ most_runs
    → IsPutAt (runs_of lent.reference.now) old_runs 0 (Some count) runs → IsInsideTold walk old old_runs
    (record { page = lent.at.page; row = lent.at.row; bits = lent.bits; runs = count }) runs
inside_told walk lent count old old_runs runs long few (count_is, within, runs_are) =
    let numbers = runs_of lent.reference.now in
    let some = some_run Colour.White 0 lent.reference.now in
    let same : take count runs ≡ numbers = rw runs_are (take_at numbers (drop count old_runs) count (omega arith)) in
    let rest : drop count runs ≡ drop count old_runs =
    rw runs_are (drop_at numbers (drop count old_runs) count (omega arith)) in
    let len : length runs ≡ length old_runs = rw (runs_are, length-append, length-drop) (omega arith) in (
      (kept_past count most_runs runs old_runs (omega (arith, few, count_is)) rest, len),
      inr (
        (omega (arith, count_is, some), omega (arith, within, len)),
        rw same long,
      ),
    )

-- a place that is lent, and whose runs have no room, is not reported
pub inside_untold : (walk : WalkView) (lent : LongCursorRef) (old : FaxPlace) (old_runs runs : List ℕ)
    → IsLongOf walk (place_inside (Some lent)) → IsPutAt (runs_of lent.reference.now) old_runs 0 None runs
    → IsInsideTold walk old old_runs old runs
inside_untold walk lent old old_runs runs long (same, short) =
    let len : length runs ≡ length old_runs = ap (λ (l : List ℕ). length l) same in
    let found : LongCursorValue = record { at = lent.at; bits = lent.bits; runs = runs_of lent.reference.now } in
    ((ap (drop most_runs) same, len), inl (refl, inr (found, long, omega (arith, len, short))))

-- a walk from a place begins at its cursor
pub start_cursor-origin_of : (place : FaxPlace) (runs : List ℕ) → cursor_of place
    ≡ start_cursor (place_started place runs)
start_cursor-origin_of place runs = grind arith

-- a walk from a place inside a strip takes its runs
pub takes_runs : (file : List ℕ) (place : FaxPlace) (runs : List ℕ) → 0 < place.runs → HasPage file place.page
    → TakesRuns file (place_started place runs) 0
takes_runs file place runs some page = grind arith

-- where nothing was written, a place inside a strip stays
pub stays : (file : List ℕ) (place : FaxPlace) (runs : List ℕ) (cursor : Cursor) → HasRuns place runs
    → IsAfterRows file (place_started place runs) cursor 0 place runs
stays file place runs cursor (some, within) = grind arith

-- the place after the rows that a walk has returned is reported
pub after_told : (walk : WalkView) (cursor : Cursor) (count : ℕ) (old place : FaxPlace) (old_runs runs : List ℕ)
    → walk.yielded ≡ count → old ≡ place_at cursor → IsInsideTold walk old old_runs place runs
    → IsAfterRows walk.file walk.origin cursor count place runs
after_told walk cursor count old place old_runs runs given at (kept, told) =
    rw (← given) (elim told [ inl (same, why) ↦ inr (same ∙ at, why) | inr (has, long) ↦ inl (has, long) ])

-- a place is the one after the rows of the same walk, however it is named
pub after_of : {file other : List ℕ} {origin another : WalkStart} (cursor : Cursor) (count : ℕ) (place : FaxPlace)
    (runs : List ℕ) → file ≡ other → origin ≡ another → IsAfterRows file origin cursor count place runs
    → IsAfterRows other another cursor count place runs
after_of cursor count place runs same begins is = rw (same, begins) at is

-- what one step keeps, and then the next
pub kept_on : (first middle last : List ℕ) → KeepsRuns first middle → KeepsRuns middle last → KeepsRuns first last
kept_on first middle last one two = (two.0 ∙ one.0, two.1 ∙ one.1)
