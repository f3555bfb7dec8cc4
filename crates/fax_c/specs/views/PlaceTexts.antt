-- Places as text, and read from it.
-- A definition without a citation is this project's profile.
use Rattle.std.specs.Prelude.{◌≡◌, ◌≢◌, ℕ, ◌<◌, ◌≤◌, ◌⊎◌, nat_le, if◌then◌else◌, List, length, drop}
use Rattle.fax_walk.specs.Items.{start_text}
use Rattle.fax_walk.specs.declared.cursor.Cursor.{Cursor}
use Rattle.fax_walk.specs.Pages.{IsCursor, IsLongCursor, LongCursorValue, cursor_text}
use Rattle.fax_walk.specs.Pages.{long_cursor_text}
use Rattle.fax_c.specs.declared.places.FaxPlace.{FaxPlace}
use Rattle.fax_c.specs.Texts.{IsTextPut}
use Rattle.fax_c.specs.views.Places.{HasRuns, LacksRuns, place_started, long_place_of, most_runs}
use Rattle.fax_c.specs.views.Places.{place_at}

-- a text is written where it has room, which the status says
abbrev pub IsTextTold : List ℕ → List ℕ → List ℕ → ℕ → ℕ → Type 0
IsTextTold text old new len status =
    IsTextPut text old len new × (status ≡ (if nat_le len (length old) then 0 else 5))

-- the text of a place is written; or the place lacks runs, or memory was refused
abbrev pub TellsPlaceText : FaxPlace → List ℕ → List ℕ → List ℕ → ℕ → ℕ → Type 0
TellsPlaceText place runs old new len status =
    ((place.runs ≤ length runs)
    × IsTextTold (start_text (place_started place runs)) old new len status)
    ⊎ ((len ≡ 0) × (new ≡ old)
    × ((LacksRuns place runs × (status ≡ 3)) ⊎ ((place.runs ≤ length runs) × (status ≡ 4))))

-- a text is this place's: a cursor's, and no run is changed; or that of a place inside a strip,
-- whose runs, which are no more than a row can have, are written, and no other run is changed
abbrev pub IsPlaceRead : List ℕ → List ℕ → FaxPlace → List ℕ → Type 0
IsPlaceRead text old_runs place runs =
    ((at : Cursor) × (text ≡ cursor_text at) × (place ≡ place_at at) × (runs ≡ old_runs))
    ⊎ (HasRuns place runs × (place.runs ≤ most_runs)
    × (text ≡ long_cursor_text (long_place_of place runs))
    × (drop place.runs runs ≡ drop place.runs old_runs))

-- a text is no cursor's, and that of no place inside a strip that a row can have
abbrev pub NamesNoPlace : List ℕ → Type 0
NamesNoPlace text =
    ((at : Cursor) → IsCursor at → text ≢ cursor_text at)
    × ((found : LongCursorValue) → IsLongCursor found → text ≡ long_cursor_text found
    → most_runs < length found.runs)

-- a text is that of a place inside a strip whose runs have no room
abbrev pub NamesLongerPlace : List ℕ → List ℕ → Type 0
NamesLongerPlace text runs =
    (found : LongCursorValue) × IsLongCursor found × (text ≡ long_cursor_text found)
    × (length runs < length found.runs) × (length found.runs ≤ most_runs)

-- the place of a text is read, or its runs have no room, or the text is no place's, or memory was
-- refused; where nothing is read, nothing is changed
abbrev pub ReadsPlace : List ℕ → FaxPlace → List ℕ → FaxPlace → List ℕ → ℕ → Type 0
ReadsPlace text old old_runs place runs status =
    ((status ≡ 0) × IsPlaceRead text old_runs place runs)
    ⊎ ((place ≡ old) × (runs ≡ old_runs)
    × (((status ≡ 5) × NamesLongerPlace text old_runs)
    ⊎ ((status ≡ 6) × NamesNoPlace text)
    ⊎ (status ≡ 4)))
