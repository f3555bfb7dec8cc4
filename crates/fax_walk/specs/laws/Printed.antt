-- The main law of walks, which the function `walks_return_the_rest` of the module `laws` proves:
-- a walk from what was printed returns just the rest of a file's items, each once. A definition
-- without a citation is this project's profile.
use Rattle.std.specs.Prelude.{◌≡◌, ◌≢◌, ◌↔◌, ◌⊎◌, ℕ, ◌+◌, ◌<◌, ◌≤◌, All}
use Rattle.std.specs.Prelude.{List, [], ◌∷◌, length, take, drop, Option, Some, None, Result, Ok}
use Rattle.std.specs.Prelude.{Err, slice_get}
use Rattle.std.specs.List.{AllZip}
use Rattle.std.specs.Borrow.{Bor}
use Rattle.fax_bits.specs.declared.Colour.{Colour}
use Rattle.fax_bits.specs.laws.Codes.{IsOne}
use Rattle.fax_walk.specs.declared.walk_start.WalkStart.{WalkStart}
use Rattle.fax_walk.specs.declared.walk_start.WalkStart.TheVariants.{AtCursor, AtLongCursor}
use Rattle.fax_walk.specs.declared.cursor.Cursor.{Cursor}
use Rattle.fax_walk.specs.declared.end.WalkFault.{WalkFault}
use Rattle.fax_walk.specs.declared.end.WalkFault.TheVariants.{Memory, AtRow, CursorOutside}
use Rattle.fax_walk.specs.declared.walk.Place.{Place}
use Rattle.fax_walk.specs.Pages.{End, Fault, LongCursorValue, Outside, EndOfPages, start}
use Rattle.fax_walk.specs.Items.{AreItems, RowItem, cursor_after, long_after}
use Rattle.fax_walk.specs.laws.InOrder.{AgreesWithEnd}
use Rattle.fax_walk.specs.laws.RowSource.{IsLeft}
use Rattle.fax_walk.specs.views.Walk.{AreBeforeIt, AreRead, IsCursorOf, IsLent, IsLongOf, IsNext}
use Rattle.fax_walk.specs.views.Walk.{WalkView, walk_from}

-- what is printed after an item: its cursor, or its place inside a strip, if there is one
abbrev pub IsPrintedAfter : RowItem → WalkStart → Type 0
IsPrintedAfter item (AtCursor at) = at ≡ cursor_after item
IsPrintedAfter item (AtLongCursor place) = long_after item ≡ Some place

-- what is printed where n of these items were returned: the first cursor where none was, and else
-- what is printed after the last of them
abbrev pub IsPrinted : List RowItem → ℕ → WalkStart → Type 0
IsPrinted items n origin =
    ((n ≡ 0) × (origin ≡ AtCursor start))
    ⊎ ((before : ℕ) × (item : RowItem) × (n ≡ before + 1) × (slice_get items before ≡ Some item)
    × IsPrintedAfter item origin)

-- what a call for the next row answers
abbrev pub Answer : Type 0
Answer = Result (Option (Place × Bor (List Colour))) WalkFault

-- these are what a walk returns to calls for the next row, one after another, which leave it so
abbrev pub AreAnswers : WalkView → List Answer → WalkView → Type 0
AreAnswers old [] new = new ≡ old
AreAnswers old (answer ∷ answers) new =
    (next : WalkView) × IsNext old answer next × AreAnswers next answers new

-- the rows among answers, and the ends among them
abbrev pub rows_in : List Answer → List (Place × Bor (List Colour))
rows_in [] = []
rows_in (Ok (Some found) ∷ answers) = found ∷ rows_in answers
rows_in (Ok None ∷ answers) = rows_in answers
rows_in (Err fault ∷ answers) = rows_in answers

abbrev pub ends_in : List Answer → List End
ends_in [] = []
ends_in (Ok (Some found) ∷ answers) = ends_in answers
ends_in (Ok None ∷ answers) = EndOfPages ∷ ends_in answers
ends_in (Err (AtRow page row cause) ∷ answers) = Fault page row cause ∷ ends_in answers
ends_in (Err CursorOutside ∷ answers) = Outside ∷ ends_in answers
ends_in (Err Memory ∷ answers) = ends_in answers

-- answers with these rows and ends return these items: the rows are the first of the items, in
-- order; and each of the ends is this one, reported only where all the items are returned
pub record Yielding (rows : List (Place × Bor (List Colour))) (ends : List End)
    (items : List RowItem) (end : End) : Type 0 where
  pub rows_are : AllZip IsLent rows (take (length rows) items)
  pub ends_are : All (λ final_end. final_end ≡ end) ends
  pub all : 0 < length ends → length rows ≡ length items

-- a walk stands after the first n of these items: it began with what was printed after some of
-- them, and returned the others; and it has reported this end, after all of them, or none
pub record StandsAfter (items : List RowItem) (end : End) (n : ℕ) (walk : WalkView) : Type 0 where
  pub began : ℕ
  pub printed : IsPrinted items began walk.origin
  pub count : n ≡ began + walk.yielded
  pub within : n ≤ length items
  pub final_end : AgreesWithEnd walk.final_end (drop n items) end

-- the rows end here: all items were returned, and this is their end, which the walk has reported
-- now
pub record EndsThere (items : List RowItem) (end : End) (n : ℕ) (final_end : End)
    (new : WalkView) : Type 0 where
  pub all : n ≡ length items
  pub its_end : final_end ≡ end
  pub stands : StandsAfter items end n new
  pub has_told : new.final_end ≡ Some final_end

-- what a walk that stands after the first n of these items answers to a call for the next row: item
-- number n; or where these are all, their end; or memory was refused before it reported an end, and
-- it stands as it stood
abbrev pub IsNextOf : List RowItem → End → ℕ → WalkView → Answer → WalkView → Type 0
IsNextOf items end n old (Ok (Some found)) new =
    (item : RowItem) × (slice_get items n ≡ Some item) × IsLent found item
    × StandsAfter items end (n + 1) new
IsNextOf items end n old (Ok None) new = EndsThere items end n EndOfPages new
IsNextOf items end n old (Err (AtRow page row cause)) new =
    EndsThere items end n (Fault page row cause) new
IsNextOf items end n old (Err CursorOutside) new = ⊥
IsNextOf items end n old (Err Memory) new = (new ≡ old) × (old.final_end ≡ None)

-- an item stands before another: on an earlier page, or above it on its page
abbrev pub StandsBefore : RowItem → RowItem → Type 0
StandsBefore item other =
    (item.page < other.page) ⊎ ((item.page ≡ other.page) × (item.row < other.row))

-- each file has items and an end, and one list of them only
abbrev pub FilesHaveOneList : Type 0
FilesHaveOneList = (file : List ℕ) → IsOne (AreItems file)

-- the end is proper or a fault
abbrev pub ItemsEndInTheFile : Type 0
ItemsEndInTheFile =
    (file : List ℕ) (items : List RowItem) (end : End) → AreItems file items end → end ≢ Outside

-- the items ascend: page by page, and then downwards, each once
abbrev pub ItemsAscend : Type 0
ItemsAscend =
    (file : List ℕ) (items : List RowItem) (end : End) (n m : ℕ) (item other : RowItem)
    → AreItems file items end → n < m → slice_get items n ≡ Some item
    → slice_get items m ≡ Some other → StandsBefore item other

-- whatever a walk returns that begins with what was printed after n items: its answers return the
-- items from number n on, and leave it after so many more
abbrev pub WalksReturnTheRest : Type 0
WalksReturnTheRest =
    (file : List ℕ) (items : List RowItem) (end : End) (n : ℕ) (origin : WalkStart)
    (answers : List Answer) (new : WalkView)
    → AreItems file items end → IsPrinted items n origin
    → AreAnswers (walk_from file origin) answers new
    → Yielding (rows_in answers) (ends_in answers) (drop n items) end
    × StandsAfter items end (n + length (rows_in answers)) new

-- a walk that begins with what was printed after n items stands after them
abbrev pub WalksBeginThere : Type 0
WalksBeginThere =
    (file : List ℕ) (items : List RowItem) (end : End) (n : ℕ) (origin : WalkStart)
    → AreItems file items end → IsPrinted items n origin
    → StandsAfter items end n (walk_from file origin)

-- a walk that stands after n items returns item number n, or after the last the end, again and
-- again, and then stands after the items that were returned
abbrev pub WalksGoOn : Type 0
WalksGoOn =
    (items : List RowItem) (end : End) (n : ℕ) (old new : WalkView) (answer : Answer)
    → AreItems old.file items end → StandsAfter items end n old → IsNext old answer new
    → IsNextOf items end n old answer new

-- an end that a walk has reported is returned again by each later call, which changes nothing
abbrev pub EndsAreForGood : Type 0
EndsAreForGood =
    (old new : WalkView) (final_end : End) (answer : Answer) → old.final_end ≡ Some final_end
    → IsNext old answer new → (ends_in (answer ∷ []) ≡ final_end ∷ []) × (new ≡ old)

-- what a walk has left that stands after n items is just the items from number n on, and their end
abbrev pub TheRestIsLeft : Type 0
TheRestIsLeft =
    (items : List RowItem) (end : End) (n : ℕ) (walk : WalkView) (rest : List RowItem) (last : End)
    → AreItems walk.file items end → StandsAfter items end n walk
    → IsLeft walk rest last ↔ ((rest ≡ drop n items) × (last ≡ end))

-- its cursor is what is printed after n items
abbrev pub CursorsArePrinted : Type 0
CursorsArePrinted =
    (items : List RowItem) (end : End) (n : ℕ) (walk : WalkView) (at : Cursor)
    → AreItems walk.file items end → StandsAfter items end n walk → IsCursorOf walk at
    → IsPrinted items n (AtCursor at)

-- and so is its place inside a strip, if it has one
abbrev pub PlacesArePrinted : Type 0
PlacesArePrinted =
    (items : List RowItem) (end : End) (n : ℕ) (walk : WalkView) (place : LongCursorValue)
    → AreItems walk.file items end → StandsAfter items end n walk → IsLongOf walk (Some place)
    → IsPrinted items n (AtLongCursor place)

-- how many rows such a walk has read: as many as it returned, and those before its beginning in its
-- strip; no more than these where it has neither returned a row nor reported the end
pub record AreReadOnce (walk : WalkView) (read before : ℕ) : Type 0 where
  pub most : read ≤ walk.yielded + before
  pub once : (0 < walk.yielded) ⊎ (walk.final_end ≢ None) → read ≡ walk.yielded + before

abbrev pub RowsAreReadOnce : Type 0
RowsAreReadOnce =
    (items : List RowItem) (end : End) (n : ℕ) (walk : WalkView) (read before : ℕ)
    → AreItems walk.file items end → StandsAfter items end n walk → AreRead walk read
    → AreBeforeIt walk.file walk.origin before → AreReadOnce walk read before
