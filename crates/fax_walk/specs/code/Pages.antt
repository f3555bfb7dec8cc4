-- How far a reader of a file's pages has come.
use Rattle.std.specs.Prelude.{◌≡◌, ℕ, ◌≤◌, List, [], ◌++◌, length, Option, Some, None}
use Rattle.fax_files.specs.views.Chain.{ChainState}
use Rattle.fax_walk.specs.declared.cursor.Cursor.{Cursor}
use Rattle.fax_walk.specs.declared.end.End.{End}
use Rattle.fax_walk.specs.declared.pages.PagesStage.{PagesStage}
use Rattle.fax_walk.specs.declared.pages.PagesStage.TheVariants.{Before, After, Ended}
use Rattle.fax_walk.specs.views.InOrder.{EndsAfter, HasNoOtherEnd}
use Rattle.fax_walk.specs.Pages.{AreFrom, FormItem, IsForm, IsFormTail}
use Rattle.fax_walk.specs.views.Pages.{PagesView, IsCursorOfPages}
use Rattle.fax_walk.specs.code.Opening.{UpcomingPage, IsChainBefore}

-- how the pages ended, once that was reported
abbrev pub final_end_of : PagesStage → Option End
final_end_of Before = None
final_end_of (After chain) = None
final_end_of (Ended end) = Some end

-- what a reader of pages returns that begins so are these forms, and then those from page p on
abbrev pub GoesOnAt : List ℕ → Cursor → List FormItem → ℕ → Type 0
GoesOnAt file origin yielded p =
    (forms : List FormItem) (end : End) → AreFrom (IsForm file) p forms end
    → IsFormTail file origin (yielded ++ forms) end

-- so many forms were returned, and then page p comes next
pub record HasYielded (file : List ℕ) (origin : Cursor) (yielded p : ℕ) : Type 0 where
  pub forms : List FormItem
  pub on : GoesOnAt file origin forms p
  pub count : length forms ≡ yielded
  pub few : yielded ≤ p

-- a reader of pages has come as far as its chain, or to its end
abbrev pub HasCome : List ℕ → Cursor → ℕ → PagesStage → Type 0
HasCome file origin yielded Before = yielded ≡ 0
HasCome file origin yielded (After chain) =
    HasYielded file origin yielded chain.yielded × IsChainBefore file chain.yielded chain
HasCome file origin yielded (Ended end) = EndsAfter (IsFormTail file origin) yielded end

-- a reader of pages has come so far, and has the cursor after the page that it returned last
pub record IsSoundReader (file : List ℕ) (origin : Cursor) (yielded : ℕ) (cursor : Cursor)
    (stage : PagesStage) : Type 0 where
  pub come : HasCome file origin yielded stage
  pub cursor_is : IsCursorOfPages
      (record { file = file; origin = origin; yielded = yielded; final_end = None }) cursor

-- a page is the one after the directories that a chain has returned
abbrev pub IsPageAfter : ChainState → UpcomingPage → Type 0
IsPageAfter chain upcoming = (upcoming.page ≡ chain.yielded) × (upcoming.directory.file
    ≡ chain.tiff.file)

-- a reader from a cursor begins with this page
pub record IsFirstUpcoming (file : List ℕ) (at : Cursor) (upcoming : UpcomingPage) : Type 0 where
  pub on : GoesOnAt file at [] upcoming.page
  pub file_is : upcoming.directory.file ≡ file

-- a reader of pages returns this page next
pub record IsUpcomingIn (pages : PagesView) (upcoming : UpcomingPage) : Type 0 where
  pub untold : pages.final_end ≡ None
  pub come : HasYielded pages.file pages.origin pages.yielded upcoming.page
  pub file_is : upcoming.directory.file ≡ pages.file

-- the pages of a reader end so
abbrev pub EndsNow : PagesView → End → Type 0
EndsNow pages end =
    EndsAfter (IsFormTail pages.file pages.origin) pages.yielded end
    × HasNoOtherEnd pages.final_end end
