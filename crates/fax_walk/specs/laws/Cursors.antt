-- Laws of cursors and of their texts, which the functions of the module `laws` prove.
-- A definition without a citation is this project's profile.
use Rattle.std.specs.Prelude.{◌≡◌, ℕ, ◌^◌, ◌≤◌, List, length, Some, slice_get}
use Rattle.fax_walk.specs.declared.walk_start.WalkStart.{WalkStart}
use Rattle.fax_walk.specs.declared.cursor.Cursor.{Cursor}
use Rattle.fax_walk.specs.declared.end.End.{End}
use Rattle.fax_walk.specs.Pages.{IsCursor, cursor_text, IsLongCursor, LongCursorValue}
use Rattle.fax_walk.specs.Pages.{long_cursor_text}
use Rattle.fax_walk.specs.Items.{RowItem, IsTailFrom, cursor_after, long_after}
use Rattle.fax_walk.specs.laws.Tails.{IsReached}

-- the numbers of the cursor after item number n have 32 bits, where those of the file's length do
abbrev pub CursorsAreShort : Type 0
CursorsAreShort =
    (file : List ℕ) (origin : WalkStart) (all : List RowItem) (end : End) (n : ℕ) (item : RowItem)
    → length file ≤ 2 ^ 32 → IsReached file origin → IsTailFrom file origin all end
    → slice_get all n ≡ Some item → IsCursor (cursor_after item)

-- and so have those of the place inside a strip after it, if there is one
abbrev pub PlacesAreShort : Type 0
PlacesAreShort =
    (file : List ℕ) (origin : WalkStart) (all : List RowItem) (end : End) (n : ℕ) (item : RowItem)
    (place : LongCursorValue)
    → length file ≤ 2 ^ 32 → IsTailFrom file origin all end → slice_get all n ≡ Some item
    → long_after item ≡ Some place → IsLongCursor place

-- the texts of cursors differ, and those of long cursors, and no text is that of both
pub record TextsNameOne : Type 0 where
  pub cursors : (at other : Cursor) → IsCursor at → IsCursor other
      → cursor_text at ≡ cursor_text other → at ≡ other
  pub places : (place other : LongCursorValue) → IsLongCursor place → IsLongCursor other
      → long_cursor_text place ≡ long_cursor_text other → place ≡ other
  pub apart : (at : Cursor) (place : LongCursorValue) → cursor_text at ≡ long_cursor_text place → ⊥
