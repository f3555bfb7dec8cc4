-- A damaged file that is gone through.
use Rattle.std.specs.Prelude.{◌≡◌, ◌≢◌, ℕ, ◌+◌, ◌<◌, ◌^◌, Bool, true, List, []}
use Rattle.std.specs.Prelude.{length, Option, Some, None}
use Rattle.std.specs.Prelude.{drop, Result, Ok, Err, slice_get, unwrap_or}
use Rattle.std.specs.Borrow.{Bor}
use Rattle.fax_walk.specs.declared.walk.Place.{Place}
use Rattle.fax_bits.specs.declared.Memory.{Memory}
use Rattle.fax_rows.specs.Rows.{Colour}
use Rattle.fax_files.specs.Directory.{Header, header, read_chain}
use Rattle.fax_walk.specs.declared.salvage.SalvageItem.{SalvageItem}
use Rattle.fax_walk.specs.declared.salvage.SalvageItem.TheVariants.{Row, Lost, Refused}
use Rattle.fax_walk.specs.Items.{AreItems, RowItem}
use Rattle.fax_walk.specs.Pages.{EndOfPages}
use Rattle.fax_walk.specs.Salvaged.{SalvagedItem, row_found, rows_lost, page_refused, ArePagesLeft}
use Rattle.fax_walk.specs.Salvaged.{IsSalvaged}

-- what is returned of a file, with the row that was found last
abbrev pub item_of : SalvageItem → List Colour → SalvagedItem
item_of (Row place) row = row_found place.page place.row row
item_of (Lost stretch) row = rows_lost stretch.page stretch.row stretch.rows stretch.cause
item_of (Refused page fault) row = page_refused page fault

-- a file that is gone through: how many items were returned, the row that was found last, if one
-- was, and whether nothing of the pages that were left is lost
pub record SalvageView : Type 0 where
  pub file : List ℕ
  pub yielded : ℕ
  pub last : Option (List Colour)
  pub whole : Bool

-- before the first page of a file
pub record IsSalvageStart (file : List ℕ) (view : SalvageView) : Type 0 where
  pub file_is : view.file ≡ file
  pub none_given : view.yielded ≡ 0
  pub none_found : view.last ≡ None

-- the row that is lent is the one that was found last
abbrev pub IsLentLast : Option (List Colour) → Option (Bor (List Colour)) → Type 0
IsLentLast last None = last ≡ None
IsLentLast last (Some row) = last ≡ Some row.now

-- the next item is returned, of which this is the row, where it is one
pub record YieldsRemaining (old : SalvageView) (item : SalvageItem) (new : SalvageView) : Type 0
  where
    pub few : old.yielded < 2 ^ 53
    pub next : new.yielded ≡ old.yielded + 1
    pub same_file : new.file ≡ old.file
    pub lends : (place : Place) → item ≡ Row place → new.last ≢ None
    pub item_is : (items : List SalvagedItem) → IsSalvaged old.file items
        → slice_get items old.yielded ≡ Some (item_of item (unwrap_or new.last []))

-- so many items of a file are all those of its first pages: the others are what is left from page p
-- on
abbrev pub IsBetweenPages : List ℕ → ℕ → Type 0
IsBetweenPages file yielded =
    (head : Header) × (p : ℕ) × (header file ≡ Ok head)
    × ((items : List SalvagedItem) → IsSalvaged file items
    → ArePagesLeft head.endian file p (drop p (read_chain head file).offsets) (drop yielded items))

-- what a call for the next item answers: the item; that all were returned, and where nothing is
-- lost the rows of the file end properly; or that memory was refused, to enter a page
abbrev pub IsNextLeft : SalvageView → Result (Option SalvageItem) Memory → SalvageView → Type 0
IsNextLeft old (Ok (Some item)) new = YieldsRemaining old item new
IsNextLeft old (Ok None) new =
    ((items : List SalvagedItem) → IsSalvaged old.file items → length items ≡ old.yielded)
    × (new.file ≡ old.file) × (new.yielded ≡ old.yielded)
    × (new.whole ≡ true → (rows : List RowItem) × AreItems old.file rows EndOfPages)
IsNextLeft old (Err refused) new =
    (new.file ≡ old.file) × (new.yielded ≡ old.yielded) × IsBetweenPages old.file old.yielded
