-- How the rows of a page are gone through, as they are returned.
use Rattle.std.specs.Prelude.{◌≡◌, ◌≤◌, List, Option}
use Rattle.fax_rows.specs.Rows.{Colour}
use Rattle.fax_files.specs.views.Page.{IsPageForm}
use Rattle.fax_walk.specs.declared.salvage_rows.SalvagedPart.{SalvagedPart}
use Rattle.fax_walk.specs.Items.{exchanged}
use Rattle.fax_walk.specs.code.SalvageItems.{RowsState, IsPart, upcoming_row}
use Rattle.fax_walk.specs.code.Stages.{IsRoomFor}

-- the rows of a page that are gone through, and the row that was found last, as it is returned
pub record ShownState : Type 0 where
  pub rows : RowsState
  pub shown : List Colour

-- they are those of a page, and there is room for colours that are exchanged
pub record IsShown (rows : RowsState) (room : Option (List Colour)) : Type 0 where
  pub limits : IsPageForm rows.form
  pub has_room : IsRoomFor rows.form room
  pub within : upcoming_row rows ≤ rows.form.rows

-- what became of the next row, which is shown if it is found
abbrev pub IsShownPart : ShownState → Option SalvagedPart → ShownState → Type 0
IsShownPart old part new =
    IsPart old.rows part new.rows
    × (new.shown ≡ exchanged new.rows.form new.rows.reader.reference)
