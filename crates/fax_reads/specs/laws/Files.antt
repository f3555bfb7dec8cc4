-- Files are read as the relations define, and the relations hold of what is read. Functions of the
-- module `laws` prove it.
use Rattle.std.specs.Prelude.{◌≡◌, ◌↔◌, ℕ, List}
use Rattle.fax_walk.specs.declared.walk_start.WalkStart.{WalkStart}
use Rattle.fax_walk.specs.declared.cursor.Cursor.{Cursor}
use Rattle.fax_walk.specs.declared.end.End.{End}
use Rattle.fax_walk.specs.Pages.{AreForms, FormItem, IsForm, IsFormTail, NextItem}
use Rattle.fax_walk.specs.Items.{AreItems, IsRow, IsTailFrom, RowItem, RowPosition}
use Rattle.fax_reads.specs.Files.{read_row, read_form, read_rows, read_forms}
use Rattle.fax_reads.specs.TailReading.{read_tail, read_form_tail}

-- the row at a place, the form of a page, and all rows and all forms with their end
pub record FilesAreReadByFunctions : Type 0 where
  pub row : (file : List ℕ) (at : RowPosition) (step : NextItem RowItem RowPosition)
      → IsRow file at step ↔ (read_row file at ≡ step)
  pub form : (file : List ℕ) (p : ℕ) (step : NextItem FormItem ℕ)
      → IsForm file p step ↔ (read_form file p ≡ step)
  pub rows : (file : List ℕ) (items : List RowItem) (end : End)
      → AreItems file items end ↔ (read_rows file ≡ record { items = items; end = end })
  pub forms : (file : List ℕ) (items : List FormItem) (end : End)
      → AreForms file items end ↔ (read_forms file ≡ record { items = items; end = end })

-- what is returned from a cursor or a place inside a strip on
pub record TailsAreReadByFunctions : Type 0 where
  pub rows : (file : List ℕ) (origin : WalkStart) (items : List RowItem) (end : End)
      → IsTailFrom file origin items end
      ↔ (read_tail file origin ≡ record { items = items; end = end })
  pub forms : (file : List ℕ) (at : Cursor) (items : List FormItem) (end : End)
      → IsFormTail file at items end
      ↔ (read_form_tail file at ≡ record { items = items; end = end })
