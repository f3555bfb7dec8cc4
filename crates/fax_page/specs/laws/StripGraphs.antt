-- What functions read of damaged strips is what the relations define. A function of the module
-- `laws` proves it.
use Rattle.std.specs.Prelude.{◌≡◌, ◌↔◌, Bool, List}
use Rattle.fax_page.specs.declared.RowsEnd.{RowsEnd}
use Rattle.fax_page.specs.declared.StripForm.{StripForm}
use Rattle.fax_page.specs.LeftUncounted.{IsLeftUncounted}
use Rattle.fax_page.specs.Salvage.{IsSalvagedStrip, SalvagedRow}
use Rattle.fax_page.specs.reads.Salvage.{salvage_rows_and_end, salvage_strip}

-- what becomes of the rows of a damaged strip, counted or not
pub record DamagedStripsAreReadByFunctions : Type 0 where
  pub strip : (form : StripForm) (b : List Bool) (rows : List SalvagedRow)
      → IsSalvagedStrip form b rows ↔ (salvage_strip form b ≡ rows)
  pub uncounted : (form : StripForm) (b : List Bool) (rows : List SalvagedRow) (end : RowsEnd)
      → IsLeftUncounted form b rows end ↔ (salvage_rows_and_end form b ≡ (rows, end))
