-- One step of the coding of rows as runs.
use Rattle.std.specs.Prelude.{◌≡◌, ℕ, List, Option, Some, None, Vec}
use Rattle.std.specs.declared.alloc.Global.{Global}
use Rattle.fax_rows.specs.Rows.{Colour}
use Rattle.fax_page.specs.declared.StripForm.{StripForm}
use Rattle.fax_page.specs.Strip.{coded_strip}
use Rattle.fax_c.specs.declared.rows.FaxRow.{FaxRow}
use Rattle.fax_c.specs.views.StripRuns.{AreRowsInTable}

-- the strip of the rows of a table, or the table has no such rows
abbrev pub IsStripOfRuns : StripForm → ℕ → List FaxRow → List ℕ → Option (Vec ℕ Global) → Type 0
IsStripOfRuns form k table runs (Some strip) =
    (rows : List (List Colour)) × AreRowsInTable form table runs rows
    × (strip.items ≡ coded_strip form k rows)
IsStripOfRuns form k table runs None =
    (rows : List (List Colour)) → AreRowsInTable form table runs rows → ⊥
