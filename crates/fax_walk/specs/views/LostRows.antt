-- A stretch of lost rows, and more of them.
use Rattle.std.specs.Prelude.{ℕ, ◌+◌, ◌<◌, ◌^◌, Option, Some, None, ⊤}
use Rattle.fax_walk.specs.declared.salvage.LostRows.{LostRows}
use Rattle.fax_walk.specs.Pages.{Cause}

-- a stretch has room for so many rows more
abbrev pub CanGrowBy : Option LostRows → ℕ → Type 0
CanGrowBy None rows = ⊤
CanGrowBy (Some stretch) rows = stretch.rows + rows < 2 ^ 32

-- the rows that are lost, with so many more
abbrev pub longer : Option LostRows → ℕ → ℕ → ℕ → Cause → LostRows
longer None page row rows cause = record { page = page; row = row; rows = rows; cause = cause }
longer (Some stretch) page row rows cause = record stretch { rows = stretch.rows + rows }
