-- What is left of files is what a function reads, and what it reads is left. A function of the
-- module `laws` proves it.
use Rattle.std.specs.Prelude.{◌≡◌, ◌↔◌, ℕ, List}
use Rattle.fax_walk.specs.Salvaged.{IsSalvaged, SalvagedItem}
use Rattle.fax_reads.specs.FileSalvage.{salvage_file}

-- what is returned of a damaged file
abbrev pub SalvagesAreReadByFunctions : Type 0
SalvagesAreReadByFunctions =
    (file : List ℕ) (items : List SalvagedItem) → IsSalvaged file items ↔ (salvage_file file
    ≡ items)
