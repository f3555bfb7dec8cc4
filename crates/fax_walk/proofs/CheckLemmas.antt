-- What is noted in order, and the rows beside it.
use Rattle.std.proofs.lemmas.Grind.{common_steps}
use Rattle.std.proofs.Common.{Bool, ℕ, ◌+◌, List, [], ◌++◌, refl, arith}
use Rattle.fax_walk.specs.declared.checking.Note.{Note}
use Rattle.fax_walk.specs.code.Check.{CheckPlace, HasChecked}
use Rattle.fax_walk.proofs.InOrderLemmas.{leads_both}

module _ (with_received : Bool) (file : List ℕ) where
  pub nothing_checked : (at : CheckPlace) → HasChecked with_received file at at [] 0
  nothing_checked at = record { found = []; lead = refl; notes_are = refl; items = []; lead_rows = refl; count = refl }

  pub checked_on : (from middle to : CheckPlace) (notes others : List Note) (rows more : ℕ)
      → HasChecked with_received file from middle notes rows
      → HasChecked with_received file middle to others more → HasChecked with_received file from to (notes
      ++ others) (rows + more)
  checked_on from middle to notes others rows more is next = grind (arith, common_steps, leads_both)
