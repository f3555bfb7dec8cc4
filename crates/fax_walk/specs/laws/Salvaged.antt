-- A law of what is left of a damaged file, which a function of the module `laws` proves.
-- A definition without a citation is this project's profile.
use Rattle.std.specs.Prelude.{◌≡◌, ℕ, List}
use Rattle.fax_walk.specs.Salvaged.{SalvagedItem, IsSalvaged}

-- what is left of a file is one list
pub record IsSalvagedOneWay (file : List ℕ) : Type 0 where
  pub items : List SalvagedItem
  pub are : IsSalvaged file items
  pub one : (others : List SalvagedItem) → IsSalvaged file others → others ≡ items
