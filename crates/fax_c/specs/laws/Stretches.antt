-- A law of the stretches of lost rows, which a function of the module `laws` proves.
-- A definition without a citation is this project's profile.
use Rattle.std.specs.Prelude.{◌≡◌, ℕ, ◌+◌, List, ◌++◌, length}
use Rattle.fax_walk.specs.Salvaged.{PageRow}
use Rattle.fax_c.specs.SalvagedRaster.{lost_from}
use Rattle.fax_c.specs.views.SalvagedFrom.{EndsFound}

-- the stretches of lost rows among those of page p from row r on stand in two parts, where the last
-- row of the first part is found
abbrev pub StretchesStandInParts : Type 0
StretchesStandInParts =
    (p r : ℕ) (first rest : List PageRow) → EndsFound first
    → lost_from p r (first ++ rest) ≡ lost_from p r first ++ lost_from p (r + length first) rest
