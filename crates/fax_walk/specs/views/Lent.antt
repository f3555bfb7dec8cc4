-- A row that a walk lends.
use Rattle.std.specs.Prelude.{⊤, []}
use Rattle.std.specs.Borrow.{MutBor, Fml, follows_so}
use mathlib.Core.Option.{none}
use mir.Syntax.{named}
use Rattle.fax_walk.specs.contracts.walk.Walk.{the_row}
use Rattle.fax_walk.specs.views.Walk.{WalkView}

-- the walk, once the row that it lends is given back, is so
abbrev pub WalkEndsAs : MutBor WalkView → (WalkView → Type 0) → Fml
WalkEndsAs walk P =
    follows_so (the_row (record { mir = named 1; lft = [] }))
    (the_row (record { mir = named 1; lft = [] }))
    walk.ghost_name none (λ _ _. ⊤) P
