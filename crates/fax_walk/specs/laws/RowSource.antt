-- What a walk still returns.
use Rattle.std.specs.Prelude.{List}
use Rattle.fax_walk.specs.declared.end.End.{End}
use Rattle.fax_walk.specs.laws.InOrder.{IsLeftOf}
use Rattle.fax_walk.specs.Items.{RowItem, IsTailFrom}
use Rattle.fax_walk.specs.views.Walk.{WalkView}

-- what a walk still returns: these items in order, and then this end
abbrev pub IsLeft : WalkView → List RowItem → End → Type 0
IsLeft walk = IsLeftOf (IsTailFrom walk.file walk.origin) walk.yielded walk.final_end
