use Rattle.std.proofs.Common.{◌≡◌, ℕ, List, Option, Some, subst}
use Rattle.std.specs.Prelude.{IfSome}
use Rattle.fax_walk.specs.Items.{AreItems, IsTailFrom, RowItem}
use Rattle.fax_walk.specs.Pages.{start}
use Rattle.fax_walk.specs.declared.walk_start.WalkStart.{WalkStart}
use Rattle.fax_walk.specs.declared.walk_start.WalkStart.TheVariants.{AtCursor}
use Rattle.fax_walk.specs.declared.end.End.{End}
use Rattle.fax_walk.specs.laws.Tails.{TailOfStart}
use Rattle.fax_walk.specs.views.InOrder.{EndsAfter}
use Rattle.fax_tool.proofs.commands.salvage_lines.end_of_walk.Goals as goal

-- the rows of a walk from the start that has ended so
ended_so : TailOfStart → (file own : List ℕ) (origin : WalkStart) (given : ℕ) (found : Option End) (end : End) → own
    ≡ file
    → origin ≡ AtCursor start → found ≡ Some end → IfSome found (EndsAfter (IsTailFrom own origin) given)
    → (rows : List RowItem) × AreItems file rows end
ended_so law file own origin given found end same from is ended =
    let h = subst (λ (o : Option End). IfSome o (EndsAfter (IsTailFrom own origin) given)) is ended in (
      h.0,
      (law file h.0 end).0 (subst (λ (f : List ℕ). IsTailFrom f (AtCursor start) h.0 end) same
          (subst (λ (b : WalkStart). IsTailFrom own b h.0 end) from h.1)),
    )

pub returns-in-Some : goal.returns-in-Some
returns-in-Some c =
    ended_so c.tails_go_on.ensures.start c.args.file.now c.loop-walk.walk.file c.loop-walk.walk.origin
    c.loop-walk.walk.yielded _ c.in-Some.end c.loop-walk.invariant.file c.loop-walk.invariant.origin c.in-Some.is
    c.in_ok-end.ensures.ended
