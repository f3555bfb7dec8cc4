use Rattle.std.proofs.Common.{arith, Option, Result}
use Rattle.std.specs.Prelude.{IfOk}
use Rattle.fax_bits.specs.declared.Memory.{Memory}
use Rattle.fax_walk.specs.Pages.{LongCursorValue}
use Rattle.fax_walk.proofs.WalkLemmas.{long_is}
use Rattle.fax_walk.proofs.walk.Walk.long_cursor.Goals as goal

if_ok : (result : Result (Option LongCursorValue) Memory) (P Q : Option LongCursorValue → Type 0)
    → ((place : Option LongCursorValue) → P place → Q place)
    → IfOk result P → IfOk result Q
if_ok result P Q so holds = grind arith

pub returns-in-Some : goal.returns-in-Some
returns-in-Some c =
    let w = c.self.inside in
    rw (← c.self.view_is)
    (if_ok _ _ _ (λ place is. long_is _ w.cursor w.page c.self.invariant c.if-self-gt0.true c.in-Some.page c.in-Some.is
    place is)
    c.long_cursor.ensures)
