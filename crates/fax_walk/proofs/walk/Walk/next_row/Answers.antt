use Rattle.std.proofs.Common.{arith}
use Rattle.fax_walk.proofs.walk.Walk.next_row.Goals as goal

pub returns : goal.returns
returns c = grind arith
