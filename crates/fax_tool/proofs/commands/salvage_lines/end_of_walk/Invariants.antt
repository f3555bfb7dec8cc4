use Rattle.std.proofs.Common.{◌≡◌, ◌-◌, ◌^◌}
use Rattle.fax_walk.specs.declared.walk_start.WalkStart.TheVariants.{AtCursor}
use Rattle.fax_walk.specs.Pages.{start}
use Rattle.fax_tool.proofs.commands.salvage_lines.end_of_walk.Given as goal

-- the walk goes over the file's rows
abbrev pub invariant-loop-walk : goal.invariant-loop-walk
invariant-loop-walk l = record { file : l.walk.file ≡ l.fn.file; origin : l.walk.origin ≡ AtCursor start }

abbrev pub decreases-loop-walk : goal.decreases-loop-walk
decreases-loop-walk l = 2 ^ 64 - l.walk.yielded
