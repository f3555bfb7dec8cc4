use Rattle.std.proofs.Common.{arith}
use Rattle.fax_bits.proofs.LookUpLemmas.{begins_more, run_code_short, short_run_begins, long_run_begins}
use Rattle.fax_bits.proofs.look_up.find_whole_run.Goals as goal

pub overflow_shl-bits : goal.overflow_shl-bits
overflow_shl-bits c = omega (
  arith,
  run_code_short c.args.colour _ c.in_ok-first.first c.in_ok-first.code
      c.in_ok-first.ensures,
)

pub overflow_add-result : goal.overflow_add-result
overflow_add-result c = grind (arith, run_code_short)

pub returns-in-Terminating : goal.returns-in-Terminating
returns-in-Terminating c = grind (arith, begins_more, short_run_begins)

pub returns-in_default-Terminating : goal.returns-in_default-Terminating
returns-in_default-Terminating c = grind (arith, long_run_begins)
