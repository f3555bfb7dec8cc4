use Rattle.std.proofs.Common.{replicate}
use Rattle.fax_bits.specs.declared.run_codes.RunCode.TheVariants.{MakeUp}
use Rattle.fax_bits.proofs.PutLemmas.{Put}
use Rattle.fax_bits.proofs.put.put_run.Given as goal

abbrev pub invariant-loop : goal.invariant-loop
invariant-loop l = Put l.colour l.fn.sink (replicate l.counter (MakeUp 2560)) l.sink
