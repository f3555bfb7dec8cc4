use Rattle.std.proofs.Common.{arith}
use Rattle.fax_tool.proofs.NumberTextLemmas.{length_long}
use Rattle.fax_tool.proofs.text.number_cache.NumberCache.write_number.Goals as goal

pub write_any-requires : goal.write_any-requires
write_any-requires c = omega (arith, c.requires, length_long c.args.number (omega arith))

pub returns-then-number-from-clause-within : goal.returns-then-number-from-clause-within
returns-then-number-from-clause-within c =
    omega (arith, c.write_any.ensures.end, length_long c.args.number (omega arith))
