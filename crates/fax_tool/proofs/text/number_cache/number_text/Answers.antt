use Rattle.std.proofs.Common.{arith}
use Rattle.std.proofs.lemmas.Fmt.{length-decimal-le}
use Rattle.fax_tool.proofs.text.number_cache.number_text.Goals as goal

pub write_any-len-requires : goal.write_any-len-requires
write_any-len-requires c =
    omega (
      arith,
      length-decimal-le 4 c.args.number (omega arith) (omega (arith, c.requires))
          (omega (arith, c.requires)),
    )
