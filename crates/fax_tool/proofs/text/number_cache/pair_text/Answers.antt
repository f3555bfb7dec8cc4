use Rattle.std.proofs.Common.{arith}
use Rattle.std.proofs.lemmas.Fmt.{length-decimal-le}
use Rattle.fax_tool.proofs.text.number_cache.pair_text.Goals as goal

pub write_any-end-requires : goal.write_any-end-requires
write_any-end-requires c =
    omega (
      arith,
      length-decimal-le 2 c.args.first (omega arith) (omega (arith, c.requires.first))
          (omega (arith, c.requires.first)),
    )

pub write_any-len-requires : goal.write_any-len-requires
write_any-len-requires c =
    omega (
      arith,
      length-decimal-le 2 c.args.first (omega arith) (omega (arith, c.requires.first))
          (omega (arith, c.requires.first)),
      length-decimal-le 2 c.args.second (omega arith) (omega (arith, c.requires.second))
          (omega (arith, c.requires.second)),
      c.write_any-end.ensures.end,
      c.write_any-end.ensures.same_len,
    )
