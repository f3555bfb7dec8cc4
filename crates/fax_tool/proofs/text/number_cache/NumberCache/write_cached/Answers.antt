use Rattle.std.proofs.Common.{arith}
use Rattle.fax_tool.proofs.NumberTextLemmas.{length_short}
use Rattle.fax_tool.proofs.RememberedLemmas.{numbers_put}
use Rattle.fax_tool.proofs.text.number_cache.NumberCache.write_cached.Goals as goal

pub put_short-requires-clause-few : goal.put_short-requires-clause-few
put_short-requires-clause-few c =
    (c.self.invariant.0 c.from-index.result c.in-Some.text c.in-Some.ensures).few

pub returns-in-Some-clause-within : goal.returns-in-Some-clause-within
returns-in-Some-clause-within c =
    let text = c.self.invariant.0 c.from-index.result c.in-Some.text c.in-Some.ensures in
    omega (
      arith,
      length_short c.from-index.result (omega (arith, c.requires.below, c.from-index.ensures)),
      c.put_short.ensures.end,
      text.len_is,
    )

pub returns-clause-within : goal.returns-clause-within
returns-clause-within c =
    omega (
      arith,
      length_short c.from.result (omega (arith, c.requires.below, c.from.ensures)),
      c.put_short-2.ensures.end,
      c.number_text-text.ensures.len_is,
    )

pub invariant_of-self : goal.invariant_of-self
invariant_of-self c = (
  rw c.from-index.ensures (numbers_put c.self.inside.ones c.args.number c.number_text-text.result
      c.self.invariant.0 (rw c.from.ensures at c.number_text-text.ensures)),
  c.self.invariant.1,
)
