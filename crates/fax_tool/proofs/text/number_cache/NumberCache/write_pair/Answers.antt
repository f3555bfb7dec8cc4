use Rattle.std.proofs.Common.{arith}
use Rattle.fax_tool.proofs.RememberedLemmas.{pair_made, pairs_put}
use Rattle.fax_tool.proofs.text.number_cache.NumberCache.write_pair.Goals as goal

pub put_short-requires-clause-few : goal.put_short-requires-clause-few
put_short-requires-clause-few c =
    (pair_made c.self.inside.pairs c.from.result c.in-Some.text c.self.invariant.1 c.in-Some.ensures).few

pub returns-in-Some-clause-within : goal.returns-in-Some-clause-within
returns-in-Some-clause-within c =
    let text = pair_made c.self.inside.pairs c.from.result c.in-Some.text c.self.invariant.1 c.in-Some.ensures in
    omega (arith, c.put_short.ensures.end, text.few)

pub invariant_of-self : goal.invariant_of-self
invariant_of-self c = (
  c.self.invariant.0,
  rw c.from-4.ensures (pairs_put c.self.inside.pairs c.args.index c.pair_text-text.result c.self.invariant.1
      (rw (c.from-2.ensures, c.from-3.ensures) at c.pair_text-text.ensures)),
)
