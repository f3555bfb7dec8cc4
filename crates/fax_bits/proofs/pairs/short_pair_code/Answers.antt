use Rattle.fax_bits.proofs.PairLemmas.{short_pair}
use Rattle.std.proofs.Common.{arith}
use Rattle.fax_bits.proofs.pairs.short_pair_code.Goals as goal
use Rattle.fax_bits.proofs.pairs.short_pair_code.Goals.{in-White, in-Black}

pub of-requires-clause-short : goal.of-requires-clause-short
of-requires-clause-short c =
    let pair = short_pair c.args.colour c.args.first c.args.second c.requires.first c.requires.second in
    elim c.match-colour.branch [
      | in-White w ↦ rw (c.from-2.ensures, w.code-is) (rw w.in-White.is at pair.short)
      | in-Black w ↦ rw (c.from-2.ensures, w.code-is) (rw w.in-Black.is at pair.short)
    ]

pub of-requires-clause-fits : goal.of-requires-clause-fits
of-requires-clause-fits c =
    let pair = short_pair c.args.colour c.args.first c.args.second c.requires.first c.requires.second in
    elim c.match-colour.branch [
      | in-White w ↦ rw (c.from.ensures, c.from-2.ensures, w.code-is) (rw w.in-White.is at pair.fits)
      | in-Black w ↦ rw (c.from.ensures, c.from-2.ensures, w.code-is) (rw w.in-Black.is at pair.fits)
    ]

pub returns : goal.returns
returns c = grind (arith, short_pair)
