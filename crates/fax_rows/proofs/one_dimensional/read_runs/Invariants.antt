use Rattle.std.proofs.Common.{◌≡◌, ◌+◌, ◌<◌, length, IsTrue}
use Rattle.fax_bits.specs.declared.Colour.{Colour}
use Rattle.fax_bits.specs.declared.Colour.TheVariants.{White}
use Rattle.fax_rows.proofs.PairReadLemmas.{HasRead}
use Rattle.fax_rows.proofs.one_dimensional.read_runs.Given as goal

abbrev pub invariant-loop-runs : goal.invariant-loop-runs
invariant-loop-runs l = record {
  colour : Colour;
  read : HasRead l.width l.fn.source.remaining (IsTrue l.runs.is_canonical) l.runs.total colour l.changes l.runs.end
      l.ahead.remaining;
  white : l.runs.total < l.width → colour ≡ White;
  same_end : l.ahead.place + length l.ahead.remaining ≡ l.fn.source.place + length l.fn.source.remaining;
}

abbrev pub decreases-loop-runs : goal.decreases-loop-runs
decreases-loop-runs l = length l.ahead.remaining
