use Rattle.std.proofs.Common.{sym, ◌∙◌, arith}
use Rattle.fax_rows.proofs.ReadOnLemmas.{pair_read}
use Rattle.fax_rows.proofs.two_dimensional.modes.next_steps.Goals as goal
use Rattle.fax_rows.proofs.two_dimensional.modes.next_steps.Goals.{in-Horizontal, in_default-mode}

pub returns-in-Ok-clause-read : goal.returns-in-Ok-clause-read
returns-in-Ok-clause-read g c = elim c.match-mode.branch [
  | in-Horizontal w ↦
      let source_is = c.vertical_batch.ensures.unchanged c.in_default.is in
      let places_is = c.vertical_batch.ensures.changes c.in_default.is in
      let takes = rw (w.in-Horizontal.is, source_is) at c.in-Some-try_read_mode.ensures.takes in
      let read = rw (sym w.read-is ∙ c.in-Ok.is, places_is) at w.horizontal-read.ensures.read in
      rw (w.source-is, w.changes-is) (pair_read c.requires.inside takes read)
  | in_default-mode w ↦ grind arith
]
