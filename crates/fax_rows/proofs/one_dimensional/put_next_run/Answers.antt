use Rattle.std.proofs.Common.{arith}
use Rattle.fax_rows.proofs.PlacedReadLemmas.{more_room}
use Rattle.fax_rows.proofs.one_dimensional.put_next_run.Goals as goal

pub toggle_change_after-runs-requires-clause-room : goal.toggle_change_after-runs-requires-clause-room
toggle_change_after-runs-requires-clause-room c = omega (arith, more_room c.requires.put)
