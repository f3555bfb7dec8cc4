use Rattle.std.proofs.Common.{arith}
use Rattle.fax_walk.proofs.LongCursorLemmas.{put_one_after_another}
use Rattle.fax_walk.proofs.long_cursor.LongCursor.put_parts.Goals as goal

pub returns : goal.returns
returns c = grind (arith, put_one_after_another)
