use Rattle.std.proofs.Common.{◌≤◌, refl, arith}
use Rattle.std.proofs.lemmas.List.{length-take-le}
use Rattle.fax_tool.proofs.HeldLemmas.{dropped}
use Rattle.fax_tool.proofs.streams.input_buffer.InputBuffer.drop_front.Goals as goal

pub returns : goal.returns
returns c =
    let its = c.self.inside in
    let few : c.args.count ≤ its.len = omega (
      arith,
      rw (← c.self.view_is) at c.requires,
      length-take-le its.len its.room.items c.self.invariant.within,
    ) in
    rw (
      ← c.self.view_is,
      c.copy_within.ensures.items,
      dropped its.room.items its.len c.args.count few c.self.invariant.within,
    ) refl
