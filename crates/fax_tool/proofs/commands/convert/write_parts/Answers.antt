use Rattle.std.proofs.Common.{ℕ, List, ◌++◌, ap, sym, ◌∙◌, append_assoc}
use Rattle.std.proofs.KnownBytes.{Appends-trans}
use Rattle.fax_walk.specs.views.SparseBytes.{part_bytes}
use Rattle.fax_tool.proofs.commands.convert.write_parts.Goals as goal

pub loop-part-preserved : goal.loop-part-preserved
loop-part-preserved g c =
    let done = c.loop-part.invariant.done in
    let part = part_bytes c.in-Some.part in
    let remaining = c.next_part.new.self in
    record {
      done = done ++ part;
      all =
          c.loop-part.invariant.all ∙ ap (λ (l : List ℕ). done ++ l) c.in-Some.ensures.part
          ∙ sym (append_assoc done part remaining);
      given =
          Appends-trans (g.W.Sink.written c.args.out.now) (g.W.Sink.written c.loop-part.out)
          (g.W.Sink.written c.give_part.new.out) done part c.loop-part.invariant.given c.in_ok-give_part.ensures.ok;
      counts = c.in_ok-give_part.ensures.counts;
    }
