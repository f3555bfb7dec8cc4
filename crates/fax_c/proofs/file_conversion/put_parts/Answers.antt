use Rattle.std.proofs.Common.{◌≡◌, ℕ, ◌+◌, ◌≤◌, List, ◌++◌, length, ap, sym, ◌∙◌, arith, append_assoc, length-append}
use Rattle.fax_walk.specs.views.SparseBytes.{part_bytes}
use Rattle.fax_c.proofs.OutputPartLemmas.{more_put}
use Rattle.fax_c.proofs.file_conversion.put_parts.Goals as goal

pub loop-part-preserved : goal.loop-part-preserved
loop-part-preserved c =
    let done = c.loop-part.invariant.done in
    let part = part_bytes c.in-Some.part in
    let remaining = c.next_part.new.self in
    let whole : c.args.output.now ≡ (done ++ part) ++ remaining =
    c.loop-part.invariant.all ∙ ap (λ (l : List ℕ). done ++ l) c.in-Some.ensures.part
    ∙ sym (append_assoc done part remaining) in
    let both = length-append done part in
    let room : length done + length part ≤ length c.args.out.now =
    omega (arith, c.if-len-out.false, c.len.ensures, ap length whole, length-append (done ++ part) remaining, both) in
    let end = c.put_part-at.ensures.end ∙ ap (λ (n : ℕ). n + length part) c.loop-part.invariant.place in
    record {
      done = done ++ part;
      all = whole;
      place = end ∙ sym both;
      written =
          rw (c.put_part-at.ensures.written, end, c.loop-part.invariant.place, c.loop-part.invariant.written)
          (more_put done part c.args.out.now room);
    }
