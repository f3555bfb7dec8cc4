use Rattle.std.proofs.Common.{◌≤◌, ◌∙◌, arith, length}
use Rattle.std.proofs.lemmas.List.{length-replicate}
use Rattle.fax_rows.specs.Coded.{packed_len}
use Rattle.fax_c.proofs.SalvagedLemmas.{all_written, found_more, lost_more, none_yet, room, within_next}
use Rattle.fax_c.proofs.salvaged_raster.fill_left.Goals as goal

pub loop-part-init : goal.loop-part-init
loop-part-init c =
    let one = c.rows_are_left_in_one_way.ensures.one c.args.remaining.now.its in
    record {
      all = one.rows;
      so_far = none_yet c.args.remaining.now one.rows c.args.page c.args.stride c.args.out.now c.args.lost.now
          c.requires.origin
          one.are;
    }

pub loop-part-preserved-in-Found : goal.loop-part-preserved-in-Found
loop-part-preserved-in-Found c =
    let so_far = c.loop-part.invariant.so_far in
    let next = rw c.in-Found.is at c.in-Some.ensures in
    let short : packed_len (length c.next_part.new.self.last) ≤ c.args.stride =
    rw (← c.row.ensures.pels, c.row.ensures.width, next.same_width, so_far.same_width) c.requires.short in
    record {
      all = c.loop-part.invariant.all;
      so_far = found_more so_far c.loop-part.auto.lost next short c.put_in_stride-at.result c.put_stretch-count.result
          c.put_in_stride-at.new.out c.put_stretch-count.new.lost
          (rw c.row.ensures.pels at c.put_in_stride-at.ensures) c.put_stretch-count.ensures;
    }

pub put_lost-at-requires : goal.put_lost-at-requires
put_lost-at-requires c =
    let so_far = c.loop-part.invariant.so_far in
    let next = rw c.in-Lost.is at c.in-Some.ensures in
    let few = within_next so_far _ c.in-Lost.rows next.passes.1 (length-replicate c.in-Lost.rows _) in
    let fits = room so_far c.in-Lost.rows few c.requires.room in
    record { room = omega (arith, fits, c.loop-part.auto.out) }

pub loop-part-preserved : goal.loop-part-preserved
loop-part-preserved c =
    let next = rw c.in-Lost.is at c.in-Some.ensures in
    record {
      all = c.loop-part.invariant.all;
      so_far = rw c.longer.ensures (lost_more c.loop-part.invariant.so_far c.loop-part.auto.lost c.in-Lost.rows
          c.in-Lost.cause next c.put_lost-at.result c.put_lost-at.new.out c.put_lost-at.ensures);
    }

pub returns : goal.returns
returns c =
    let len = c.put_stretch-used.auto.lost ∙ c.loop-part.auto.lost in
    all_written c.loop-part.invariant.so_far c.loop-part.auto.lost c.in_default.ensures c.put_stretch-used.result
    c.put_stretch-used.new.lost c.put_stretch-used.ensures c.stop_after.result (rw len at c.stop_after.ensures)
