use Rattle.std.proofs.Common.{◌≤◌, ◌∙◌, arith, length}
use Rattle.fax_rows.specs.Coded.{packed_len}
use Rattle.fax_c.proofs.StripLemmas.{one_more, stops_after, why_none}
use Rattle.fax_c.proofs.strip_rows.fill_strip.Goals as goal

pub returns-in-Some : goal.returns-in-Some
returns-in-Some c =
    let so_far = c.loop-out.invariant in
    let none = c.in-Some.ensures in (
      none.1 ∙ so_far.same_form,
      none.2 ∙ so_far.same_bytes,
      stops_after c.read_next.new.reader so_far none.0 c.row-row.ensures.row (why_none c.args.page c.args.stride _
          c.in-Some.stop so_far.same_form so_far.same_bytes (omega (arith, c.loop-out-test.true, c.loop-out.auto.out))
          none),
    )

pub put_in_stride-used-requires-clause-short : goal.put_in_stride-used-requires-clause-short
put_in_stride-used-requires-clause-short c =
    rw (c.reference.ensures.width, c.in_default.ensures.same_form, c.loop-out.invariant.same_form) c.requires.stride

pub loop-out-preserved : goal.loop-out-preserved
loop-out-preserved c =
    let short : packed_len (length c.reference.result.now) ≤ c.args.stride =
    rw (c.reference.ensures.width, c.in_default.ensures.same_form, c.loop-out.invariant.same_form) c.requires.stride in
    one_more c.loop-out.invariant c.bits_stand_by_index.ensures c.read_next.new.reader c.put_in_stride-used.result
    c.put_in_stride-used.new.out c.in_default.ensures (rw c.reference.ensures.pels at short)
    (rw c.reference.ensures.pels at c.put_in_stride-used.ensures) c.loop-out.auto.out
