use Rattle.std.proofs.Common.{◌∙◌, Err, ap, arith, refl, sym}
use Rattle.fax_c.proofs.RowsWrittenLemmas.{all_asked, none_written, one_more, stopped, walk_stopped}
use Rattle.fax_c.proofs.PlaceLemmas.{after_of, kept_on}
use Rattle.fax_c.proofs.rows.fill.Goals as goal

pub loop-count-init : goal.loop-count-init
loop-count-init g c = record {
  law = c.beginnings_have_one_tail.ensures;
  so_far = none_written g.F.RowFormat.numbers c.args.walk.now c.args.rows.now c.args.out.now
      c.beginnings_have_one_tail.ensures c.requires.none;
  kept = (refl, refl);
  place = λ none. refl;
  runs = λ none. refl;
}

pub loop-count-preserved : goal.loop-count-preserved
loop-count-preserved g c = record {
  law = c.loop-count.invariant.law;
  so_far = one_more c.loop-count.invariant.law c.loop-count.invariant.so_far c.in-Ok.row c.put_next.new.walk
      c.put_next.new.out (omega (arith, c.loop-count-test.true)) c.in-Ok.ensures.put;
  kept = kept_on _ _ _ c.loop-count.invariant.kept c.bit_offset.ensures.kept;
  place = λ none. absurd (omega (arith, none));
  runs = λ none. absurd (omega (arith, none));
}

pub returns-in-Err-clause-filled : goal.returns-in-Err-clause-filled
returns-in-Err-clause-filled g c =
    stopped c.loop-count.invariant.law c.loop-count.invariant.so_far c.in-Err.stop c.put_next.new.walk
    c.put_next.new.out c.cursor-cursor.result (omega (arith, c.loop-count-test.true)) c.in-Err.ensures.put
    c.cursor-cursor.ensures

pub returns-clause-filled : goal.returns-clause-filled
returns-clause-filled g c =
    all_asked c.loop-count.invariant.law c.loop-count.invariant.so_far c.cursor.result
    (omega (arith, c.loop-count-test.false)) c.cursor.ensures

pub place_after-requires-clause-told : goal.place_after-requires-clause-told
place_after-requires-clause-told g c = λ some none.
    let so_far = c.loop-count.invariant.so_far in
    let walk = walk_stopped c.loop-count.invariant.law so_far c.args.walk.now c.in-Err.stop c.put_next.new.walk
    c.put_next.new.out c.cursor-cursor.result refl refl c.in-Err.ensures.put in
    let room = c.put_next.ensures.room (c.in-Err.is ∙ ap Err none) in
    after_of c.cursor-cursor.result c.loop-count.count c.bit_offset.new.place c.bit_offset.new.runs
    (so_far.same_file ∙ sym walk.same_file) (so_far.same_started ∙ sym walk.same_started)
    (c.bit_offset.ensures.told some (omega (arith, room)))

pub returns-in-Err-clause-place : goal.returns-in-Err-clause-place
returns-in-Err-clause-place g c =
    let walk = walk_stopped c.loop-count.invariant.law c.loop-count.invariant.so_far c.args.walk.now c.in-Err.stop
    c.put_next.new.walk c.put_next.new.out c.cursor-cursor.result refl refl c.in-Err.ensures.put in (
      kept_on _ _ _ (kept_on _ _ _ c.loop-count.invariant.kept c.bit_offset.ensures.kept) c.place_after.ensures.0,
      (λ none. c.place_after.ensures.1 none ∙ c.bit_offset.ensures.no_runs none ∙ c.loop-count.invariant.runs none),
      after_of c.cursor-cursor.result c.loop-count.count c.place_after.new.place c.place_after.new.runs walk.same_file
          walk.same_started c.place_after.ensures.2,
    )

pub returns-clause-place : goal.returns-clause-place
returns-clause-place g c =
    let so_far = c.loop-count.invariant.so_far in (
      kept_on _ _ _ c.loop-count.invariant.kept c.place_after-2.ensures.0,
      (λ none. c.place_after-2.ensures.1 none ∙ c.loop-count.invariant.runs none),
      after_of c.cursor.result c.loop-count.count c.place_after-2.new.place c.place_after-2.new.runs so_far.same_file
          so_far.same_started c.place_after-2.ensures.2,
    )
