use Rattle.std.proofs.Common.{◌∙◌, ◌++◌, ◌∷◌, [], replicate, Ok, Err}
use Rattle.fax_walk.proofs.LostCountLemmas.{found_counted, lost_counted}
use Rattle.fax_walk.proofs.OnPaperLemmas.{all_put, found_put, takes_found, takes_white, white_put}
use Rattle.fax_walk.proofs.salvaged_file.put_rows.Goals as goal

pub put_row-requires : goal.put_row-requires
put_row-requires c =
    let part = rw c.in-Found.is at c.in-Some.ensures in
    let (at, begun) = c.requires.upcoming in
    takes_found c.args.rows.now.rows c.args.output.now c.loop-part.rows.rows c.loop-part.output
    c.loop-part.invariant.passed c.loop-part.invariant.put c.next_part.new.self.rows part.0 c.row.result.now
    (c.row.ensures.pels ∙ part.1) c.row.ensures.width at begun

pub loop-part-preserved-in-Found : goal.loop-part-preserved-in-Found
loop-part-preserved-in-Found c =
    let part = rw c.in-Found.is at c.in-Some.ensures in
    let passed = c.loop-part.invariant.passed in
    let row = c.row.result.now in
    rw c.after_found-lost.ensures (record {
      passed = passed ++ Ok row ∷ [];
      put = found_put c.args.rows.now.rows c.args.output.now c.loop-part.rows.rows c.loop-part.output passed
          c.loop-part.invariant.put c.next_part.new.self.rows part.0 row (c.row.ensures.pels ∙ part.1)
          c.row.ensures.width c.put_row.new.self c.in_ok-put_row-in-Found.ensures;
      counted = found_counted passed c.loop-part.lost c.loop-part.invariant.counted row;
    })

pub put_white_rows-requires : goal.put_white_rows-requires
put_white_rows-requires c =
    let part = rw c.in-Lost.is at c.in-Some.ensures in
    let (at, begun) = c.requires.upcoming in
    takes_white c.args.rows.now.rows c.args.output.now c.loop-part.rows.rows c.loop-part.output
    c.loop-part.invariant.passed c.loop-part.invariant.put c.next_part.new.self.rows c.in-Lost.count c.in-Lost.cause
    part.0 c.args.width c.requires.width at begun

pub loop-part-preserved : goal.loop-part-preserved
loop-part-preserved c =
    let part = rw c.in-Lost.is at c.in-Some.ensures in
    let passed = c.loop-part.invariant.passed in
    let count = c.in-Lost.count in
    let cause = c.in-Lost.cause in
    rw c.after_lost-lost.ensures (record {
      passed = passed ++ replicate count (Err cause);
      put = white_put c.args.rows.now.rows c.args.output.now c.loop-part.rows.rows c.loop-part.output passed
          c.loop-part.invariant.put c.next_part.new.self.rows count cause part.0 c.args.width c.requires.width
          c.put_white_rows.new.self c.in_ok-put_white_rows-in-Lost.ensures;
      counted = lost_counted passed c.loop-part.lost c.loop-part.invariant.counted count cause;
    })

pub returns : goal.returns
returns c =
    all_put c.args.rows.now.rows c.args.output.now c.loop-part.rows.rows c.next_part.new.self.rows c.loop-part.output
    c.loop-part.lost c.loop-part.invariant c.in_default.ensures.0
