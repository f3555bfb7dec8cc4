use Rattle.std.proofs.Common.{[], ◌∷◌, ◌++◌, arith, length-append, subst, sym, ◌∙◌}
use Rattle.fax_c.specs.views.StripRuns.{IsRowAt}
use Rattle.fax_c.proofs.RunRowLemmas.{row_there, rows_more}
use Rattle.fax_c.proofs.coding_runs.code_rows.Goals as goal

pub loop-i-preserved : goal.loop-i-preserved
loop-i-preserved c =
    let so_far = c.loop-i.invariant in
    let row = c.take_row.new.row in
    let here = subst (λ w. IsRowAt w c.args.rows.now c.args.runs.now c.loop-i.i row) so_far.width
    (c.take_row.ensures.taken c.if-not-take_row.false) in
    record {
      width = c.take_row.ensures.same_width ∙ so_far.width;
      rows = so_far.rows ++ row ∷ [];
      count = omega (arith, length-append so_far.rows (row ∷ []), so_far.count);
      lie = rows_more c.args.form.width c.args.rows.now c.args.runs.now 0 c.loop-i.i so_far.rows row so_far.lie
          (omega (arith, so_far.count)) here;
      put = c.strips_are_written_row_by_row.ensures.goes_on c.args.form c.args.k so_far.rows row c.loop-i.writer
          c.put_row.new.self
          so_far.put c.in_ok-put_row.ensures;
    }

pub returns-then-not-take_row : goal.returns-then-not-take_row
returns-then-not-take_row c = λ rows are.
    let so_far = c.loop-i.invariant in
    let found = row_there c.args.form.width c.args.rows.now c.args.runs.now c.loop-i.i rows are.1
    (omega (arith, are.0, c.loop-i-test.true)) in
    c.take_row.ensures.none c.if-not-take_row.true found.0
    (subst (λ w. IsRowAt w c.args.rows.now c.args.runs.now c.loop-i.i found.0) (sym so_far.width) found.1)
