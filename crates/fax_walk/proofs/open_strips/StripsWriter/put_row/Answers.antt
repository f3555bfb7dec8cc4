use Rattle.std.proofs.Common.{◌≡◌, [], ◌∷◌, ◌++◌, length, refl, sym, ap, ◌∙◌, arith}
use Rattle.fax_walk.specs.declared.open_strips.StripsWriter.{StripsWriter}
use Rattle.fax_walk.proofs.OpenStripsLemmas.{kept, whole, one_fits, row_goes_on}
use Rattle.fax_walk.proofs.open_strips.StripsWriter.put_row.Goals as goal

pub returns-in_ok-end_strip : goal.returns-in_ok-end_strip
returns-in_ok-end_strip c = λ form k rows put upcoming.
    let old = c.args.self.now in
    let writes = c.strips_are_written_row_by_row.ensures in
    let n_is : c.len-strip.result ≡ length old.done.items = omega (arith, c.len-strip.ensures) in
    let (writer, is, puts) = c.in_ok-open_strip.ensures form k rows put upcoming in
    let same : writer ≡ c.in-Some.writer = cc (ap (λ (p : StripsWriter). p.writer) is, c.in-Some.is) in
    let opened = rw same at is in
    let ready = rw same at puts in
    let end_is = rw (n_is, opened, put.form_is) at c.min-end.ensures in
    let all = (rw (opened, put.count) at c.if-self-end.true) ∙ end_is in
    let ends = c.in_ok-end_strip.ensures in
    rw (ends.same, opened)
    (whole writes form k rows old put upcoming (c.args.row.now ∷ []) 1 c.put_row.new.self refl (omega arith)
    (one_fits writes form k rows old put upcoming)
    (row_goes_on writes form k rows old put upcoming c.args.row.now c.in-Some.writer c.put_row.new.self ready
    c.in_ok-put_row.ensures)
    c.end_strip.new.self.done ends.bytes
    (ends.done ∙ ap (λ (p : StripsWriter). p.done.items ++ ends.bytes ∷ []) opened) all
    (ends.finishes c.put_row.new.self refl))

pub returns-else-self-end : goal.returns-else-self-end
returns-else-self-end c = λ form k rows put upcoming.
    let old = c.args.self.now in
    let writes = c.strips_are_written_row_by_row.ensures in
    let n_is : c.len-strip.result ≡ length old.done.items = omega (arith, c.len-strip.ensures) in
    let (writer, is, puts) = c.in_ok-open_strip.ensures form k rows put upcoming in
    let same : writer ≡ c.in-Some.writer = cc (ap (λ (p : StripsWriter). p.writer) is, c.in-Some.is) in
    let opened = rw same at is in
    let ready = rw same at puts in
    let end_is = rw (n_is, opened, put.form_is) at c.min-end.ensures in
    rw opened
    (kept writes form k rows old put upcoming (c.args.row.now ∷ []) 1 c.put_row.new.self refl (omega arith)
    (one_fits writes form k rows old put upcoming)
    (row_goes_on writes form k rows old put upcoming c.args.row.now c.in-Some.writer c.put_row.new.self ready
    c.in_ok-put_row.ensures)
    (λ all. c.if-self-end.false (rw (opened, put.count) (all ∙ sym end_is))))
