use Rattle.std.proofs.Common.{◌≡◌, ◌∷◌, [], ◌++◌, length, replicate, refl, sym, ap, ◌∙◌, arith}
use Rattle.std.proofs.lemmas.List.{length-replicate}
use Rattle.fax_page.specs.Lines.{white_row}
use Rattle.fax_walk.specs.declared.open_strips.StripsWriter.{StripsWriter}
use Rattle.fax_walk.proofs.OpenStripsLemmas.{kept, whole, one_fits, white_goes_on, next_upcoming, takes_white_row}
use Rattle.fax_walk.proofs.open_strips.StripsWriter.put_white_part.Goals as goal

pub open_strip-requires-clause-upcoming : goal.open_strip-requires-clause-upcoming
open_strip-requires-clause-upcoming c =
    (_, takes_white_row c.args.self.now c.args.most c.requires.upcoming c.requires.some)

pub returns-in_ok-end_strip-clause-put : goal.returns-in_ok-end_strip-clause-put
returns-in_ok-end_strip-clause-put c = λ form k rows put within.
    let old = c.args.self.now in
    let writes = c.strips_are_written_row_by_row.ensures in
    let upcoming = next_upcoming old c.args.most c.requires.upcoming c.requires.some form k rows put in
    let n_is : c.len-strip.result ≡ length old.done.items = omega (arith, c.len-strip.ensures) in
    let (writer, is, puts) = c.in_ok-open_strip.ensures form k rows put upcoming in
    let same : writer ≡ c.in-Some.writer = cc (ap (λ (p : StripsWriter). p.writer) is, c.in-Some.is) in
    let opened = rw same at is in
    let ready = rw same at puts in
    let end_is = rw (n_is, opened, put.form_is) at c.min-end.ensures in
    let count_is = rw (opened, put.count) at c.min-count.ensures in
    let all = (rw (opened, put.count) at c.if-self-end.true) ∙ end_is in
    let ends = c.in_ok-end_strip.ensures in
    let fits = one_fits writes form k rows old put upcoming in
    rw (ends.same, opened)
    (whole writes form k rows old put upcoming (replicate c.min-count.result (white_row form.width)) c.min-count.result
    c.put_white_rows.new.self
    (length-replicate c.min-count.result (white_row form.width))
    (omega (arith, fits, end_is, count_is, c.requires.some))
    (omega (arith, fits, end_is, count_is))
    (white_goes_on writes form k rows old put upcoming c.min-count.result c.in-Some.writer c.put_white_rows.new.self
    ready c.in_ok-put_white_rows.ensures)
    c.end_strip.new.self.done ends.bytes
    (ends.done ∙ ap (λ (p : StripsWriter). p.done.items ++ ends.bytes ∷ []) opened) all
    (ends.finishes c.put_white_rows.new.self refl))

pub returns-else-self-end-clause-put : goal.returns-else-self-end-clause-put
returns-else-self-end-clause-put c = λ form k rows put within.
    let old = c.args.self.now in
    let writes = c.strips_are_written_row_by_row.ensures in
    let upcoming = next_upcoming old c.args.most c.requires.upcoming c.requires.some form k rows put in
    let n_is : c.len-strip.result ≡ length old.done.items = omega (arith, c.len-strip.ensures) in
    let (writer, is, puts) = c.in_ok-open_strip.ensures form k rows put upcoming in
    let same : writer ≡ c.in-Some.writer = cc (ap (λ (p : StripsWriter). p.writer) is, c.in-Some.is) in
    let opened = rw same at is in
    let ready = rw same at puts in
    let end_is = rw (n_is, opened, put.form_is) at c.min-end.ensures in
    let count_is = rw (opened, put.count) at c.min-count.ensures in
    let fits = one_fits writes form k rows old put upcoming in
    rw opened
    (kept writes form k rows old put upcoming (replicate c.min-count.result (white_row form.width)) c.min-count.result
    c.put_white_rows.new.self
    (length-replicate c.min-count.result (white_row form.width))
    (omega (arith, fits, end_is, count_is, c.requires.some))
    (omega (arith, fits, end_is, count_is))
    (white_goes_on writes form k rows old put upcoming c.min-count.result c.in-Some.writer c.put_white_rows.new.self
    ready c.in_ok-put_white_rows.ensures)
    (λ all. c.if-self-end.false (rw (opened, put.count) (all ∙ sym end_is))))
