use Rattle.std.proofs.Common.{◌≡◌, ◌+◌, ◌-◌, ◌≤◌, arith, length}
use Rattle.fax_files.specs.views.Writing.{next_link, total_end, with_total}
use Rattle.fax_files.proofs.TotalLemmas.{one_left, still_pages, total_len}
use Rattle.fax_files.proofs.totals.put_totals.Goals as goal

pub loop-preserved : goal.loop-preserved
loop-preserved c =
    let old = c.loop.file in
    let T = c.args.pages in
    let last = c.loop.invariant.1.0 in
    let invariant = rw (one_left T c.loop.counter (omega (arith, c.loop-test.true))) at c.loop.invariant in
    let page = invariant.1.1 in
    let next = next_link old c.loop.link in
    let end = total_end old c.loop.link in
    let some : 2 ≤ end = omega (arith, page.0.0) in
    let before : end ≤ next = omega (arith, page.0.1) in
    let inside : end ≤ length old = omega (arith, page.0.2, before) in
    let at_total : c.follow-page.result.directory + (c.after_fields.result - 2) ≡ end - 2 =
    omega (arith, c.follow-page.ensures.directory, c.after_fields.ensures) in
    let after_total : end - 2 + 2 ≡ end = omega (arith, some) in
    let is : c.set_u16.new.file ≡ with_total T end old = rw (at_total, after_total) at c.set_u16.ensures in
    rw (c.follow-page.ensures.link, is) (
      omega (arith, total_len old T end some inside, page.0.2),
      (last, still_pages old T end (T - (c.loop.counter + 1)) next last some before inside page.1),
      invariant.2,
    )
