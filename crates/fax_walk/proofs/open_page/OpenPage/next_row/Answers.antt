use Rattle.std.proofs.Common.{◌+◌, ◌≤◌, inr, sym, arith}
use Rattle.fax_walk.specs.code.Stages.{row_of, row_shown}
use Rattle.fax_walk.proofs.OpenPageLemmas.{few_read, one_skipped, row_given, state}
use Rattle.fax_walk.proofs.open_page.OpenPage.next_row.Goals as goal

pub returns-then-upcoming_row-self-clause-ok : goal.returns-then-upcoming_row-self-clause-ok
returns-then-upcoming_row-self-clause-ok c =
    let reads = rw (c.if-not-branch.false, sym c.self.view_is) at c.in_ok-read_upcoming.ensures.ok in
    let inv = c.self.invariant in
    let p = c.self.inside in
    let page = state p.page p.chain p.strips.directory p.form p.first p.number p.strip (row_shown p.strip p.exchanged)
    (p.before + p.strip.read) in
    rw (← c.self.view_is)
    (row_given c.args.self.now c.rows.self page c.rows.invariant.items c.rows.invariant.skips reads inv.its
    (rw (c.upcoming_row.ensures.upcoming, sym c.self.view_is) at c.if-upcoming_row-self.true)
    (few_read page inv.limits inv.within inv.strip_is.form_is inv.strip_is.within inv.some_page inv.few))

pub rows-preserved : goal.rows-preserved
rows-preserved c =
    let reads = rw (c.if-not-branch.false, sym c.self.view_is) at c.in_ok-read_upcoming.ensures.ok in
    let p = c.self.inside in
    let page = state p.page p.chain p.strips.directory p.form p.first p.number p.strip (row_shown p.strip p.exchanged)
    (p.before + p.strip.read) in
    let upcoming = rw (sym c.self.view_is) at c.upcoming_row.ensures.upcoming in
    let before : row_of page ≤ page.first = omega (arith, upcoming, c.if-upcoming_row-self.false) in
    let first = reads.still_open.first in
    rw (← c.self.view_is) (record {
      items = _;
      skips = one_skipped c.args.self.now c.rows.self page c.rows.invariant.items c.rows.invariant.skips reads before;
      is_open = reads.still_open;
      upcoming = inr (omega (arith, before, first));
    })
