use Rattle.std.proofs.Common.{◌+◌, sym, arith}
use Rattle.fax_walk.specs.code.Stages.{row_shown}
use Rattle.fax_walk.proofs.OpenPageLemmas.{few_read, fault_stops, reads_kept, stops_kept, state}
use Rattle.fax_walk.proofs.open_page.OpenPage.read_upcoming.Goals as goal

pub returns-in-Ok-true-clause-ok : goal.returns-in-Ok-true-clause-ok
returns-in-Ok-true-clause-ok c =
    let keeps = rw (sym c.self.view_is) at c.strips.invariant.keeps in
    let reads = rw c.in-Ok-true.field-0-test at c.in-Ok-true.ensures in
    let p = c.self.inside in
    let page = state p.page p.chain p.strips.directory p.form p.first p.number p.strip (row_shown p.strip p.exchanged)
    (p.before + p.strip.read) in
    let inv = c.self.invariant in
    let few = few_read page inv.limits inv.within inv.strip_is.form_is inv.strip_is.within inv.some_page inv.few in
    rw c.show_exchanged.ensures.same
    (reads_kept _ page keeps c.advance.new.self c.show_exchanged.new.self.shown c.requires c.self.invariant.limits
    c.self.invariant.strip_is
    c.self.invariant.its reads c.show_exchanged.ensures.shown _ (omega (arith, reads.read, few)))

pub returns-in-Err-clause-err : goal.returns-in-Err-clause-err
returns-in-Err-clause-err c =
    let keeps = rw (sym c.self.view_is) at c.strips.invariant.keeps in
    let is_open = rw (sym c.self.view_is) at c.strips.invariant.is_open in
    stops_kept _ _ keeps _
    (fault_stops _ c.advance.new.self c.in-Err.fault is_open c.self.invariant.limits c.self.invariant.strip_is
    c.self.invariant.its c.in-Err.ensures _ c.upcoming_row-in-Err.ensures.upcoming)
