use Rattle.std.proofs.Common.{sym, arith, rules}
use Prim.{search}
use Rattle.fax_walk.specs.code.Opening.{UpcomingPage}
use Rattle.fax_walk.proofs.OpenPageLemmas.{no_strip}
use Rattle.fax_walk.proofs.open_page.open_inside.Goals as goal

pub returns-in-Err-clause-refused : goal.returns-in-Err-clause-refused
returns-in-Err-clause-refused c =
    let same_page = rw (sym c.upcoming.view_is, sym c.place.view_is) at c.requires in
    let outside = c.in-Err.ensures.outside in
    let d = c.upcoming.inside in
    let upcoming : UpcomingPage = record {
      page = d.page;
      chain = d.chain;
      directory = d.strips.directory;
      form = d.form;
    } in
    rw (← c.upcoming.view_is, ← c.place.view_is, c.of_file.ensures, c.in-Err.ensures.fault)
    (no_strip upcoming _ c.upcoming.invariant.its same_page (omega (arith, c.if-row-form.false))
    (omega (arith, c.if-row-form-eq0.false)) outside)

pub invariant_of-result : goal.invariant_of-result
invariant_of-result c = record {
  its = c.upcoming.invariant.its;
  limits = c.upcoming.invariant.limits;
  counted = c.upcoming.invariant.counted;
  within = search rules;
  strip_is = search rules;
  room = c.in_ok-exchanged.ensures;
  some_page = search rules;
  few = search rules;
}
