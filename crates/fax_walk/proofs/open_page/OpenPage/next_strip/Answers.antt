use Rattle.std.proofs.Common.{◌+◌, ap, sym}
use Rattle.fax_page.specs.views.Reader.{StripState}
use Rattle.fax_walk.proofs.OpenPageLemmas.{next_keeps, next_stops}
use Rattle.fax_walk.proofs.open_page.OpenPage.next_strip.Goals as goal

pub returns-in-Ok-clause-keeps : goal.returns-in-Ok-clause-keeps
returns-in-Ok-clause-keeps c =
    let upcoming = rw (sym c.self.view_is) at c.requires.upcoming in
    let all_read = rw (sym c.self.view_is) at c.requires.all_read in
    let p = c.self.inside in
    rw (← c.self.view_is)
    (next_keeps _ c.restart.new.self _ c.self.invariant.limits c.self.invariant.strip_is all_read upcoming
    (ap (λ (s : StripState). s.row) c.restart.ensures) _ (ap (λ (s : StripState). p.before + s.read) c.restart.ensures))

pub returns-in-Err-clause-outside : goal.returns-in-Err-clause-outside
returns-in-Err-clause-outside c _ =
    let upcoming = rw (sym c.self.view_is) at c.requires.upcoming in
    let all_read = rw (sym c.self.view_is) at c.requires.all_read in
    rw (← c.self.view_is)
    (next_stops _ c.self.invariant.limits c.self.invariant.strip_is c.self.invariant.its all_read upcoming
    c.in-Err.ensures.outside)
