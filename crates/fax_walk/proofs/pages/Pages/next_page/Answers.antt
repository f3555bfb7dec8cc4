use Rattle.std.proofs.Common.{inr, ◌≡◌, ◌+◌, ◌<◌, ◌^◌, refl, sym, ◌∙◌, arith}
use Rattle.std.proofs.lemmas.Result.{err_from_is_err_and}
use Rattle.fax_walk.proofs.PagesLemmas.{ended_properly, ended_so, page_given, given_more}
use Rattle.fax_walk.proofs.pages.Pages.next_page.Goals as goal

pub invariant_of-self : goal.invariant_of-self
invariant_of-self c =
    let laws = c.form_tails_are_one.ensures in
    let upcoming = rw (sym c.page.view_is, sym c.self.view_is) at c.in-Ok.ensures.ok in
    let after : c.yielded.result ≡ c.page.inside.page + 1 = c.yielded.ensures ∙ c.page.invariant.its.after.yielded in
    let short : c.page.inside.page + 1 < 2 ^ 32 = omega (arith, after, c.yielded.type_inv) in
    let hands = page_given laws.one laws.first _ _ upcoming c.page.invariant.its c.page.invariant.limits short in
    record {
      come = given_more c.self.inside.file.now c.self.inside.origin c.self.inside.yielded _ upcoming.come
          upcoming.file_is
          c.page.invariant.its;
      cursor_is = inr (
        c.self.inside.yielded,
        record { page = c.page.inside.page; form = c.page.inside.form },
        refl,
        hands.0.number,
        rw after refl,
      );
    }

pub returns-in-Ok : goal.returns-in-Ok
returns-in-Ok c = grind (arith, page_given)

pub returns-in_ok-answer-in-Err : goal.returns-in_ok-answer-in-Err
returns-in_ok-answer-in-Err c =
    let ends = rw (sym c.self.view_is) at c.in-Err.ensures.err in
    rw (← c.self.view_is) (ended_properly _ _ c.in-Err.end _ (ends.0, ends.1, refl)
    c.in_ok-answer-in-Err.ensures)

pub returns-in_err-answer-in-Err : goal.returns-in_err-answer-in-Err
returns-in_err-answer-in-Err c = grind (arith, err_from_is_err_and, ended_so)
