use Rattle.std.proofs.Common.{arith, Some, None, inl}
use Rattle.std.proofs.lemmas.Result.{err_from_is_err_and}
use Rattle.fax_walk.specs.code.Opening.{EndsAt, IsNamed}
use Rattle.fax_walk.proofs.EnterLemmas.{enters_inside, no_page_inside, start_place, refused_inside}
use Rattle.fax_walk.proofs.walk.open_at_place.Goals as goal

pub returns-in_err-upcoming-clause-refused : goal.returns-in_err-upcoming-clause-refused
returns-in_err-upcoming-clause-refused c =
    let p = err_from_is_err_and c.from_residual.result c.from_residual.ensures.1 in
    let ends : EndsAt c.args.file.now c.args.place.now.at c.in_err-upcoming.field-0.0 =
    rw (← c.place.view_is) c.in_err-upcoming.ensures.err in
    rw (p.1, p.2) (no_page_inside c.args.file.now c.args.place.now _ ends)

pub returns-in_default-clause-refused : goal.returns-in_default-clause-refused
returns-in_default-clause-refused c =
    let none : IsNamed c.args.file.now c.args.place.now.at None =
    rw (← c.place.view_is) (rw c.in_default.is at c.in_ok-upcoming.ensures.ok) in
    no_page_inside c.args.file.now c.args.place.now _ (inl none)

pub returns-clause-opened : goal.returns-clause-opened
returns-clause-opened c = grind (arith, start_place)

pub returns-clause-refused : goal.returns-clause-refused
returns-clause-refused c =
    let named : IsNamed c.args.file.now c.args.place.now.at (Some c.in-Some.upcoming) =
    rw (← c.place.view_is) (rw c.in-Some.is at c.in_ok-upcoming.ensures.ok) in
    refused_inside c.args.file.now c.args.place.now c.in-Some.upcoming named c.open_inside.result
    c.open_inside.ensures.refused

pub returns-in_err-upcoming-clause-there : goal.returns-in_err-upcoming-clause-there
returns-in_err-upcoming-clause-there c = grind (arith, err_from_is_err_and)

pub returns-clause-there : goal.returns-clause-there
returns-clause-there c = λ is.
    let named : IsNamed c.args.file.now c.args.place.now.at (Some c.in-Some.upcoming) =
    rw (← c.place.view_is) (rw c.in-Some.is at c.in_ok-upcoming.ensures.ok) in
    enters_inside c.args.file.now c.args.place.now c.in-Some.upcoming named (c.open_inside.ensures.within is)
