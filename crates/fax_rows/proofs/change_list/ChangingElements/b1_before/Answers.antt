use Rattle.std.proofs.Common.{◌≡◌, ◌+◌, ◌-◌, subst, arith}
use Rattle.fax_rows.specs.code.ChangingElements.{IsBeforeB1}
use Rattle.fax_rows.proofs.PlacedB1Lemmas.{b1_at_most, b2_ahead, search_goes_on, search_ends}
use Rattle.fax_rows.proofs.change_list.ChangingElements.b1_before.Goals as goal

pub returns-else-self-b1 : goal.returns-else-self-b1
returns-else-self-b1 c = λ colour before.
    let row = c.args.self in
    let column = c.args.column in
    let b1 = c.args.b1 in
    let some = c.requires.some in
    let within = c.requires.within in
    let later = b2_ahead row b1 some within in
    let inside = b1_at_most row b1 some within in
    let same : b1 - 1 + 2 ≡ b1 + 1 = omega arith in
    let goes_on = search_goes_on row column (b1 - 1) (omega arith) (omega arith) colour before in
    search_ends row column (b1 + 1) (omega arith) colour
    (subst (λ b. IsBeforeB1 row column colour b) same goes_on)
