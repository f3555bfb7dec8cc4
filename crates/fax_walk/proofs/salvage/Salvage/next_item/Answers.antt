use Rattle.std.proofs.Common.{◌<◌, ◌^◌, arith}
use Rattle.std.proofs.lemmas.Result.{err_from_is_err_and}
use Rattle.fax_walk.proofs.SalvageFileLemmas.{broken_in_file, broken_there, ends_there, entered_in_file, item_handed}
use Rattle.fax_walk.proofs.SalvageFileLemmas.{item_in_file, left_in_file, refused_in_file, refused_memory}
use Rattle.fax_walk.proofs.SalvageFileLemmas.{refused_there}
use Rattle.fax_walk.proofs.salvage.Salvage.next_item.Goals as goal

pub overflow_add-self : goal.overflow_add-self
overflow_add-self c =
    let item = item_handed c.pages.invariant _ _ c.in-Some.ensures in
    omega (arith, item.few, c.pages.invariant.same_given)

pub invariant_of-self : goal.invariant_of-self
invariant_of-self c = item_in_file c.pages.invariant _ _ c.in-Some.ensures

pub returns-in-Some : goal.returns-in-Some
returns-in-Some c = item_handed c.pages.invariant _ _ c.in-Some.ensures

pub invariant_of-self-in_err-next_page : goal.invariant_of-self-in_err-next_page
invariant_of-self-in_err-next_page c =
    let remaining = left_in_file c.pages.invariant _ _ c.in_default.ensures c.close_page-clean.ensures.clean in
    rw c.close_page-clean.ensures.none remaining.sound

pub returns-in_err-next_page : goal.returns-in_err-next_page
returns-in_err-next_page c =
    let remaining = left_in_file c.pages.invariant _ _ c.in_default.ensures c.close_page-clean.ensures.clean in
    let between = refused_memory (rw c.in-Some-chain.is at remaining) in
    let p = err_from_is_err_and c.from_residual.result c.from_residual.ensures.1 in
    rw p.1 (c.pages.invariant.same_file, c.pages.invariant.same_given, between)

pub invariant_of-self-in-Ends : goal.invariant_of-self-in-Ends
invariant_of-self-in-Ends c =
    let remaining = left_in_file c.pages.invariant _ _ c.in_default.ensures c.close_page-clean.ensures.clean in
    rw c.close_page-clean.ensures.none remaining.sound

pub returns-in-Ends : goal.returns-in-Ends
returns-in-Ends c =
    let remaining = left_in_file c.pages.invariant _ _ c.in_default.ensures c.close_page-clean.ensures.clean in
    ends_there (rw c.in-Some-chain.is at remaining) (rw c.in-Ends.is at c.in_ok-next_page.ensures)

pub invariant_of-self-in-Broken : goal.invariant_of-self-in-Broken
invariant_of-self-in-Broken c =
    let remaining = left_in_file c.pages.invariant _ _ c.in_default.ensures c.close_page-clean.ensures.clean in
    rw (c.in-Some-chain.is, c.close_page-clean.ensures.none) (broken_in_file (rw c.in-Some-chain.is at remaining))

pub returns-in-Broken : goal.returns-in-Broken
returns-in-Broken c =
    let remaining = left_in_file c.pages.invariant _ _ c.in_default.ensures c.close_page-clean.ensures.clean in
    broken_there (rw c.in-Some-chain.is at remaining) (rw c.in-Broken.is at c.in_ok-next_page.ensures)

pub invariant_of-self-in-Refused : goal.invariant_of-self-in-Refused
invariant_of-self-in-Refused c =
    let remaining = left_in_file c.pages.invariant _ _ c.in_default.ensures c.close_page-clean.ensures.clean in
    let few : c.in-Some-chain.chain.yielded < 2 ^ 32 = rw c.yielded-page.ensures at c.yielded-page.type_inv in
    rw c.close_page-clean.ensures.none
    (refused_in_file (rw c.in-Some-chain.is at remaining) _ _ (rw c.in-Refused.is at c.in_ok-next_page.ensures) few)

pub returns-in-Refused : goal.returns-in-Refused
returns-in-Refused c =
    let remaining = left_in_file c.pages.invariant _ _ c.in_default.ensures c.close_page-clean.ensures.clean in
    let few : c.in-Some-chain.chain.yielded < 2 ^ 32 = rw c.yielded-page.ensures at c.yielded-page.type_inv in
    rw (c.yielded-page.ensures, c.close_page-clean.ensures.none)
    (refused_there (rw c.in-Some-chain.is at remaining) _ _ (rw c.in-Refused.is at c.in_ok-next_page.ensures) few)

pub pages-preserved : goal.pages-preserved
pages-preserved c =
    let remaining = left_in_file c.pages.invariant _ _ c.in_default.ensures c.close_page-clean.ensures.clean in
    let few : c.in-Some-chain.chain.yielded < 2 ^ 32 = rw c.yielded-page.ensures at c.yielded-page.type_inv in
    entered_in_file (rw c.in-Some-chain.is at remaining) _ _ (rw c.in-Entered.is at c.in_ok-next_page.ensures) few
