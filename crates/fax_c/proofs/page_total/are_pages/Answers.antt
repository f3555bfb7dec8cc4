use Rattle.std.proofs.Common.{◌≡◌, ◌<◌, ℕ, suc, ◌+◌, ◌-◌, arith}
use Rattle.fax_c.proofs.page_total.are_pages.Goals as goal

-- one of the pages that are left
one_left : (count i : ℕ) → i < count → count - i ≡ suc (count - (i + 1))
one_left count i fewer = omega (arith, fewer)

pub returns-in_default-clause-none : goal.returns-in_default-clause-none
returns-in_default-clause-none c =
    λ is are. c.in_default.ensures.page
    (rw (one_left c.args.count c.loop.counter (omega (arith, c.loop-test.true))) at (c.loop.invariant.2 are)).0

pub loop-preserved : goal.loop-preserved
loop-preserved c =
    let page = c.in-Some.ensures.page in
    let remaining = one_left c.args.count c.loop.counter (omega (arith, c.loop-test.true)) in
    let invariant = rw remaining at c.loop.invariant in
    rw c.in-Some.ensures.next
    (omega (arith, page.2), λ rest. invariant.1 (page, rest), λ are. (invariant.2 are).1)
