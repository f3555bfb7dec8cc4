use Rattle.std.proofs.Common.{◌≡◌, ◌-◌, ◌*◌, ◌/◌, ◌%◌, ap, ◌∙◌, arith}
use Rattle.std.proofs.Math.Nat.{mod-add-div, mul-mod_right}
use Rattle.fax_page.proofs.writer.group_rows.Goals as goal

pub returns-in-Mr-clause-same_place : goal.returns-in-Mr-clause-same_place
returns-in-Mr-clause-same_place c = λ is.
    let k = c.args.k in
    let rows : 64 - 64 % k ≡ k * (64 / k) = omega (arith, mod-add-div 64 k) in
    ap (λ n. n % k) rows ∙ mul-mod_right k (64 / k)
