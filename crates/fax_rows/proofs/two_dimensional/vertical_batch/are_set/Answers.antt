use Rattle.std.proofs.lemmas.Grind.{common_steps}
use Rattle.std.proofs.Common.{◌≡◌, ℕ, ◌-◌, ◌*◌, ◌%◌, ◌^◌, ◌<◌, ◌≤◌, subst, bit_and, nat_eq, arith, IsTrue}
use Rattle.std.proofs.lemmas.Bool.{eqb-true}
use Rattle.std.specs.Int.{bit_at}
use Rattle.fax_rows.proofs.SeveralLaneLemmas.{three_set}
use Rattle.fax_rows.proofs.two_dimensional.vertical_batch.are_set.Goals as goal

wanted_is : (count : ℕ) → count ≤ 4 → 1 * 2 ^ count % 18446744073709551616 - 1 ≡ 2 ^ count - 1
wanted_is count h = grind (arith, common_steps)

all : (a b d count i : ℕ) → count ≤ 4
    → IsTrue (nat_eq (bit_and (bit_and (bit_and a b) d) (1 * 2 ^ count % 18446744073709551616 - 1))
    (1 * 2 ^ count % 18446744073709551616 - 1))
    → i < count → (bit_at a i ≡ 1) × (bit_at b i ≡ 1) × (bit_at d i ≡ 1)
all a b d count i few set h =
    three_set a b d count i
    (subst (λ w. bit_and (bit_and (bit_and a b) d) w ≡ w) (wanted_is count few) (eqb-true _ _ set)) h

pub returns-clause-first : goal.returns-clause-first
returns-clause-first c = λ set i h. (all c.args.first c.args.second c.args.third c.args.count i c.requires set h).0

pub returns-clause-second : goal.returns-clause-second
returns-clause-second c = λ set i h. (all c.args.first c.args.second c.args.third c.args.count i c.requires set h).1

pub returns-clause-third : goal.returns-clause-third
returns-clause-third c = λ set i h. (all c.args.first c.args.second c.args.third c.args.count i c.requires set h).2
