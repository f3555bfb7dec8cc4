-- Numbers of the caller as what they stand for.
use Rattle.std.specs.Prelude.{◌≡◌, ◌≢◌, ℕ, Bool, true, false, Option, Some, None}
use Rattle.fax_bits.specs.declared.FillOrder.{FillOrder}
use Rattle.fax_walk.specs.declared.options.ConvertFault.{ConvertFault}
use Rattle.fax_walk.specs.declared.options.ConvertFault.TheVariants.{Memory}
use Rattle.fax_walk.specs.declared.options.Target.{Target}
use Rattle.fax_walk.specs.declared.options.Target.TheVariants.{Mmr, Pbm}
use Rattle.fax_c.specs.Numbers.{order_number, target_number}

-- the target with a number, or no target has it
abbrev pub IsTargetOf : ℕ → Option Target → Type 0
IsTargetOf number None = (target : Target) → number ≢ target_number target
IsTargetOf number (Some target) = number ≡ target_number target

-- the order with a number, or no order has it
abbrev pub IsOrderOf : ℕ → Option FillOrder → Type 0
IsOrderOf number None = (order : FillOrder) → number ≢ order_number order
IsOrderOf number (Some order) = number ≡ order_number order

-- a target has EOLs, or is one that has none
abbrev pub HasEols : Target → Bool → Type 0
HasEols target true = (target ≢ Pbm) × (target ≢ Mmr)
HasEols Pbm false = Unit {0}
HasEols Mmr false = Unit {0}
HasEols target false = ⊥

-- the number that is returned where a file is not converted
abbrev pub refusal_status : ConvertFault → ℕ
refusal_status Memory = 4
refusal_status fault = 2
