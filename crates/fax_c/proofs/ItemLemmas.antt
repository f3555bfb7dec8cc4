-- Items by their number, and the end, where a tail is one.
use Rattle.std.proofs.Common.{arith, ◌≡◌, ℕ, List, length}
use Rattle.std.specs.Prelude.{Some, slice_get}
use Rattle.fax_bits.specs.laws.Codes.{IsOne}
use Rattle.fax_walk.specs.declared.end.End.{End}
use Rattle.fax_walk.specs.views.InOrder.{EndsAfter, IsNumber}

module _ {A : Type 0} (tail : List A → End → Type 0) (one : IsOne tail) (items : List A) (end : End)
    (is : tail items end) where
  pub number_is : (n : ℕ) (item : A) → IsNumber tail n item → slice_get items n ≡ Some item
  number_is n item (all, other, there, found) = grind arith

  pub end_is : (n : ℕ) (met : End) → EndsAfter tail n met → (n ≡ length items) × (met ≡ end)
  end_is n met (all, there, count) = grind arith
