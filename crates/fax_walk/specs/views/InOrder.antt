-- Items by their number, and what is read of a file in order, as contracts see them.
-- A definition without a citation is this project's profile.
use Rattle.std.specs.Prelude.{◌≡◌, ◌⊎◌, ◌+◌, ◌<◌, ℕ, List, length, Option, Some, None, slice_get}
use Rattle.fax_walk.specs.declared.end.End.{End}

-- item number n of what is returned
abbrev pub IsNumber : {A : Type 0} → (List A → End → Type 0) → ℕ → A → Type 0
IsNumber {A} tail n item =
    (all : List A) × (end : End) × tail all end × (slice_get all n ≡ Some item)

-- n items are returned, and then they end so
abbrev pub EndsAfter : {A : Type 0} → (List A → End → Type 0) → ℕ → End → Type 0
EndsAfter {A} tail n end = (all : List A) × tail all end × (length all ≡ n)

-- no end was reported yet, or it was this one
abbrev pub HasNoOtherEnd : Option End → End → Type 0
HasNoOtherEnd None end = Unit {0}
HasNoOtherEnd (Some final_end) end = final_end ≡ end

-- what is read of a file in order, a walk or its pages: the file, what it was started with, how
-- many items were returned, and how they ended, once that was reported
pub record Reading (B : Type 0) : Type 0 where
  pub file : List ℕ
  pub origin : B
  pub yielded : ℕ
  pub final_end : Option End

-- before the first item of what is started so
abbrev pub reading_from : {B : Type 0} → List ℕ → B → Reading B
reading_from file origin = record { file = file; origin = origin; yielded = 0; final_end = None }

-- this item is returned: it is number `yielded` of all of them, and one of fewer than the limit
pub record Yields {A B : Type 0} (tail : List ℕ → B → List A → End → Type 0) (limit : ℕ)
    (old : Reading B) (item : A) (new : Reading B) : Type 0 where
  pub untold : old.final_end ≡ None
  pub number : IsNumber (tail old.file old.origin) old.yielded item
  pub few : old.yielded + 1 < limit
  pub new_is : new ≡ record old { yielded = old.yielded + 1 }

-- the items end so after those that were returned, and no other end was reported
abbrev pub HasEndedAs : {A B : Type 0} → (List ℕ → B → List A → End → Type 0) → Reading B → End
    → Reading B → Type 0
HasEndedAs tail old end new =
    EndsAfter (tail old.file old.origin) old.yielded end × HasNoOtherEnd old.final_end end
    × (new ≡ record old { final_end = Some end })

-- what continues after the item that was returned last, or, where none was, what was started with
abbrev pub IsAfterLast : {A B N : Type 0} → (List ℕ → B → List A → End → Type 0) → Reading B
    → (B → N) → (A → N) → N → Type 0
IsAfterLast {A} tail old first after next =
    ((old.yielded ≡ 0) × (next ≡ first old.origin))
    ⊎ ((before : ℕ) × (item : A) × (old.yielded ≡ before + 1)
    × IsNumber (tail old.file old.origin) before item × (next ≡ after item))
