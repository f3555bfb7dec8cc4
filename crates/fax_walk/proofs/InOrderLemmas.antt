-- What is returned in order: one answer at each place makes one list, and what follows an item
-- begins after it.
use Rattle.std.proofs.lemmas.Grind.{common_steps}
use Rattle.std.proofs.Common.{◌≡◌, ℕ, zero, suc, ◌+◌, ◌<◌, ◌≤◌, List, [], ◌∷◌, ◌++◌, length, take, drop, Some, refl}
use Rattle.std.proofs.Common.{sym, ap, ◌∙◌}
use Rattle.std.proofs.Common.{subst, arith, append_assoc}
use Rattle.std.proofs.lemmas.List.{drop_at, take-append-drop}
use Rattle.std.specs.Prelude.{slice_get}
use Rattle.fax_walk.specs.declared.end.End.{End}
use Rattle.fax_walk.specs.Pages.{AreFrom, NextItem, goes_on, ends_as}
use Rattle.fax_walk.specs.laws.InOrder.{LeadTo}
use Rattle.fax_bits.specs.laws.Codes.{IsOne}

-- there is one answer, and no other
pub record IsOneAnswer {A : Type 0} (holds : A → Type 0) : Type 0 where
  pub it : A
  pub is : holds it
  pub one : (other : A) → holds other → other ≡ it

-- there is one answer at most
abbrev pub IsSingle : {A : Type 0} → (A → Type 0) → Type 0
IsSingle {A} holds = (x y : A) → holds x → holds y → x ≡ y

pub same_answer : {A : Type 0} {holds : A → Type 0} → IsOneAnswer holds → IsSingle holds
same_answer only x y is is_too = only.one x is ∙ sym (only.one y is_too)

-- steps that are the same have the same item and lead to the same place
pub step_parts : {S A : Type 0} (x y : A) (to place : S) → ◌≡◌ {A = NextItem A S} (goes_on x to) (goes_on y place)
    → (x ≡ y) × (to ≡ place)
step_parts x y to place same = (cc same, cc same)

pub same_step : {S A : Type 0} {next : NextItem A S → Type 0} → IsOneAnswer next → (x y : A) (to place : S)
    → next (goes_on x to) → next (goes_on y place) → (x ≡ y) × (to ≡ place)
same_step only x y to place is is_too = grind (arith, step_parts, same_answer)

-- what is one list with one end is single
pub two_of : {A E : Type 0} {holds : List A → E → Type 0} → IsOne holds → (items others : List A) (end other : E)
    → holds items end
    → holds others other → (items ≡ others) × (end ≡ other)
two_of one items others end other is is_too = grind arith

-- what is returned from a place on, if something is
pub record IsListed {S A : Type 0} (next : S → NextItem A S → Type 0) (at : S) : Type 0 where
  pub items : List A
  pub end : End
  pub is : AreFrom next at items end

-- where each place has at most one answer, two lists from a place on are one
pub single_from : {S A : Type 0} (next : S → NextItem A S → Type 0) → ((at : S) → IsSingle (next at))
    → (at : S) (items others : List A)
    (end other : End) → AreFrom next at items end → AreFrom next at others other → (items ≡ others) × (end ≡ other)
single_from next single at [] [] end other first second = grind arith
single_from next single at [] (y ∷ others) end other first (to, second, rest) = grind arith
single_from next single at (x ∷ items) [] end other (to, first, rest) second = grind arith
single_from {S} {A} next single at (x ∷ items) (y ∷ others) end other (to, first, rest) (to', second, rest') =
    grind (arith, step_parts, single_from next single to' items others end other)

module _ {S A : Type 0} (next : S → NextItem A S → Type 0) (answers : (at : S) → IsOneAnswer (next at)) where
  pub one_from : (at : S) (items others : List A) (end other : End) → AreFrom next at items end
      → AreFrom next at others other
      → (items ≡ others) × (end ≡ other)
  one_from = single_from next (λ at. same_answer (answers at))

  listed_step : (at : S) (answer : NextItem A S) → next at answer
      → ((item : A) (to : S) → next at (goes_on item to) → IsListed next to)
      → IsListed next at
  listed_step at (ends_as end) is on = record { items = []; end = end; is = is }
  listed_step at (goes_on item to) is on =
      let rest = on item to is in record { items = item ∷ rest.items; end = rest.end; is = (to, is, rest.is) }

  -- where each step lowers a measure, something is returned from each place on
  pub listed_by : (measure : S → ℕ) → ((at : S) (item : A) (to : S) → next at (goes_on item to)
      → measure to < measure at) → (at : S)
      → IsListed next at
  listed_by measure falls at = by_fuel (measure at) at (omega arith)
    where
      by_fuel : (fuel : ℕ) (at : S) → measure at ≤ fuel → IsListed next at
      by_fuel zero at few =
          listed_step at (answers at).it (answers at).is (λ item to step. let less = falls at item to step in
          absurd (omega (arith, less, few)))
      by_fuel (suc fuel) at few =
          listed_step at (answers at).it (answers at).is
          (λ item to step. let less = falls at item to step in by_fuel fuel to (omega (arith, less, few)))

  -- as many items lead to one place
  pub one_led : (at : S) (items others : List A) (to another : S) → length items ≡ length others
      → LeadTo next at items to
      → LeadTo next at others another → to ≡ another
  one_led at [] [] to another count is is_too = is ∙ sym is_too
  one_led at [] (y ∷ others) to another count is is_too = absurd (omega (arith, count))
  one_led at (x ∷ items) [] to another count is is_too = absurd (omega (arith, count))
  one_led at (x ∷ items) (y ∷ others) to another count (place, step, leads) (place', step', leads') =
      grind (arith, same_step, one_led place' items others to another (omega (arith, count)))

  pub one_list : (at : S) → IsListed next at → IsOne (AreFrom next at)
  one_list at listed = grind (arith, common_steps, one_from)

module _ {S A : Type 0} (next : S → NextItem A S → Type 0) where
  -- the first items of what is returned lead to a place, and the others are returned from there
  pub split_at : (at : S) (before after : List A) (end : End) → AreFrom next at (before ++ after) end
      → (to : S) × LeadTo next at before to × AreFrom next to after end
  split_at at [] after end is = (at, refl, is)
  split_at at (x ∷ before) after end (place, step, rest) = grind
      (arith, common_steps, split_at place before after end rest)

  -- items that lead to a place, and then those that lead on from there
  pub leads_both : (at to : S) (items more : List A) (later : S) → LeadTo next at items to → LeadTo next to more later
      → LeadTo next at (items ++ more) later
  leads_both at to [] more later to_is rest = subst (λ (s : S). LeadTo next s more later) to_is rest
  leads_both at to (x ∷ items) more later (place, step, leads) rest =
      (place, step, leads_both place to items more later leads rest)

  -- one more item
  pub leads_on : (at to : S) (items : List A) (item : A) (later : S) → LeadTo next at items to
      → next to (goes_on item later)
      → LeadTo next at (items ++ item ∷ []) later
  leads_on at to items item later leads step = leads_both at to items (item ∷ []) later leads (later, step, refl)

  -- items that lead to a place, and then what is returned from there
  pub joined : (at to : S) (items after : List A) (end : End) → LeadTo next at items to → AreFrom next to after end
      → AreFrom next at (items ++ after) end
  joined at to [] after end to_is rest = subst (λ (s : S). AreFrom next s after end) to_is rest
  joined at to (x ∷ items) after end (place, step, leads) rest =
      (place, step, joined place to items after end leads rest)

  -- items that lead to a place, and the end there
  pub ended_at : (at to : S) (items : List A) (end : End) → LeadTo next at items to → next to (ends_as end)
      → AreFrom next at items end
  ended_at at to [] end to_is ends = rw (← to_is) ends
  ended_at at to (x ∷ items) end (place, step, leads) ends = (place, step, ended_at place to items end leads ends)

  -- a fact that each step keeps holds where items lead
  pub kept : (holds : S → Type 0) → ((at : S) (item : A) (to : S) → holds at → next at (goes_on item to) → holds to)
      → (at to : S) (items : List A) → LeadTo next at items to → holds at → holds to
  kept holds keeps at to [] to_is here = subst holds (sym to_is) here
  kept holds keeps at to (x ∷ items) (place, step, leads) here =
      kept holds keeps place to items leads (keeps at x place here step)

-- what stands after so many elements of a list, of which some are dropped
pub get_after : {A : Type 0} (front : List A) (x : A) (more : List A) (n : ℕ) → length front ≡ n
    → slice_get (front ++ x ∷ more) n ≡ Some x
get_after [] x more zero e = refl
get_after [] x more (suc n) e = absurd (omega (arith, e))
get_after (y ∷ front) x more zero e = absurd (omega (arith, e))
get_after (y ∷ front) x more (suc n) e = get_after front x more n (omega (arith, e))

pub get_dropped : {A : Type 0} (k n : ℕ) (xs : List A) → slice_get (drop k xs) n ≡ slice_get xs (k + n)
get_dropped zero n xs = let e : 0 + n ≡ n = omega arith in rw e refl
get_dropped (suc k) n [] = refl
get_dropped (suc k) n (x ∷ xs) = let e : suc k + n ≡ suc (k + n) = omega arith in rw e (get_dropped k n xs)

pub number_dropped : {A : Type 0} (k n : ℕ) (front : List A) (x : A) (more : List A) → length front ≡ k + n
    → slice_get (drop k (front ++ x ∷ more)) n ≡ Some x
number_dropped k n front x more count = get_dropped k n (front ++ x ∷ more) ∙ get_after front x more (k + n) count

-- what stands at a number of a list divides it
pub divided_at : {A : Type 0} (xs : List A) (n : ℕ) (x : A) → slice_get xs n ≡ Some x
    → (before : List A) × (xs ≡ before ++ x ∷ drop (n + 1) xs) × (length before ≡ n)
divided_at {A} [] n x e = absurd cc
divided_at {A} (y ∷ xs) zero x e = grind arith
divided_at {A} (y ∷ xs) (suc n) x e =
    let later = divided_at xs n x e in
    let m : suc n + 1 ≡ suc (n + 1) = omega arith in
    (y ∷ later.0, rw m (ap (λ (l : List A). y ∷ l) later.1), omega (arith, later.2))

-- the item at a number is the first of what is left there
pub first_left : {A : Type 0} (all : List A) (n : ℕ) (item : A) → slice_get all n ≡ Some item
    → drop n all ≡ item ∷ drop (n + 1) all
first_left all n item there = grind (arith, divided_at, drop_at)

module _ {S A : Type 0} (next : S → NextItem A S → Type 0) where
  -- an item, the place where it was read, and what is returned after it
  pub record IsSplit (from : S) (item : A) (after : List A) (end : End) : Type 0 where
    pub front : List A
    pub at : S
    pub lead : LeadTo next from front at
    pub to : S
    pub step : next at (goes_on item to)
    pub rest : AreFrom next to after end

  -- item number n after the first k, and what is returned after it
  pub split_at_number : (from : S) (k : ℕ) (whole all : List A) (end : End) (n : ℕ) (item : A)
      → AreFrom next from whole end
      → all ≡ drop k whole → slice_get all n ≡ Some item → IsSplit from item (drop (n + 1) all) end
  split_at_number from k whole all end n item are all_is there =
      let split = divided_at all n item there in
      let after = drop (n + 1) all in
      let front = take k whole ++ split.0 in
      let e : whole ≡ front ++ item ∷ after =
      sym (take-append-drop k whole) ∙ ap (λ (l : List A). take k whole ++ l) (sym all_is ∙ split.1)
      ∙ sym (append_assoc (take k whole) split.0 (item ∷ after)) in
      let parts = split_at next from front (item ∷ after) end (subst (λ (l : List A). AreFrom next from l end) e are) in
      record { front = front; at = parts.0; lead = parts.1; to = parts.2.0; step = parts.2.1; rest = parts.2.2 }
