-- What leads to a place, and what is left, one item after another.
-- A definition without a citation is this project's profile.
use Rattle.std.specs.Prelude.{◌≡◌, ℕ, ◌≤◌, List, [], ◌∷◌, length, drop, Option, Some, None}
use Rattle.fax_walk.specs.declared.end.End.{End}
use Rattle.fax_walk.specs.Pages.{NextItem, goes_on}

-- these items are read from a place on, and the last of them leads to this place
abbrev pub LeadTo : {S A : Type 0} → (S → NextItem A S → Type 0) → S → List A → S → Type 0
LeadTo next at [] to = to ≡ at
LeadTo {S} next at (item ∷ items) to =
    (place : S) × next at (goes_on item place) × LeadTo next place items to

-- no end was reported yet, or it was, and nothing is left but that end
abbrev pub AgreesWithEnd : {A : Type 0} → Option End → List A → End → Type 0
AgreesWithEnd None items end = Unit {0}
AgreesWithEnd (Some final_end) items end = (items ≡ []) × (end ≡ final_end)

-- what is left where so many items were returned, and this end was reported, if one was
pub record IsLeftOf {A : Type 0} (tail : List A → End
    → Type 0) (yielded : ℕ) (final_end : Option End)
    (items : List A) (end : End) : Type 0 where
  pub all : List A
  pub is : tail all end
  pub within : yielded ≤ length all
  pub rest : items ≡ drop yielded all
  pub is_told : AgreesWithEnd final_end items end
