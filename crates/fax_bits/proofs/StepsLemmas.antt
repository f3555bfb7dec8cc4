-- What is read step by step: one law of its steps, and one rule for what holds of all that is read.
use Rattle.std.proofs.Common.{arith, ◌≡◌, ℕ, zero, suc, ◌<◌, List, length, Bool, refl, ap, ◌∙◌}
use Rattle.fax_bits.specs.Reading.{Read, read, failed, ◌>>=◌, map_fault}
use Rattle.fax_bits.specs.Reading.{Step, onward, done, stopped, step_by, and_more, steps_within, steps}

-- what is gone on with
pub bind_read : {A B F : Type 0} (r : Read A F) (next : A → List Bool → Read B F) (y : B) (rest : List Bool)
    → (r >>= next) ≡ read y rest
    → (x : A) × (remaining : List Bool) × (r ≡ read x remaining) × (next x remaining ≡ read y rest)
bind_read (read x remaining) next y rest is = (x, remaining, refl, is)
bind_read (failed fault) next y rest is = absurd cc

-- where it is known what is read
pub goes : {A B F : Type 0} {r : Read A F} {x : A} {remaining : List Bool} {y : Read B F} (next : A → List Bool
    → Read B F)
    → r ≡ read x remaining → next x remaining ≡ y
    → (r >>= next) ≡ y
goes next at is = ap (λ r. r >>= next) at ∙ is

pub fails : {A B F : Type 0} {r : Read A F} {fault : F} (next : A → List Bool → Read B F) → r ≡ failed fault
    → (r >>= next) ≡ failed fault
fails next at = ap (λ r. r >>= next) at

-- another name for a fault hides nothing of what is read
pub named_read : {A F G : Type 0} (name : F → G) (r : Read A F) (x : A) (rest : List Bool)
    → map_fault name r ≡ read x rest → r ≡ read x rest
named_read name (read y remaining) x rest is =
    let same : y ≡ x = cc (is) in
    let last : remaining ≡ rest = cc (is) in
    cc (same, last)
named_read name (failed fault) x rest is = absurd cc

-- an answer and the bits that remain are one
pub one_answer : {A F : Type 0} {x y : A} {b rest : List Bool} {r : Read A F} → r ≡ read x b → r ≡ read y rest
    → (x ≡ y) × (b ≡ rest)
one_answer first second = (cc (first, second), cc (first, second))

-- a step whose first part is known
pub step_on : {S A B F : Type 0} {r : Read A F} {x : A} {remaining : List Bool} {s : Step S B F}
    (next : A → List Bool → Step S B F)
    → r ≡ read x remaining → next x remaining ≡ s → step_by next r ≡ s
step_on next at is = ap (step_by next) at ∙ is

pub step_fails : {S A B F : Type 0} {r : Read A F} {fault : F} (next : A → List Bool → Step S B F)
    → r ≡ failed fault → step_by next r ≡ stopped fault
step_fails next at = ap (step_by next) at

-- and what its first part was, where it continues or ends
pub step_onward : {S A B F : Type 0} (r : Read A F) (next : A → List Bool → Step S B F) (at : S) (rest : List Bool)
    → step_by next r ≡ onward at rest
    → (x : A) × (remaining : List Bool) × (r ≡ read x remaining) × (next x remaining ≡ onward at rest)
step_onward (read x remaining) next at rest is = (x, remaining, refl, is)
step_onward (failed fault) next at rest is = absurd cc

pub step_done : {S A B F : Type 0} (r : Read A F) (next : A → List Bool → Step S B F) (answer : B) (rest : List Bool)
    → step_by next r ≡ done answer rest
    → (x : A) × (remaining : List Bool) × (r ≡ read x remaining) × (next x remaining ≡ done answer rest)
step_done (read x remaining) next answer rest is = (x, remaining, refl, is)
step_done (failed fault) next answer rest is = absurd cc

module _ {S A F : Type 0} (fault : F) (step : S → List Bool → Step S A F)
    (shortens : (at next : S) (b rest : List Bool) → step at b ≡ onward next rest → length rest < length b) where
  -- how many steps there may be is no matter, if they suffice
  same_within : (limit more : ℕ) (at : S) (b : List Bool) → length b < limit → length b < more
      → steps_within fault step limit at b ≡ steps_within fault step more at b
  same_within zero more at b few enough = absurd (omega (arith, few))
  same_within (suc limit) zero at b few enough = absurd (omega (arith, enough))
  same_within (suc limit) (suc more) at b few enough = by (step at b) refl (λ next rest shorter. same_within limit more
      next rest
      (omega (arith, few, shorter)) (omega (arith, enough, shorter)))
    where
      by : (s : Step S A F) → step at b ≡ s
          → ((next : S) (rest : List Bool) → length rest < length b
          → steps_within fault step limit next rest ≡ steps_within fault step more next rest)
          → and_more (λ next rest. steps_within fault step limit next rest) s
          ≡ and_more (λ next rest. steps_within fault step more next rest) s
      by (stopped why) is same = refl
      by (done answer rest) is same = refl
      by (onward next rest) is same = same next rest (shortens at next b rest is)

  -- a step, and then the others
  pub by_step : (at : S) (b : List Bool) (s : Step S A F) → step at b ≡ s
      → steps fault step at b ≡ and_more (steps fault step) s
  unfolding steps
  by_step at b s is = ap (and_more (λ next rest. steps_within fault step (length b) next rest)) is ∙ by s is
    where
      by : (s : Step S A F) → step at b ≡ s
          → and_more (λ next rest. steps_within fault step (length b) next rest) s ≡ and_more (steps fault step) s
      by (stopped why) is = refl
      by (done answer rest) is = refl
      by (onward next rest) is =
          let shorter = shortens at next b rest is in
          same_within (length b) (suc (length rest)) next rest shorter (omega arith)

  -- what holds where the last step is done, and before each step after which it holds, holds of all
  -- that is read
  module _ (R : S → List Bool → A → List Bool → Type 0)
      (last : (at : S) (b : List Bool) (answer : A) (rest : List Bool) → step at b ≡ done answer rest
      → R at b answer rest)
      (before : (at next : S) (b remaining : List Bool) (answer : A) (rest : List Bool) → step at b
      ≡ onward next remaining
      → R next remaining answer rest
      → R at b answer rest) where
    holds_within : (limit : ℕ) (at : S) (b : List Bool) (answer : A) (rest : List Bool)
        → steps_within fault step limit at b ≡ read answer rest → R at b answer rest
    holds_within zero at b answer rest is = absurd cc
    holds_within (suc limit) at b answer rest is =
        by (step at b) refl is (λ next remaining more. holds_within limit next remaining answer rest more)
      where
        by : (s : Step S A F) → step at b ≡ s
            → and_more (λ next remaining. steps_within fault step limit next remaining) s ≡ read answer rest
            → ((next : S) (remaining : List Bool) → steps_within fault step limit next remaining ≡ read answer rest
            → R next remaining answer rest)
            → R at b answer rest
        by (stopped why) this same more = absurd cc
        by (done found remaining) this same more = last at b answer rest cc
        by (onward next remaining) this same more = before at next b remaining answer rest this (more next remaining
            same)

    pub holds : (at : S) (b : List Bool) (answer : A) (rest : List Bool) → steps fault step at b ≡ read answer rest
        → R at b answer rest
    unfolding steps
    holds at b answer rest is = holds_within (suc (length b)) at b answer rest is
