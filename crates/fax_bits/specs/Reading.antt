-- Reading from the front of some bits: what is read, with the bits that remain after it, or the
-- fault that is in the way.
use Rattle.std.specs.Prelude.{ℕ, zero, suc, Bool, List, length, Result, Ok, Err}

-- what is read of the bits, and those that remain, or the fault
pub data Read (A F : Type 0) : Type 0 where
  read : A → List Bool → Read A F
  failed : F → Read A F

-- what a function returns, as contracts see it, and the bits that remain
abbrev pub answered : {A B F : Type 0} → (A → B) → Result A F → List Bool → Read B F
answered view (Ok x) rest = read (view x) rest
answered view (Err fault) rest = failed fault

-- continue with what is read, or end with its fault
infixl 10 ◌>>=◌
abbrev pub ◌>>=◌ : {A B F : Type 0} → Read A F → (A → List Bool → Read B F) → Read B F
(read x rest) >>= next = next x rest
(failed fault) >>= next = failed fault

-- the same, with another name for the fault
abbrev pub map_fault : {A F G : Type 0} → (F → G) → Read A F → Read A G
map_fault name (read x rest) = read x rest
map_fault name (failed fault) = failed (name fault)

-- a step of what is read step by step: it continues from a state, or is the last one, or a fault is
-- in its way
pub data Step (S A F : Type 0) : Type 0 where
  onward : S → List Bool → Step S A F
  done : A → List Bool → Step S A F
  stopped : F → Step S A F

-- a step that begins with something that is read
abbrev pub step_by : {S A B F : Type 0} → (A → List Bool → Step S B F) → Read A F → Step S B F
step_by next (read x rest) = next x rest
step_by next (failed fault) = stopped fault

-- what is read by a step, and by the steps after it
abbrev pub and_more : {S A F : Type 0} → (S → List Bool → Read A F) → Step S A F → Read A F
and_more more (onward at rest) = more at rest
and_more more (done answer rest) = read answer rest
and_more more (stopped fault) = failed fault

-- what is read by so many steps at most; `fault` where they do not suffice
abbrev pub steps_within : {S A F : Type 0} → F → (S → List Bool → Step S A F) → ℕ → S → List Bool
    → Read A F
steps_within fault step zero at b = failed fault
steps_within fault step (suc limit) at b =
    and_more (λ next rest. steps_within fault step limit next rest) (step at b)

-- what is read step by step from a state on, where a step that continues takes one bit at least
unfoldable pub steps : {S A F : Type 0} → F → (S → List Bool → Step S A F) → S → List Bool
    → Read A F
steps fault step at b = steps_within fault step (suc (length b)) at b
