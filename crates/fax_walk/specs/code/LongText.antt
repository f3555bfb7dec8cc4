-- A long cursor's text that is cut into its numbers.
use Rattle.std.specs.Prelude.{◌≡◌, ◌≢◌, ℕ, ◌^◌, ◌<◌, List, ◌++◌, codes, decimal, MatchOption}
use Rattle.std.specs.Prelude.{Option}
use Rattle.std.specs.Borrow.{Bor}

-- a run after a comma
abbrev pub and_run : ℕ → List ℕ
and_run run = codes "," ++ decimal run

-- a text that begins with a number and a colon
abbrev pub number_and : ℕ → List ℕ → List ℕ
number_and number rest = decimal number ++ (codes ":" ++ rest)

-- the number before the first colon and what stands after it, if the text begins so, which are the
-- only ones
abbrev pub IsNumberCut : List ℕ → Option (ℕ × Bor (List ℕ)) → Type 0
IsNumberCut text cut =
    MatchOption cut ((number : ℕ) (rest : List ℕ) → number < 2 ^ 32 → text ≢ number_and number rest)
    (λ parts. (text ≡ number_and parts.0 parts.1.now)
    × ((number : ℕ) (rest : List ℕ) → number < 2 ^ 32 → text ≡ number_and number rest
    → (number ≡ parts.0) × (rest ≡ parts.1.now)))
