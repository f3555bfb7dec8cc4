-- The next 1 of bits, after zeros.
use Rattle.fax_page.specs.code.Starts.{BeginsBelowEleven, IsEndOfLine}
use Rattle.std.proofs.Common.{arith, ◌≡◌, ℕ, zero, suc, ◌+◌, ◌<◌, ◌≤◌}
use Rattle.std.proofs.Common.{List, [], ◌∷◌, ◌++◌, replicate, Bool, true, false}
use Rattle.std.proofs.Common.{refl, ap, ◌∙◌, subst}
use Rattle.std.specs.Prelude.{nat_le, if◌then◌else◌}
use Rattle.std.proofs.lemmas.Bool.Decides.{nat_tests}
use Rattle.fax_bits.specs.Bits.{IsAllZeros}
use Rattle.fax_bits.specs.Reading.{Read}
use Rattle.fax_page.specs.Lines.{NextOne, ends_line}
use Rattle.fax_page.specs.Lines.{in_code, next_one, not_there, read_start}
use Rattle.fax_page.specs.Lines.{Coding, Dimension, StripFault}

-- what stands before the codes of row i
abbrev pub IsStart : Coding → ℕ → List Bool → Read Dimension StripFault → Type 0
IsStart coding i b start = read_start coding i b ≡ start

-- zeros and a 1, or zeros alone
pub at_one : (n zeros : ℕ) (b : List Bool) → next_one n (replicate zeros false ++ true ∷ b)
    ≡ (if nat_le 11 (n + zeros) then (ends_line b) else in_code)
at_one n zero b = grind arith
at_one n (suc zeros) b = grind (arith, at_one (suc n) zeros b)

pub at_zeros : (n zeros : ℕ) → next_one n (replicate zeros false) ≡ not_there
at_zeros n zero = refl
at_zeros n (suc zeros) = at_zeros (suc n) zeros

pub eol_at : (b rest : List Bool) (zeros : ℕ) → 11 ≤ zeros → b ≡ replicate zeros false ++ true ∷ rest
    → IsEndOfLine b rest
eol_at b rest zeros many is = ap (next_one 0) is ∙ at_one 0 zeros rest ∙ (grind (arith, nat_tests, many))

pub code_at : (b after : List Bool) (zeros : ℕ) → zeros < 11 → b ≡ replicate zeros false ++ true ∷ after
    → BeginsBelowEleven b
code_at b after zeros few is = ap (next_one 0) is ∙ at_one 0 zeros after ∙ (grind (arith, nat_tests, few))

pub none_at : (b : List Bool) → IsAllZeros b → next_one 0 b ≡ not_there
none_at b all = ap (next_one 0) all.1 ∙ at_zeros 0 all.0

-- and what the bits are by it
abbrev pub IsNext : ℕ → List Bool → NextOne → Type 0
IsNext n b (ends_line rest) = (zeros : ℕ) × (11 ≤ n + zeros) × (b ≡ replicate zeros false ++ true ∷ rest)
IsNext n b in_code =
    (zeros : ℕ) × (n + zeros < 11) × ((after : List Bool) × (b ≡ replicate zeros false ++ true ∷ after))
IsNext n b not_there = IsAllZeros b

zero_before : (n : ℕ) (b : List Bool) (one : NextOne) → IsNext (suc n) b one → IsNext n (false ∷ b) one
zero_before n b (ends_line rest) (zeros, many, is) = (suc zeros, omega (arith, many), ap (λ c. false ∷ c) is)
zero_before n b in_code (zeros, few, (after, is)) =
    (suc zeros, omega (arith, few), (after, ap (λ c. false ∷ c) is))
zero_before n b not_there (zeros, is) = (suc zeros, ap (λ c. false ∷ c) is)

next_is : (n : ℕ) (b : List Bool) → IsNext n b (next_one n b)
next_is n [] = (0, refl)
next_is n (false ∷ b) = zero_before n b (next_one (suc n) b) (next_is (suc n) b)
next_is n (true ∷ b) = at_test (nat_le 11 n) refl
  where
    at_test : (many : Bool) → nat_le 11 n ≡ many → IsNext n (true ∷ b) (if many then (ends_line b) else in_code)
    at_test true is = (0, grind (arith, nat_tests, is), refl)
    at_test false is = (0, grind (arith, nat_tests, is), (b, refl))

pub by_next : (b : List Bool) (one : NextOne) → next_one 0 b ≡ one → IsNext 0 b one
by_next b one is = subst (IsNext 0 b) is (next_is 0 b)

pub eol_is : (b rest : List Bool) → IsEndOfLine b rest
    → (zeros : ℕ) × (11 ≤ zeros) × (b ≡ replicate zeros false ++ true ∷ rest)
eol_is b rest eol = let is = by_next b (ends_line rest) eol in (is.0, omega (arith, is.1), is.2)

-- a 1 is not in zeros alone
pub no_one : (n m : ℕ) (b : List Bool) → replicate n false ++ true ∷ b ≡ replicate m false → ⊥
no_one zero zero b h = cc
no_one zero (suc m) b h = cc
no_one (suc n) zero b h = cc
no_one (suc n) (suc m) b h = no_one n m b cc

pub eol_is_not_zeros : (b rest : List Bool) → IsEndOfLine b rest → IsAllZeros b → ⊥
eol_is_not_zeros b rest eol all = let none = none_at b all in absurd (cc (eol, none))

pub eol_is_not_below : (b rest : List Bool) → IsEndOfLine b rest → BeginsBelowEleven b → ⊥
eol_is_not_below b rest eol below = absurd (cc (eol, below))

pub below_is_not_zeros : (b : List Bool) → BeginsBelowEleven b → IsAllZeros b → ⊥
below_is_not_zeros b below all = let none = none_at b all in absurd (cc (below, none))

pub same_eol : (b rest remaining : List Bool) → IsEndOfLine b rest → IsEndOfLine b remaining → rest ≡ remaining
same_eol b rest remaining first second = cc (first, second)
