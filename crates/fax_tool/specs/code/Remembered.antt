-- Texts of numbers that are remembered.
use Rattle.std.specs.Prelude.{◌≡◌, ℕ, ◌+◌, ◌*◌, ◌<◌, ◌≤◌, List, ◌++◌, length, take, Some}
use Rattle.std.specs.Prelude.{slice_get, slice_index}
use Rattle.fax_tool.specs.Text.{and_number}
use Rattle.fax_tool.specs.declared.text.number_cache.CachedText.{CachedText}

-- a text is this one
pub record IsText (text : List ℕ) (kept : CachedText) : Type 0 where
  pub eight : length kept.bytes ≡ 8
  pub few : kept.len ≤ 8
  pub is : take kept.len kept.bytes ≡ text
  pub len_is : kept.len ≡ length text

-- this text is made, and stands at an index
abbrev pub IsMadeAt : List CachedText → ℕ → CachedText → Type 0
IsMadeAt texts index kept = (slice_get texts index ≡ Some kept) × (0 < kept.len)

-- the texts that are made are those of their indexes' numbers
abbrev pub AreNumbers : List CachedText → Type 0
AreNumbers texts = (number : ℕ) (kept : CachedText) → IsMadeAt texts number kept
    → IsText (and_number number) kept

-- eight numbers are below a limit
abbrev pub AreBelow : ℕ → List ℕ → Type 0
AreBelow limit numbers = (i : ℕ) → i < 8 → slice_index numbers i < limit

-- the text of two numbers below 64 stands at this index
abbrev pub IsIndexOf : ℕ → ℕ → ℕ → Type 0
IsIndexOf first second index = (first < 64) × (second < 64) × (index ≡ 64 * first + second)

-- the texts of eight numbers, two by two, stand at these indexes
abbrev pub AreIndexesOf : List ℕ → List ℕ → Type 0
AreIndexesOf numbers indexes = (i : ℕ) → i < 4
    → IsIndexOf (slice_index numbers (2 * i)) (slice_index numbers (2 * i + 1))
    (slice_index indexes i)

-- the texts that are made are those of two numbers, at 64 times the first and the second
abbrev pub ArePairs : List CachedText → Type 0
ArePairs texts = (first second : ℕ) (kept : CachedText) → second < 64
    → IsMadeAt texts (64 * first + second) kept → IsText (and_number first ++ and_number second)
    kept
