-- Bits that are read from a place on.
use Rattle.std.specs.Prelude.{◌≡◌, ℕ, ◌+◌, ◌*◌, ◌<◌, ◌≤◌, Bool, false, List, length}
use Rattle.std.specs.Prelude.{slice_index_or}
use Rattle.std.specs.Int.{bit_at}

-- eight zeros stand at this place of the bits
pub record IsZeroByteAt (b : List Bool) (place : ℕ) : Type 0 where
  pub within : place + 8 ≤ length b
  pub zeros : (k : ℕ) → k < 8 → slice_index_or b (place + k) false ≡ false

-- eleven bits of a word from this one up are 0
abbrev pub HasElevenZeroBits : ℕ → ℕ → Type 0
HasElevenZeroBits word i = (k : ℕ) → k < 11 → bit_at word (i + k) ≡ 0

-- the place lies in the bytes, and their bits can be counted
pub record IsPlaced (bytes : List ℕ) (place : ℕ) : Type 0 where
  pub within : place ≤ 8 * length bytes
  pub counted : length bytes ≤ 4294967295
