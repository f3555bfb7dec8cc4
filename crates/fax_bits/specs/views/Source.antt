-- Bits that are read from a place on.
use Rattle.std.specs.Prelude.{◌≡◌, ℕ, ◌+◌, ◌<◌, ◌≤◌, Bool, true, false, List, ◌++◌, length}
use Rattle.std.specs.Prelude.{◌∷◌, drop, replicate}
use Rattle.fax_bits.specs.declared.FillOrder.{FillOrder}
use Rattle.fax_bits.specs.Bits.{StartsWith, bits}

-- the remaining bits, and how many bits stand before them
pub record Source : Type 0 where
  pub remaining : List Bool
  pub place : ℕ

-- the bits of the bytes, from this place on (TIFF 6.0, FillOrder)
abbrev pub source_of : FillOrder → List ℕ → ℕ → Source
source_of order bytes place = record { remaining = drop place (bits order bytes); place = place }

-- whether the bits begin with these, which are taken then
abbrev pub IsTaken : List Bool → List Bool → Bool → List Bool → Type 0
IsTaken front b true rest = b ≡ front ++ rest
IsTaken front b false rest = (rest ≡ b) × (StartsWith b front → ⊥)

-- the source continues in the same bits: they end at the same place
abbrev pub KeepsEnd : Source → Source → Type 0
KeepsEnd old new = new.place + length new.remaining ≡ old.place + length old.remaining

-- the bits begin with eleven zeros, as an EOL does (T.4, section 4.1.2)
abbrev pub HasElevenZeros : List Bool → Type 0
HasElevenZeros b = StartsWith b (replicate 11 false)

-- some bits are skipped, at none of which eleven zeros begin
pub record SkipsShortZeros (old new : Source) : Type 0 where
  pub count : ℕ
  pub within : count ≤ length old.remaining
  pub new_is : new ≡ record { remaining = drop count old.remaining; place = old.place + count }
  pub none : (i : ℕ) → i < count → HasElevenZeros (drop i old.remaining) → ⊥

-- the bits begin with this many zeros and a 1 (T.4, section 4.1.3)
abbrev pub HasLeadingZeros : List Bool → ℕ → Type 0
HasLeadingZeros b zeros = (after : List Bool) × (b ≡ replicate zeros false ++ true ∷ after)
