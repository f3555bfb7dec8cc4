-- Bytes with gaps of zeros between those that are held.
use Rattle.std.specs.Prelude.{◌≡◌, ℕ, ◌+◌, ◌^◌, ◌<◌, ◌≤◌, List, [], ◌∷◌, ◌++◌, length, take, drop}
use Rattle.std.specs.Prelude.{replicate}
use Rattle.fax_walk.specs.declared.parts.ZeroRun.{ZeroRun}

-- all bytes: the held ones, with the zeros of each gap after those that stand before it
abbrev pub spread : List ZeroRun → List ℕ → List ℕ
spread [] held = held
spread (gap ∷ gaps) held =
    take gap.held held ++ (replicate gap.zeros 0 ++ spread gaps (drop gap.held held))

-- the gaps stand in these held bytes, each after some of them, and so many before the last gap
abbrev pub AreGaps : List ZeroRun → List ℕ → ℕ → Type 0
AreGaps [] held placed = placed ≡ 0
AreGaps (gap ∷ gaps) held placed =
    (1 ≤ gap.held) × (gap.held ≤ length held)
    × ((after : ℕ) × (placed ≡ gap.held + after) × AreGaps gaps (drop gap.held held) after)

-- how many zeros gaps have
abbrev pub zeros_of : List ZeroRun → ℕ
zeros_of [] = 0
zeros_of (gap ∷ gaps) = gap.zeros + zeros_of gaps

-- held bytes with gaps
pub record AreParts (held : List ℕ) (gaps : List ZeroRun) (placed zeros : ℕ) : Type 0 where
  pub gaps_are : AreGaps gaps held placed
  pub zeros_are : zeros ≡ zeros_of gaps
  pub fits : length held + zeros < 2 ^ 64

-- what is left of them
abbrev pub AreLeft : List ℕ → List ZeroRun → Type 0
AreLeft held gaps = (placed : ℕ) × AreGaps gaps held placed
