-- Vertical modes one after another, as they are read.
use Rattle.std.specs.Prelude.{◌≡◌, ℕ, ◌<◌, ◌≤◌, ℤ, pos, ◌-ℤ◌, Bool, List, All, length, map, take}
use Rattle.fax_bits.specs.declared.mode_codes.ModeCode.{ModeCode}
use Rattle.fax_bits.specs.declared.mode_codes.ModeCode.TheVariants.{Vertical}
use Rattle.fax_bits.specs.declared.verticals.Verticals.{Verticals}
use Rattle.fax_bits.specs.Codes.{DecodesAll}
use Rattle.fax_bits.specs.Tables.{modes}

-- how far right of b1 a1 is, which is so far right of the pel three left of b1
-- (T.4, section 4.2.1.3.2)
abbrev pub shift : ℕ → ℤ
shift raised = pos raised -ℤ pos 3

abbrev pub vertical : ℕ → ModeCode
vertical raised = Vertical (shift raised)

-- the modes that are looked up
abbrev pub biased_offsets_of : Verticals → List ℕ
biased_offsets_of found = take found.count found.biased_offsets

-- one to four vertical modes of table 4
pub record AreFew (found : Verticals) : Type 0 where
  pub some : 0 < found.count
  pub few : found.count ≤ 4
  pub lanes : length found.biased_offsets ≡ 4
  pub near : All (λ raised. raised < 7) found.biased_offsets

-- the bits begin with the codes of these modes, and the rest follows them (T.4, table 4)
pub record AreVerticalsRead (b : List Bool) (found : Verticals) (rest : List Bool) : Type 0 where
  pub few : AreFew found
  pub spelled : DecodesAll modes b (map vertical (biased_offsets_of found)) rest
