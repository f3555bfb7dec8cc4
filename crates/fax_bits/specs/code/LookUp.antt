-- What one look-up finds of the next bits.
use Rattle.std.specs.Prelude.{◌≡◌, ℕ, ◌<◌, ◌^◌, Bool, List, ◌++◌, length, flat_map, Contains}
use Rattle.fax_bits.specs.declared.codes.CodeEntry.{CodeEntry}
use Rattle.fax_bits.specs.declared.mode_codes.ModeCode.TheVariants.{Horizontal}
use Rattle.fax_bits.specs.declared.pairs.RunPair.{RunPair}
use Rattle.fax_bits.specs.Bits.{Colour, White, Black, StartsWith}
use Rattle.fax_bits.specs.Codes.{bits_of}
use Rattle.fax_bits.specs.Written.{run_bits, mode_bits}
use Rattle.fax_bits.specs.views.Source.{Source, KeepsEnd}
use Rattle.fax_bits.specs.declared.verticals.Verticals.{Verticals}
use Rattle.fax_bits.specs.views.Verticals.{AreFew, biased_offsets_of, vertical}

-- the first of the bits, `len` of them and at least one, mean what is found
pub record IsBegun {F : Type 0} (means : List Bool → F → Type 0) (b : List Bool) (len : ℕ)
    (found : F) : Type 0 where
  pub front : List Bool
  pub ahead : StartsWith b front
  pub long : length front ≡ len
  pub some : 0 < len
  pub meaning : means front found

-- the source went past bits that mean what is found
pub record IsLookedUp {F : Type 0} (means : List Bool → F → Type 0) (old : Source) (found : F)
    (new : Source) : Type 0 where
  pub front : List Bool
  pub meaning : means front found
  pub taken : old.remaining ≡ front ++ new.remaining
  pub same_end : KeepsEnd old new
  pub shorter : length new.remaining < length old.remaining

-- the bits are the code of some entry that has this meaning (T.4, section 4.1.1)
pub record IsCode {M : Type 0} (table : List (CodeEntry M)) (b : List Bool)
    (meaning : M) : Type 0 where
  pub entry : CodeEntry M
  pub listed : Contains table entry
  pub means : entry.meaning ≡ meaning
  pub spelled : b ≡ bits_of entry

-- the bits are those of a run of the colour (T.4, section 4.1.1)
pub record IsOneRun (colour : Colour) (b : List Bool) (pels : ℕ) : Type 0 where
  pub spelled : b ≡ run_bits colour pels
  pub short : pels < 2 ^ 16

-- the bits are those of a white run and of the black one after it; each has pels, and is one
-- terminating code (T.4, section 4.1.1)
pub record AreTwoRuns (b : List Bool) (pair : RunPair) : Type 0 where
  pub white : 0 < pair.white
  pub black : 0 < pair.black
  pub short_white : pair.white < 64
  pub short_black : pair.black < 64
  pub spelled : b ≡ run_bits White pair.white ++ run_bits Black pair.black

-- the bits are the code of horizontal mode and those of such a pair (T.4, section 4.2.1.3.2)
pub record IsHorizontalPair (b : List Bool) (pair : RunPair) : Type 0 where
  pub runs : List Bool
  pub are : AreTwoRuns runs pair
  pub spelled : b ≡ mode_bits Horizontal ++ runs

-- the bits are the codes of these vertical modes, one after another (T.4, table 4)
pub record AreVerticals (b : List Bool) (found : Verticals) : Type 0 where
  pub few : AreFew found
  pub spelled : b ≡ flat_map (λ raised. mode_bits (vertical raised)) (biased_offsets_of found)
