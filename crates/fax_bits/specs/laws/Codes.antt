-- Laws of bits and of code tables, which the functions of the module `laws` prove.
-- A definition without a citation is this project's profile.
use Rattle.std.specs.Prelude.{◌≡◌, ℕ, ◌-◌, ◌*◌, Bool, false}
use Rattle.std.specs.Prelude.{List, ◌++◌, replicate, ◌==◌}
use Rattle.std.specs.Int.{bit_at}
use Rattle.fax_bits.specs.declared.FillOrder.{FillOrder}
use Rattle.fax_bits.specs.declared.FillOrder.TheVariants.{MsbFirst, LsbFirst}
use Rattle.std.specs.Prelude.{◌≡◌, ℕ, ◌+◌, ◌*◌, ◌/◌, ◌%◌, ◌^◌, ◌<◌, ◌==◌, Bool, false, List, ◌++◌}
use Rattle.std.specs.Prelude.{length, replicate, slice_index_or, All, ◌⊎◌}
use Rattle.fax_bits.specs.declared.codes.CodeEntry.{CodeEntry}
use Rattle.fax_bits.specs.declared.Colour.{Colour}
use Rattle.fax_bits.specs.declared.FillOrder.TheVariants.{MsbFirst}
use Rattle.fax_bits.specs.declared.mode_codes.ModeCode.{ModeCode}
use Rattle.fax_bits.specs.declared.run_codes.RunCode.TheVariants.{Terminating, MakeUp}
use Rattle.fax_bits.specs.Bits.{byte_bits, bits}
use Rattle.fax_bits.specs.Written.{run_bits, mode_bits}
use Rattle.fax_bits.specs.Bits.{bits_number, packed}
use Rattle.fax_bits.specs.Codes.{Decodes, IsRun, read_code}
use Rattle.fax_bits.specs.Reading.{read}
use Rattle.std.specs.Prelude.{◌↔◌}
use Rattle.fax_bits.specs.views.Codes.{IsWritten}
use Rattle.fax_bits.specs.Tables.{run_table, modes}

-- which bit of a byte, 0 the lowest, is coded at this place of its eight bits (TIFF 6.0, FillOrder)
abbrev pub bit_in_byte : FillOrder → ℕ → ℕ
bit_in_byte MsbFirst place = 7 - place
bit_in_byte LsbFirst place = place

-- bytes have eight bits each, and each bit stands in its byte, at a place that the fill order says
-- (TIFF 6.0, FillOrder)
pub record AreBitsByIndex : Type 0 where
  pub count : (order : FillOrder) (bytes : List ℕ) → length (bits order bytes) ≡ 8 * length bytes
  pub of_byte : (order : FillOrder) (byte i : ℕ) → i < 8
      → slice_index_or (byte_bits order byte) i false ≡ (bit_at byte (bit_in_byte order i) == 1)
  pub of_bytes : (order : FillOrder) (bytes : List ℕ) (i : ℕ) → i < 8 * length bytes
      → slice_index_or (bits order bytes) i false
      ≡ (bit_at (slice_index_or bytes (i / 8) 0) (bit_in_byte order (i % 8)) == 1)

-- eight bits are those of one byte: the number that they spell, the highest first
-- (TIFF 6.0, FillOrder)
pub record AreBitsOfOneByte : Type 0 where
  pub fits : (b : List Bool) → length b ≡ 8 → bits_number b < 256
  pub spelled : (b : List Bool) → length b ≡ 8 → byte_bits MsbFirst (bits_number b) ≡ b
  pub again : (byte : ℕ) → byte < 256 → bits_number (byte_bits MsbFirst byte) ≡ byte

-- the bytes of bits hold these bits, and fewer than eight zeros up to a whole byte
-- (TIFF 6.0, FillOrder)
abbrev pub PackedBitsArePadded : Type 0
PackedBitsArePadded =
    (order : FillOrder) (b : List Bool)
    → (zeros : ℕ) × (zeros < 8) × (bits order (packed order b) ≡ b ++ replicate zeros false)

-- bytes that hold bits, and fewer than eight zeros after them, are the bytes of these bits
-- (TIFF 6.0, FillOrder)
abbrev pub PaddedBytesArePacked : Type 0
PaddedBytesArePacked =
    (order : FillOrder) (b : List Bool) (bytes : List ℕ) (zeros : ℕ) → zeros < 8
    → All (λ byte. byte < 256) bytes
    → bits order bytes ≡ b ++ replicate zeros false → bytes ≡ packed order b

-- bits are packed into bytes in one way (TIFF 6.0, FillOrder)
pub record PacksOneWay : Type 0 where
  pub padded : PackedBitsArePadded
  pub only : PaddedBytesArePacked

-- a list begins with at most one answer, and one rest follows it
abbrev pub HasOneAnswer : {B A : Type 0} → (List B → A → List B → Type 0) → Type 0
HasOneAnswer {B} {A} IsAnswer =
    (b : List B) (answer another : A) (rest remaining : List B)
    → IsAnswer b answer rest → IsAnswer b another remaining
    → (answer ≡ another) × (rest ≡ remaining)

-- a code that is taken has at least one bit (T.4, tables 2, 3a, 3b and 4)
abbrev pub TakesBits : {M : Type 0} → List (CodeEntry M) → Type 0
TakesBits {M} table =
    (b : List Bool) (meaning : M) (rest : List Bool) → Decodes table b meaning rest
    → length rest < length b

-- bits are read in one way: they begin with one answer, which one rest follows, or they have one
-- fault, never both
pub record IsReadInOneWay {A F : Type 0} (IsAnswer : List Bool → A → List Bool → Type 0)
    (IsFault : List Bool → F → Type 0) : Type 0 where
  pub one_answer : HasOneAnswer IsAnswer
  pub answer_or_fault : (b : List Bool)
      → ((answer : A) × (rest : List Bool) × IsAnswer b answer rest)
      ⊎ ((fault : F) × IsFault b fault)
  pub answer_has_no_fault : (b : List Bool) (answer : A) (rest : List Bool) (fault : F)
      → IsAnswer b answer rest → IsFault b fault → ⊥
  pub one_fault : (b : List Bool) (fault another : F)
      → IsFault b fault → IsFault b another → fault ≡ another

-- there is one list of which this holds, with one end
pub record IsOne {A E : Type 0} (holds : List A → E → Type 0) : Type 0 where
  pub items : List A
  pub end : E
  pub is : holds items end
  pub one : (others : List A) (other : E) → holds others other → (others ≡ items) × (other ≡ end)

-- the code of a table that is read is any that begins the bits, wherever it stands in the table,
-- and each code takes bits (T.4, tables 2, 3a, 3b and 4)
pub record ReadsOneWay {M : Type 0} (table : List (CodeEntry M)) : Type 0 where
  pub takes_bits : TakesBits table
  pub code : (b : List Bool) (meaning : M) (rest : List Bool)
      → Decodes table b meaning rest ↔ (read_code table b ≡ read meaning rest)

-- the codes of runs of a colour are read in one way, and bits begin with at most one run of it
-- (T.4, section 4.1.1, and tables 2, 3a and 3b)
pub record ReadsRunsOneWay (colour : Colour) : Type 0 where
  pub codes : ReadsOneWay (run_table colour)
  pub run : HasOneAnswer (IsRun colour)

-- a run that is written is read again, whatever follows it (T.4, section 4.1.1)
abbrev pub RunBitsAreRead : Type 0
RunBitsAreRead = (colour : Colour) (n : ℕ) (more : List Bool) → n < 2 ^ 16
    → IsRun colour (run_bits colour n ++ more) n more

-- a run that is written is read as nothing else (T.4, section 4.1.1)
abbrev pub RunBitsAreOneRun : Type 0
RunBitsAreOneRun =
    (colour : Colour) (n m : ℕ) (more rest : List Bool) → n < 2 ^ 16
    → IsRun colour (run_bits colour n ++ more) m rest → (n ≡ m) × (more ≡ rest)

-- bits begin with a run as it is written where they begin with a terminating code alone, with one
-- make-up code before it, or with a make-up code of 2560 pels before a run as it is written
-- (T.4, section 4.1.1)
pub record ChosenCodesAreWritten : Type 0 where
  pub short : (colour : Colour) (b : List Bool) (n : ℕ) (rest : List Bool)
      → Decodes (run_table colour) b (Terminating n) rest → b ≡ run_bits colour n ++ rest
  pub long : (colour : Colour) (b : List Bool) (m n : ℕ) (middle rest : List Bool)
      → Decodes (run_table colour) b (MakeUp m) middle
      → Decodes (run_table colour) middle (Terminating n) rest → b ≡ run_bits colour (m + n) ++ rest
  pub longest : (colour : Colour) (b : List Bool) (n : ℕ) (middle rest : List Bool)
      → Decodes (run_table colour) b (MakeUp 2560) middle
      → middle ≡ run_bits colour n ++ rest → b ≡ run_bits colour (2560 + n) ++ rest

-- a mode that is written is read again, whatever follows it (T.4, section 4.2.1.3.2 and table 4)
abbrev pub ModeBitsAreRead : Type 0
ModeBitsAreRead = (mode : ModeCode) (more : List Bool) → IsWritten mode
    → Decodes modes (mode_bits mode ++ more) mode more
