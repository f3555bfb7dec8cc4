-- How the contracts of tables and of modes see codes.
-- A definition without a citation is this project's profile.
use Rattle.std.specs.Prelude.{◌≡◌, ℕ, pos, negsuc, ◌≤ℤ◌, ◌^◌, ◌<◌, ◌≤◌, Bool, List, ◌++◌, Contains}
use Rattle.std.specs.Prelude.{Some, slice_get}
use Rattle.fax_bits.specs.declared.FillOrder.{FillOrder}
use Rattle.fax_bits.specs.declared.FillOrder.TheVariants.{MsbFirst, LsbFirst}
use Rattle.fax_bits.specs.declared.codes.CodeEntry.{CodeEntry}
use Rattle.fax_bits.specs.declared.codes.TheConstants.{LONGEST_CODE}
use Rattle.fax_bits.specs.declared.mode_codes.ModeCode.{ModeCode}
use Rattle.fax_bits.specs.declared.mode_codes.ModeCode.TheVariants.{Vertical, Extension}
use Rattle.fax_bits.specs.Bits.{StartsWith}
use Rattle.fax_bits.specs.Codes.{bits_of}

-- each code has 1 to 13 bits, and its number no more than these (T.4, tables 2, 3a, 3b and 4)
abbrev pub HasShortCodes : {M : Type 0} → List (CodeEntry M) → Type 0
HasShortCodes {M} table =
    (entry : CodeEntry M) → Contains table entry → (0 < entry.len) × (entry.len ≤ LONGEST_CODE)
    × (entry.code < 2 ^ entry.len)

-- no entry's code begins the code at another place of the table, where the same entry may stand too
-- (T.4, tables 2, 3a, 3b and 4)
abbrev pub IsPrefixFree : {M : Type 0} → List (CodeEntry M) → Type 0
IsPrefixFree {M} table =
    (i j : ℕ) (entry other : CodeEntry M) (more : List Bool)
    → slice_get table i ≡ Some entry → slice_get table j ≡ Some other
    → bits_of other ≡ bits_of entry ++ more → i ≡ j

-- the code of some entry, which has this length and this meaning, begins the bits
-- (T.4, section 4.1.1)
pub record HasCodeAhead {M : Type 0} (table : List (CodeEntry M)) (b : List Bool) (len : ℕ)
    (meaning : M) : Type 0 where
  pub entry : CodeEntry M
  pub listed : Contains table entry
  pub length : entry.len ≡ len
  pub means : entry.meaning ≡ meaning
  pub ahead : StartsWith b (bits_of entry)

-- a mode that is written: no extension, and a1 at most 3 pels from b1
-- (T.4, section 4.2.1.3.2 and table 4)
abbrev pub IsWritten : ModeCode → Type 0
IsWritten (Vertical d) = (negsuc 2 ≤ℤ d) × (d ≤ℤ pos 3)
IsWritten Extension = ⊥
IsWritten _ = Unit {0}

-- the other order of the bits of a byte (TIFF 6.0, FillOrder)
abbrev pub other_order : FillOrder → FillOrder
other_order MsbFirst = LsbFirst
other_order LsbFirst = MsbFirst
