-- The codes of modes by their indexes in the mode table.
use Rattle.std.proofs.Common.{◌≡◌, List, ◌++◌, Bool, ℕ, zero, suc, ◌-◌, ◌/◌, ◌^◌, ◌<◌, ◌≤◌, ℤ, pos, negsuc}
use Rattle.std.proofs.Common.{unsigned_abs, get_or}
use Rattle.std.proofs.lemmas.Grind.{common_steps}
use Rattle.std.proofs.Common.{map, to_z, of_z, w8, w32, refl, ap, sym, ◌∙◌, arith}
use Rattle.std.specs.Prelude.{Option, None, Some, slice_get, nat_abs, ◌+ℤ◌, ◌<ℤ◌, ◌⊎◌}
use Rattle.fax_bits.specs.declared.indexes.TheConstants.{MODE_INDEXES, VERTICAL_MODES}
use Rattle.fax_bits.specs.declared.put.TheConstants.{VERTICAL_CODES}
use Rattle.std.proofs.lemmas.List.{get_or-map}
use Rattle.fax_bits.specs.declared.codes.CodeEntry.{CodeEntry}
use Rattle.fax_bits.specs.declared.mode_codes.ModeCode.{ModeCode}
use Rattle.fax_bits.specs.declared.mode_codes.ModeCode.TheVariants.{Pass, Horizontal, Vertical}
use Rattle.fax_bits.specs.declared.mode_codes.ModeCode.TheVariants.{Extension as ModeExtension}
use Rattle.fax_bits.specs.Bits.{code_bits}
use Rattle.fax_bits.specs.views.Codes.{HasCodeAhead, IsWritten}
use Rattle.fax_bits.specs.code.CodeIndexes.{index_of}
use Rattle.fax_bits.specs.Codes.{Decodes, bits_of}
use Rattle.fax_bits.specs.Written.{mode_bits}
use Rattle.fax_bits.specs.laws.Codes.{ModeBitsAreRead}
use Rattle.fax_bits.specs.Tables.{modes}
use Rattle.fax_bits.proofs.FindLemmas.{code_ahead}
use Rattle.fax_bits.proofs.IndexLemmas.{mode_index}
use Rattle.fax_bits.proofs.TableIndexLemmas.{found_at_index}
use Rattle.fax_bits.proofs.TableLemmas.{listed}

-- a mode that is written has a distance of at most 3
few : (d : ℤ) → IsWritten (Vertical d) → unsigned_abs d < 4
few d written = grind arith

-- where the code of a distance stands, as the program finds it
abbrev index_of_distance : ℤ → ℕ
index_of_distance d = nat_abs (to_z w32 (of_z w32 (to_z w32 (of_z w32 (to_z w8 (of_z w8 d))) +ℤ pos 3)))

-- a distance that is written is itself as a number of eight bits, and its code stands at its index
pub record HasCode (d : ℤ) : Type 0 where
  pub distance_is : to_z w8 (of_z w8 d) ≡ d
  pub short : get_or VERTICAL_CODES.lens (index_of_distance d) 0 < 8
  pub fits : get_or VERTICAL_CODES.codes (index_of_distance d) 0 < 2 ^ get_or VERTICAL_CODES.lens (index_of_distance d)
      0
  pub bits : code_bits (get_or VERTICAL_CODES.lens (index_of_distance d) 0)
      (get_or VERTICAL_CODES.codes (index_of_distance d) 0)
      ≡ mode_bits (Vertical d)

pub has_code : (d : ℤ) → IsWritten (Vertical d) → HasCode d
unfolding modes mode_bits code_bits
has_code d written = grind (arith, common_steps)

-- a mode that is written is read again
takes_mode : (index : ℕ) (entry : CodeEntry ModeCode) (more : List Bool) → slice_get modes index ≡ Some entry
    → bits_of entry ≡ mode_bits entry.meaning → Decodes modes (mode_bits entry.meaning ++ more) entry.meaning more
takes_mode index entry more found same = grind (arith, listed)

pub mode_bits_are_read : ModeBitsAreRead
unfolding modes mode_bits code_bits
mode_bits_are_read Pass more written = takes_mode 0 _ more refl refl
mode_bits_are_read Horizontal more written = takes_mode 1 _ more refl refl
mode_bits_are_read (Vertical (pos zero)) more written = takes_mode 2 _ more refl refl
mode_bits_are_read (Vertical (pos (suc zero))) more written = takes_mode 3 _ more refl refl
mode_bits_are_read (Vertical (pos (suc (suc zero)))) more written = takes_mode 4 _ more refl refl
mode_bits_are_read (Vertical (pos (suc (suc (suc zero))))) more written = takes_mode 5 _ more refl refl
mode_bits_are_read (Vertical (pos (suc (suc (suc (suc n)))))) more written = grind arith
mode_bits_are_read (Vertical (negsuc zero)) more written = takes_mode 6 _ more refl refl
mode_bits_are_read (Vertical (negsuc (suc zero))) more written = takes_mode 7 _ more refl refl
mode_bits_are_read (Vertical (negsuc (suc (suc zero)))) more written = takes_mode 8 _ more refl refl
mode_bits_are_read (Vertical (negsuc (suc (suc (suc n))))) more written =
    absurd (omega (arith, few (negsuc (suc (suc (suc n)))) written))
mode_bits_are_read ModeExtension more written = absurd written

-- a code of the table that is the first of thirteen bits
pub mode_begins : (number index : ℕ) (entry : CodeEntry ModeCode) → slice_get modes index ≡ Some entry → entry.len ≤ 13
    → number / 2 ^ (13 - entry.len) ≡ entry.code → HasCodeAhead modes (code_bits 13 number) entry.len entry.meaning
mode_begins number index entry found short is = grind (arith, common_steps, listed, code_ahead)

-- the length of a vertical mode's code, and how far right of b1 a1 is
abbrev vertical_len : ModeCode → ℕ → ℕ
vertical_len (Vertical d) len = len
vertical_len _ len = 0

abbrev vertical_shift : ModeCode → ℤ
vertical_shift (Vertical d) = d
vertical_shift _ = pos 0

-- of the entry at an index, if it is one of a vertical mode
abbrev len_at : Option (CodeEntry ModeCode) → ℕ
len_at None = 0
len_at (Some entry) = vertical_len entry.meaning entry.len

abbrev shift_at : Option (CodeEntry ModeCode) → ℤ
shift_at None = pos 0
shift_at (Some entry) = vertical_shift entry.meaning

-- as the program reads an `i8`
abbrev read_shift : ℤ → ℤ
read_shift d = to_z w8 (of_z w8 d)

lens_are : VERTICAL_MODES.lens ≡ map (λ index. len_at (slice_get modes index)) MODE_INDEXES
unfolding modes
lens_are = refl

shifts_are : map read_shift VERTICAL_MODES.shifts ≡ map (λ index. shift_at (slice_get modes index)) MODE_INDEXES
unfolding modes
shifts_are = refl

-- the code at an index begins thirteen bits, if it is one of a vertical mode
vertical_begins : (number index : ℕ) (found : Option (CodeEntry ModeCode)) → index ≡ index_of modes 13 number
    → slice_get modes index ≡ found → (0 < len_at found) ⊎ (shift_at found <ℤ pos 0)
    → HasCodeAhead modes (code_bits 13 number) (len_at found) (Vertical (shift_at found))
vertical_begins number index found index_is is some = grind (arith, found_at_index)

-- a vertical mode that the arrays have begins thirteen bits
pub vertical_is_ahead : (number : ℕ) → number < 2 ^ 13
    → (0 < get_or VERTICAL_MODES.lens (number / 2 ^ 6) 0)
    ⊎ (read_shift (get_or VERTICAL_MODES.shifts (number / 2 ^ 6) (pos 0)) <ℤ pos 0)
    → HasCodeAhead modes (code_bits 13 number) (get_or VERTICAL_MODES.lens (number / 2 ^ 6) 0)
    (Vertical (read_shift (get_or VERTICAL_MODES.shifts (number / 2 ^ 6) (pos 0))))
vertical_is_ahead number within some =
    let at = number / 2 ^ 6 in
    let short : at < 128 = omega arith in
    let len : get_or VERTICAL_MODES.lens at 0 ≡ len_at (slice_get modes (get_or MODE_INDEXES at 0)) =
    ap (λ xs. get_or xs at 0) lens_are ∙ get_or-map (λ index. len_at (slice_get modes index)) MODE_INDEXES at 0 0 short
    in
    let shift : read_shift (get_or VERTICAL_MODES.shifts at (pos 0))
    ≡ shift_at (slice_get modes (get_or MODE_INDEXES at 0)) =
    sym (get_or-map read_shift VERTICAL_MODES.shifts at (pos 0) (pos 0) short)
    ∙ ap (λ xs. get_or xs at (pos 0)) shifts_are
    ∙ get_or-map (λ index. shift_at (slice_get modes index)) MODE_INDEXES at 0 (pos 0) short in
    rw (len, shift)
    (vertical_begins number (get_or MODE_INDEXES at 0) _ (mode_index number within) refl
    (rw (len, shift) at some))
