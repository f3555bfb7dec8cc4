-- Rows as packed bytes, bit by bit.
use Rattle.std.proofs.lemmas.List.{get_or_default}
use Rattle.fax_bits.specs.laws.Codes.{PacksOneWay, AreBitsByIndex}
use Rattle.fax_rows.specs.code.PackedWord.{IsPackedByte}
use Rattle.std.proofs.lemmas.Grind.{common_steps}
use Rattle.std.proofs.Common.{◌≡◌, ℕ, zero, suc, ◌+◌, ◌-◌, ◌*◌, ◌/◌, ◌%◌, ◌<◌, ◌≤◌, List, [], ◌∷◌, ◌++◌, map, length}
use Rattle.std.proofs.Common.{take, replicate}
use Rattle.std.proofs.Common.{get_or, Bool, false, refl, ap, sym, ◌∙◌, arith}
use Rattle.std.proofs.lemmas.List.{length-append, length-replicate, length-map, get_or-map, get_or-take, ext_get_or}
use Rattle.std.proofs.lemmas.List.{length-take-le}
use Rattle.fax_bits.specs.declared.FillOrder.TheVariants.{MsbFirst}
use Rattle.fax_bits.specs.declared.Colour.{Colour}
use Rattle.fax_bits.specs.declared.Colour.TheVariants.{White}
use Rattle.fax_bits.specs.Bits.{bits}
use Rattle.fax_rows.specs.Rows.{other}
use Rattle.fax_rows.specs.code.ChangeLists.{IsToggledFrom}
use Rattle.fax_rows.specs.code.Unpacked.{IsUnpackedTo}
use Rattle.fax_rows.proofs.PlacedRowLemmas.{toggled-first}
use Rattle.fax_rows.specs.Coded.{packed_len, is_black, colour_of_bit, packed_row, unpacked_row}

-- by the law of the bits of bytes
module _ (law : AreBitsByIndex) where
  -- a row whose pels are the bits of bytes
  pub unpacked_at : (row : List Colour) (bytes : List ℕ) (width : ℕ) → length row ≡ width
      → length bytes ≡ packed_len width
      → ((k : ℕ) → k < width → get_or row k White ≡ colour_of_bit (get_or (bits MsbFirst bytes) k false))
      → row ≡ unpacked_row width bytes
  unfolding unpacked_row
  unpacked_at row bytes width len whole each =
      let enough : width ≤ length (bits MsbFirst bytes) = omega (arith, law.count MsbFirst bytes) in
      let long : width ≤ length (map colour_of_bit (bits MsbFirst bytes)) =
      omega (arith, length-map (bits MsbFirst bytes) colour_of_bit) in
      let short : length (take width (map colour_of_bit (bits MsbFirst bytes))) ≡ width =
      length-take-le width (map colour_of_bit (bits MsbFirst bytes)) long in
      ext_get_or White row (take width (map colour_of_bit (bits MsbFirst bytes))) (len ∙ sym short)
      (λ k h.
      let inside : k < width = omega arith in
      let within : k < length (bits MsbFirst bytes) = omega arith in
      each k inside ∙ sym (get_or-map colour_of_bit (bits MsbFirst bytes) k false White within)
      ∙ sym (get_or-take width (map colour_of_bit (bits MsbFirst bytes)) k White inside))

pub unpacked_none : (b : List Bool) (changes : List ℕ) → changes ≡ 0 ∷ [] → IsUnpackedTo b changes 0 White
unpacked_none b changes is = grind (arith, common_steps, toggled-first)

-- pels more of the colour
pub unpacked_run : (b : List Bool) (changes : List ℕ) (i j : ℕ) (colour : Colour) → IsUnpackedTo b changes i colour
    → i ≤ j
    → ((k : ℕ) → i ≤ k → k < j → colour_of_bit (get_or b k false) ≡ colour) → IsUnpackedTo b changes j colour
unpacked_run b changes i j colour so_far further same = grind (arith, common_steps)

-- and one of the other colour, where it turns
pub unpacked_turned : (b : List Bool) (old new : List ℕ) (i : ℕ) (colour pel : Colour) → IsUnpackedTo b old i colour
    → pel ≡ other colour
    → pel ≡ colour_of_bit (get_or b i false) → IsToggledFrom old new i → IsUnpackedTo b new (i + 1) pel
unpacked_turned b old new i colour pel so_far turns is toggle_change = grind arith

pub get_or-padded : (b : List Bool) (n i : ℕ) → get_or (b ++ replicate n false) i false ≡ get_or b i false
get_or-padded [] zero i = refl
get_or-padded [] (suc n) zero = refl
get_or-padded [] (suc n) (suc i) = get_or-padded [] n i
get_or-padded (x ∷ b) n zero = refl
get_or-padded (x ∷ b) n (suc i) = get_or-padded b n i

-- the bytes of a row, by the laws of the bits of bytes
pub packed_at : AreBitsByIndex → PacksOneWay → (row : List Colour) (bytes : List ℕ)
    → length bytes ≡ packed_len (length row)
    → ((k : ℕ) → get_or bytes k 0 < 256)
    → ((k : ℕ) → k < length bytes → IsPackedByte row (8 * k) (get_or bytes k 0)) → bytes ≡ packed_row row
unfolding packed_row
packed_at changes one_way row bytes len fit each =
    let zeros = 8 * length bytes - length row in
    let black = map is_black row in
    let wide = length-map row is_black in
    one_way.only MsbFirst black bytes zeros (omega (arith, len)) (λ k d h. rw (get_or_default bytes k d 0 h) (fit k))
    (ext_get_or false (bits MsbFirst bytes) (black ++ replicate zeros false)
    (omega (
      arith,
      changes.count MsbFirst bytes,
      len,
      wide,
      length-append black (replicate zeros false),
      length-replicate
          zeros false,
    ))
    (λ i h.
    let inside : i < 8 * length bytes = omega (arith, changes.count MsbFirst bytes) in
    let column : 8 * (i / 8) + i % 8 ≡ i = omega arith in
    changes.of_bytes MsbFirst bytes i inside ∙ each (i / 8) (omega arith) (i % 8) (omega arith)
    ∙ ap (λ n. get_or black n false) column
    ∙ sym (get_or-padded black zeros i)))
