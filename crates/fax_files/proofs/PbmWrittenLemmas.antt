-- Images that are written are read back.
use Rattle.std.proofs.lemmas.Grind.{common_steps}
use Rattle.std.proofs.Common.{◌≡◌, ◌≢◌, ℕ, ◌+◌, ◌/◌, ◌%◌, ◌^◌, ◌<◌, ◌≤◌, inl, List, [], ◌∷◌, ◌++◌, length}
use Rattle.std.proofs.Common.{None, refl, ap}
use Rattle.std.proofs.Common.{◌∙◌, arith, append_assoc}
use Rattle.std.specs.Prelude.{codes, decimal}
use Rattle.std.specs.List.{flat_map}
use Rattle.std.proofs.lemmas.Fmt.{decimal_by_steps}
use Rattle.std.proofs.lemmas.List.{length-append}
use Rattle.std.proofs.lemmas.List.Folds.{list_all-append}
use Rattle.std.proofs.lemmas.List.Sums.{fold-append}
use Rattle.std.proofs.Math.Seq.{take-append_seam, drop-append_seam}
use Rattle.fax_bits.specs.declared.Colour.{Colour}
use Rattle.fax_rows.specs.Coded.{packed_len, packed_row}
use Rattle.fax_rows.specs.laws.Packed.{PackingUndoesUnpacking}
use Rattle.fax_files.specs.Pbm.{Image, IsHead, IsImage, SpellsNumber, AreImages, pbm_of, raster_rows}
use Rattle.fax_files.specs.views.Pbm.{head_bytes}
use Rattle.fax_files.specs.code.Pbm.{image_bytes, raster_len}
use Rattle.fax_files.specs.laws.Pbm.{AreOfWidth, IsWritableImage, AreWritableImages}

-- decimals as they are written are a number
digit_is_number : (n : ℕ) → n < 10 → SpellsNumber ((48 + n) ∷ []) n
digit_is_number n small = grind arith

nonempty_push : (digits : List ℕ) (d : ℕ) → digits ++ d ∷ [] ≢ []
nonempty_push [] d = λ e. cc
nonempty_push (c ∷ digits) d = λ e. cc

more_is_number : (n : ℕ) (digits : List ℕ) → 10 ≤ n → SpellsNumber digits (n / 10)
    → SpellsNumber (digits ++ ((48 + n % 10) ∷ [])) n
more_is_number n digits large is = grind (arith, nonempty_push, list_all-append, fold-append)

decimal_is_number : (n : ℕ) → n < 2 ^ 64 → SpellsNumber (decimal n) n
decimal_is_number = decimal_by_steps (λ n digits. SpellsNumber digits n) digit_is_number more_is_number

regroup : (a b c d e r : List ℕ) → (((((a ++ b) ++ c) ++ d) ++ e) ++ r) ≡ a ++ (b ++ (c ++ (d ++ (e ++ r))))
regroup a b c d e r = simp append_assoc

head_written : (width height : ℕ) (rest : List ℕ) → width < 2 ^ 64 → height < 2 ^ 64
    → IsHead (head_bytes width height ++ rest) width height rest
head_written width height rest width_small height_small = record {
  first_gap = 10 ∷ [];
  width_digits = decimal width;
  second_gap = 32 ∷ [];
  height_digits = decimal height;
  space = 10;
  first_is_gap = ((10 ∷ []) ∷ [], (λ e. cc), ([], inl (10, refl, refl), refl, refl));
  width_is = decimal_is_number width width_small;
  second_is_gap = ((32 ∷ []) ∷ [], (λ e. cc), ([], inl (32, refl, refl), refl, refl));
  height_is = decimal_is_number height height_small;
  space_is = refl;
  spelled = regroup (codes "P4\n") (decimal width) (codes " ") (decimal height) (codes "\n") rest;
}

-- the rows of a raster as it is written
module _ (law : PackingUndoesUnpacking) where
  row_len : (width : ℕ) (row : List Colour) → length row ≡ width → length (packed_row row) ≡ packed_len width
  row_len width row is = law.packed_count row ∙ ap packed_len is

  raster_read : (width : ℕ) (rows : List (List Colour)) → AreOfWidth width rows
      → rows ≡ raster_rows width (length rows) (flat_map packed_row rows)
  raster_read width [] are = refl
  raster_read width (row ∷ rows) are = grind (
    arith,
    row_len,
    take-append_seam,
    drop-append_seam,
    raster_read width rows
        are.1,
  )

  raster_length : (width : ℕ) (rows : List (List Colour)) → AreOfWidth width rows
      → length (flat_map packed_row rows) ≡ raster_len width (length rows)
  raster_length width [] are = omega arith
  raster_length width (row ∷ rows) are = grind (arith, length-append, row_len, raster_length width rows are.1)

  image_written : (image : Image) (rest : List ℕ) → IsWritableImage image
      → IsImage (image_bytes image ++ rest) image rest
  image_written image rest is = grind (arith, common_steps, head_written, raster_length, raster_read)

  pub images_written : (images : List Image) → AreWritableImages images → AreImages (pbm_of images) images None
  images_written [] are = inl (refl, refl)
  images_written (image ∷ images) are = (
    pbm_of images,
    image_written image (pbm_of images) are.0,
    images_written images
        are.1,
  )
