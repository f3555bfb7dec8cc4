-- Images that are converted.
use Rattle.std.proofs.lemmas.Grind.{common_steps}
use Rattle.std.proofs.Common.{◌≡◌, ◌≢◌, ℕ, zero, suc, ◌+◌, ◌*◌, ◌<◌, ◌≤◌, inl, inr, List, [], ◌∷◌, ◌++◌, length, map}
use Rattle.std.proofs.Common.{take, drop, Some, None, refl, sym, ap, ◌∙◌, subst, arith, append_assoc, append-nil}
use Rattle.std.proofs.Common.{length-append, length-drop, length-take, take-append-drop}
use Rattle.std.specs.Prelude.{codes}
use Rattle.std.proofs.lemmas.List.{drop-drop, map-append}
use Rattle.fax_bits.specs.Bits.{StartsWith}
use Rattle.fax_bits.specs.declared.Colour.{Colour}
use Rattle.fax_rows.specs.laws.Packed.{PackingUndoesUnpacking}
use Rattle.fax_rows.specs.Coded.{packed_len, unpacked_row}
use Rattle.fax_files.specs.declared.pbm.PbmFault.{PbmFault}
use Rattle.fax_files.specs.Pbm.{Image, IsImage, IsImageFault, raster_rows}
use Rattle.fax_files.specs.laws.Pbm.{AreOfWidth}
use Rattle.fax_walk.specs.declared.options.ConvertFault.TheVariants.{Pbm}
use Rattle.fax_walk.specs.declared.options.Options.{Options}
use Rattle.fax_walk.specs.declared.output.Output.{Output}
use Rattle.fax_walk.specs.Converted.{IsNotConverted, IsSource, SourcePage}
use Rattle.fax_walk.specs.code.Output.{with_source_page}
use Rattle.fax_walk.specs.views.Converting.{IsConverting, IsWrittenTo, Progress, page_of_image}

pub raster_count : (width n : ℕ) (bytes : List ℕ) → length (raster_rows width n bytes) ≡ n
raster_count width zero bytes = refl
raster_count width (suc n) bytes = ap suc (raster_count width n (drop (packed_len width) bytes))

-- one more row of a raster
pub raster_next : (width n : ℕ) (bytes : List ℕ)
    → raster_rows width (n + 1) bytes
    ≡ raster_rows width n bytes ++ unpacked_row width (take (packed_len width) (drop (n * packed_len width) bytes)) ∷ []
raster_next width zero bytes = grind (arith, common_steps)
raster_next width (suc n) bytes =
    let len = packed_len width in
    let count : suc n + 1 ≡ suc (n + 1) = omega arith in
    let place : len + n * len ≡ suc n * len = omega arith in
    ap (λ (i : ℕ). raster_rows width i bytes) count
    ∙ ap (λ (l : List (List Colour)). unpacked_row width (take len bytes) ∷ l) (raster_next width n (drop len bytes))
    ∙ ap (λ (l : List ℕ). unpacked_row width (take len bytes)
    ∷ (raster_rows width n (drop len bytes) ++ unpacked_row width (take len l) ∷ []))
    (drop-drop (n * len) len bytes ∙ ap (λ (i : ℕ). drop i bytes) place)

-- the rows of a raster are as wide as its image
pub raster_widths : PackingUndoesUnpacking → (width n : ℕ) (bytes : List ℕ) → n * packed_len width ≤ length bytes
    → AreOfWidth width (raster_rows width n bytes)
raster_widths packs width zero bytes enough = tt
raster_widths packs width (suc n) bytes enough =
    let first : length (take (packed_len width) bytes) ≡ packed_len width =
    omega (arith, length-take (packed_len width) bytes) in
    let rest : n * packed_len width ≤ length (drop (packed_len width) bytes) =
    omega (arith, length-drop (packed_len width) bytes) in (
      packs.unpacked_count width (take (packed_len width) bytes) first,
      raster_widths packs width n (drop (packed_len width) bytes) rest,
    )

regrouped : (p a b c d r x : List ℕ) (s : ℕ) → p ++ (a ++ (b ++ (c ++ (d ++ s ∷ (r ++ x)))))
    ≡ (p ++ (a ++ (b ++ (c ++ (d ++ s ∷ r))))) ++ x
regrouped p a b c d r x s = simp append_assoc

-- an image that bytes begin with, whatever follows it
module _ (bytes : List ℕ) (image : Image) (rest : List ℕ) (is : IsImage bytes image rest) where
  abbrev pub front : List ℕ
  front =
      let after_width = is.head.second_gap ++ (is.head.height_digits ++ is.head.space ∷ is.raster) in
      codes "P4" ++ (is.head.first_gap ++ (is.head.width_digits ++ after_width))

  pub split : bytes ≡ front ++ rest
  split = is.head.spelled ∙ regrouped (codes "P4") is.head.first_gap is.head.width_digits is.head.second_gap
      is.head.height_digits is.raster rest is.head.space

  pub has_bytes : 0 < length bytes
  has_bytes = omega (arith, ap (λ (l : List ℕ). length l) split)

  again : (remaining : List ℕ) → IsImage (front ++ remaining) image remaining
  again remaining = record {
    height = is.height;
    raster = is.raster;
    head = record {
      first_gap = is.head.first_gap;
      width_digits = is.head.width_digits;
      second_gap = is.head.second_gap;
      height_digits = is.head.height_digits;
      space = is.head.space;
      first_is_gap = is.head.first_is_gap;
      width_is = is.head.width_is;
      second_is_gap = is.head.second_is_gap;
      height_is = is.head.height_is;
      space_is = is.head.space_is;
      spelled = sym (regrouped (codes "P4") is.head.first_gap is.head.width_digits is.head.second_gap
          is.head.height_digits is.raster remaining is.head.space);
    };
    within = is.within;
    whole = is.whole;
    rows_are = is.rows_are;
  }

  -- one more image is taken
  pub image_taken : (taken : List ℕ) (options : Options) (count : ℕ) (output new : Output)
      → (so_far : IsConverting taken options count output)
      → IsWrittenTo new (with_source_page (record { options = options; pages = map page_of_image so_far.images })
      (page_of_image image))
      → IsConverting (taken ++ front) options (count + 1) new
  image_taken taken options count output new so_far written = record {
    images = so_far.images ++ image ∷ [];
    counted = omega (arith, so_far.counted, length-append so_far.images (image ∷ []));
    few = omega (arith, so_far.few, length-append taken front);
    after = λ remaining more end are.
        rw (append_assoc taken front remaining, append_assoc so_far.images (image ∷ []) more)
        (so_far.after (front ++ remaining) (image ∷ more) end (remaining, again remaining, are));
    written = subst (λ (l : List SourcePage). IsWrittenTo new (record { options = options; pages = l }))
        (sym (map-append page_of_image so_far.images (image ∷ []))) written;
  }

-- all bytes that are taken are images
module _ (taken : List ℕ) (options : Options) (count : ℕ) (output : Output)
    (so_far : IsConverting taken options count output) where
  abbrev pub at : Progress
  at = record { options = options; pages = map page_of_image so_far.images }

  pub source : StartsWith taken (codes "P4") → IsSource taken at.pages
  source begins = inl (
    begins,
    so_far.images,
    rw (append-nil taken, append-nil so_far.images) at (so_far.after [] [] None (inl (refl, refl))),
    refl,
  )

  -- and bytes after them are none, for a fault
  pub refused_at : (remaining : List ℕ) (fault : PbmFault) → remaining ≢ [] → IsImageFault remaining fault
      → StartsWith (taken ++ remaining) (codes "P4")
      → IsNotConverted (taken ++ remaining) options (Pbm count fault)
  refused_at remaining fault some is begins = (
    begins,
    so_far.images,
    rw (append-nil so_far.images) at (so_far.after remaining [] (Some fault) (inr (fault, some, is, refl))),
    so_far.counted,
  )

-- so much of the last bytes is taken
module _ (before rest : List ℕ) (n : ℕ) (options : Options) (count : ℕ) (output : Output)
    (so_far : IsConverting (before ++ take n rest) options count output) where
  -- and none are left
  pub all_taken : drop n rest ≡ [] → IsConverting (before ++ rest) options count output
  all_taken none =
      let all : take n rest ≡ rest = sym (append-nil (take n rest)) ∙ ap (λ (l : List ℕ). take n rest ++ l) (sym none)
      ∙ take-append-drop n rest in
      rw all at so_far

  -- and a fault follows
  pub stopped : (fault : PbmFault) → drop n rest ≢ [] → IsImageFault (drop n rest) fault
      → StartsWith (before ++ rest) (codes "P4") → IsNotConverted (before ++ rest) options (Pbm count fault)
  stopped fault some is begins =
      let all : (before ++ take n rest) ++ drop n rest ≡ before ++ rest =
      append_assoc before (take n rest) (drop n rest) ∙ ap (λ (l : List ℕ). before ++ l) (take-append-drop n rest) in
      rw all at (refused_at (before ++ take n rest) options count output so_far (drop n rest) fault some is
      (rw (← all) at begins))
