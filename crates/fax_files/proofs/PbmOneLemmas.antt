-- Bytes are read as images in one way.
use Rattle.std.proofs.Common.{◌≡◌, ◌≢◌, ℕ, ◌+◌, ◌<◌, inl, inr, true, List, [], ◌∷◌, ◌++◌, length, take, drop, Option}
use Rattle.std.proofs.Common.{Some, refl, sym, ap}
use Rattle.std.proofs.Common.{subst, ◌∙◌, arith}
use Rattle.std.proofs.lemmas.Bool.{both_ways}
use Rattle.std.proofs.lemmas.List.{length-append}
use Rattle.std.proofs.Math.Seq.{take-append_seam, drop-append_seam}
use Rattle.fax_files.specs.declared.pbm.PbmFault.{PbmFault}
use Rattle.fax_files.specs.declared.pbm.PbmFault.TheVariants.{BadHeader, OutOfLimits, ShortRaster}
use Rattle.fax_files.specs.Pbm.{Image, IsHead, IsImage, IsImageFault, AreImages, is_within_limits, raster_rows}
use Rattle.fax_files.specs.code.Pbm.{raster_len, capped, capped_from, after_gap, after_digits}
use Rattle.fax_files.proofs.PbmHeadLemmas.{head_passed}

of_some : (a b : List ℕ) → Some a ≡ Some b → a ≡ b
of_some a b same = cc

of_pair : (a b : ℕ) (l m : List ℕ) → a ∷ l ≡ b ∷ m → l ≡ m
of_pair a b l m same = cc

-- one header, but for numbers past the limits
record IsOneHead (width height w h : ℕ) (rest others : List ℕ) : Type 0 where
  width_is : capped width ≡ capped w
  height_is : capped height ≡ capped h
  rest_is : rest ≡ others

one_head : (bytes : List ℕ) (width height w h : ℕ) (rest others : List ℕ) → IsHead bytes width height rest
    → IsHead bytes w h others
    → IsOneHead width height w h rest others
one_head bytes width height w h rest others first second =
    let a = head_passed bytes width height rest first in
    let b = head_passed bytes w h others second in
    let gap : a.at_gap ≡ b.at_gap = ap (drop 2) (sym a.magic ∙ b.magic) in
    let at_width : a.at_width ≡ b.at_width = of_some a.at_width b.at_width (sym a.gap ∙ ap after_gap gap ∙ b.gap) in
    let at_height : a.at_height ≡ b.at_height =
    of_some a.at_height b.at_height (sym a.second_gap ∙ ap (λ (l : List ℕ). after_gap (after_digits l)) at_width
    ∙ b.second_gap) in
    record {
      width_is = a.width_is ∙ ap (capped_from 0) at_width ∙ sym b.width_is;
      height_is = a.height_is ∙ ap (capped_from 0) at_height ∙ sym b.height_is;
      rest_is = of_pair a.space b.space rest others (sym a.after ∙ ap after_digits at_height ∙ b.after);
    }

same_limits : (width height w h : ℕ) → capped width ≡ capped w → capped height ≡ capped h
    → is_within_limits width height ≡ is_within_limits w h
same_limits width height w h width_is height_is = grind arith

-- within the limits the numbers are the same
same_sizes : (width height w h : ℕ) → capped width ≡ capped w → capped height ≡ capped h
    → is_within_limits width height ≡ true
    → (width ≡ w) × (height ≡ h)
same_sizes width height w h width_is height_is within = grind arith

front_of : (a b c d : List ℕ) → length a ≡ length c → a ++ b ≡ c ++ d → a ≡ c
front_of a b c d len same =
    sym (take-append_seam a b) ∙ ap (λ n. take n (a ++ b)) len ∙ ap (take (length c)) same ∙ take-append_seam c d

back_of : (a b c d : List ℕ) → length a ≡ length c → a ++ b ≡ c ++ d → b ≡ d
back_of a b c d len same =
    sym (drop-append_seam a b) ∙ ap (λ n. drop n (a ++ b)) len ∙ ap (drop (length c)) same ∙ drop-append_seam c d

same_image : (image other : Image) → image.width ≡ other.width → image.rows ≡ other.rows → image ≡ other
same_image image other width_is rows_are = grind arith

pub one_image : (bytes : List ℕ) (image other : Image) (rest others : List ℕ) → IsImage bytes image rest
    → IsImage bytes other others
    → (image ≡ other) × (rest ≡ others)
one_image bytes image other rest others a b =
    let one = one_head bytes image.width a.height other.width b.height (a.raster ++ rest) (b.raster ++ others) a.head
    b.head in
    let sizes = same_sizes image.width a.height other.width b.height one.width_is one.height_is a.within in
    let len : length a.raster ≡ length b.raster =
    a.whole ∙ ap (λ w. raster_len w a.height) sizes.0 ∙ ap (raster_len other.width) sizes.1 ∙ sym b.whole in
    let raster = front_of a.raster rest b.raster others len one.rest_is in
    let rows =
    a.rows_are
    ∙ ap (λ w. raster_rows w a.height a.raster) sizes.0
    ∙ ap (λ h. raster_rows other.width h a.raster) sizes.1
    ∙ ap (raster_rows other.width b.height) raster
    ∙ sym b.rows_are in
    (same_image image other sizes.0 rows, back_of a.raster rest b.raster others len one.rest_is)

no_fault : (bytes : List ℕ) (image : Image) (rest : List ℕ) (fault : PbmFault) → IsImage bytes image rest
    → IsImageFault bytes fault → ⊥
no_fault bytes image rest BadHeader a bad = bad image.width a.height (a.raster ++ rest) a.head
no_fault bytes image rest OutOfLimits a bad =
    let one = one_head bytes image.width a.height bad.0 bad.1 (a.raster ++ rest) bad.2 a.head bad.3 in
    both_ways (is_within_limits bad.0 bad.1) bad.4
    (sym (same_limits image.width a.height bad.0 bad.1 one.width_is one.height_is) ∙ a.within)
no_fault bytes image rest ShortRaster a bad =
    let one = one_head bytes image.width a.height bad.0 bad.1 (a.raster ++ rest) bad.2 a.head bad.3 in
    let sizes = same_sizes image.width a.height bad.0 bad.1 one.width_is one.height_is a.within in
    let len : length a.raster ≡ raster_len bad.0 bad.1 =
    a.whole ∙ ap (λ w. raster_len w a.height) sizes.0 ∙ ap (raster_len bad.0) sizes.1 in
    let rest_len : length a.raster + length rest ≡ length bad.2 =
    sym (length-append a.raster rest) ∙ ap length one.rest_is in
    let short : length bad.2 < raster_len bad.0 bad.1 = bad.5 in
    omega (arith, len, rest_len, short)

limits_differ : (bytes : List ℕ) → IsImageFault bytes OutOfLimits → IsImageFault bytes ShortRaster → ⊥
limits_differ bytes a b =
    let one = one_head bytes a.0 a.1 b.0 b.1 a.2 b.2 a.3 b.3 in
    both_ways (is_within_limits b.0 b.1) (sym (same_limits a.0 a.1 b.0 b.1 one.width_is one.height_is) ∙ a.4) b.4

one_fault : (bytes : List ℕ) (fault other : PbmFault) → IsImageFault bytes fault → IsImageFault bytes other
    → fault ≡ other
one_fault bytes BadHeader BadHeader a b = refl
one_fault bytes BadHeader OutOfLimits a b = absurd (a b.0 b.1 b.2 b.3)
one_fault bytes BadHeader ShortRaster a b = absurd (a b.0 b.1 b.2 b.3)
one_fault bytes OutOfLimits BadHeader a b = absurd (b a.0 a.1 a.2 a.3)
one_fault bytes OutOfLimits OutOfLimits a b = refl
one_fault bytes OutOfLimits ShortRaster a b = absurd (limits_differ bytes a b)
one_fault bytes ShortRaster BadHeader a b = absurd (b a.0 a.1 a.2 a.3)
one_fault bytes ShortRaster OutOfLimits a b = absurd (limits_differ bytes b a)
one_fault bytes ShortRaster ShortRaster a b = refl

-- an image has bytes
image_has_bytes : (bytes : List ℕ) (image : Image) (rest : List ℕ) → IsImage bytes image rest → bytes ≢ []
image_has_bytes bytes image rest a = grind arith

ends_are_one : (bytes : List ℕ) (end other : Option PbmFault) → AreImages bytes [] end → AreImages bytes [] other
    → end ≡ other
ends_are_one bytes end other h h' = grind (arith, one_fault)

end_is_no_image : (bytes : List ℕ) (end : Option PbmFault) (image : Image) (rest : List ℕ) → AreImages bytes [] end
    → IsImage bytes image rest → ⊥
end_is_no_image bytes end image rest (inl a) is = image_has_bytes bytes image rest is a.0
end_is_no_image bytes end image rest (inr a) is = no_fault bytes image rest a.0 is a.2

pub images_are_one : (bytes : List ℕ) (images others : List Image) (end other : Option PbmFault)
    → AreImages bytes images end → AreImages bytes others other → (images ≡ others) × (end ≡ other)
images_are_one bytes [] [] end other a b = (refl, ends_are_one bytes end other a b)
images_are_one bytes [] (image ∷ others) end other a b = absurd (end_is_no_image bytes end image b.0 a b.1)
images_are_one bytes (image ∷ images) [] end other a b = absurd (end_is_no_image bytes other image a.0 b a.1)
images_are_one bytes (image ∷ images) (i ∷ others) end other a b =
    let one = one_image bytes image i a.0 b.0 a.1 b.1 in
    let rest = subst (λ (l : List ℕ). AreImages l images end) one.1 a.2 in
    let more = images_are_one b.0 images others end other rest b.2 in
    (ap (λ (first : Image). first ∷ images) one.0 ∙ ap (λ (l : List Image). i ∷ l) more.0, more.1)
