-- The header of a PBM's image: one that is read is one, and each is read, in one way.
use Rattle.std.proofs.Common.{◌≡◌, ℕ, ◌-◌, ◌≤◌, Bool, true, false, List, ◌∷◌, ◌++◌, length, take, drop, sym, ap, ◌∙◌}
use Rattle.std.proofs.Common.{arith}
use Rattle.std.specs.Prelude.{codes}
use Rattle.std.proofs.lemmas.Grind.{common_steps}
use Rattle.fax_files.specs.declared.pbm.PbmFault.TheVariants.{BadHeader, OutOfLimits}
use Rattle.fax_files.specs.Pbm.{IsHead, IsImage, IsImageFault, is_within_limits}
use Rattle.fax_files.specs.code.Pbm.{raster_len, capped, after_gap, after_digits, IsHeadRead}
use Rattle.fax_files.specs.views.Pbm.{image_of}
use Rattle.fax_files.proofs.PbmGapLemmas.{gap_is_read, gap_passed, gap_has_no_digit, white_is_no_digit}
use Rattle.fax_files.proofs.PbmNumberLemmas.{number_is_read, number_passed, number_begins, digits_passed}

-- a header that is read is one
pub record HasHead (bytes : List ℕ) (width height : ℕ) (rest : List ℕ) : Type 0 where
  pub exact_width : ℕ
  pub exact_height : ℕ
  pub head : IsHead bytes exact_width exact_height rest
  pub width_is : width ≡ capped exact_width
  pub height_is : height ≡ capped exact_height

pub head_is_read : (bytes : List ℕ) (width height : ℕ) (rest : List ℕ) → IsHeadRead bytes width height rest
    → HasHead bytes width height rest
head_is_read bytes width height rest read =
    let first = gap_is_read read.at_gap read.at_width read.gap in
    let w = number_is_read read.at_width read.some_width in
    let second = gap_is_read (after_digits read.at_width) read.at_height read.second_gap in
    let h = number_is_read read.at_height read.some_height in
    record {
      exact_width = w.number;
      exact_height = h.number;
      head = record {
        first_gap = first.0;
        width_digits = w.digits;
        second_gap = second.0;
        height_digits = h.digits;
        space = read.space;
        first_is_gap = first.1;
        width_is = w.spelled;
        second_is_gap = second.1;
        height_is = h.spelled;
        space_is = read.space_is;
        spelled =
            read.magic
            ∙ ap (λ (l : List ℕ). codes "P4" ++ l) (
            first.2
            ∙ ap (λ (l : List ℕ). first.0 ++ l) (
            w.is
            ∙ ap (λ (l : List ℕ). w.digits ++ l) (
            second.2
            ∙ ap (λ (l : List ℕ). second.0 ++ l) (h.is ∙ ap (λ (l : List ℕ). h.digits ++ l) read.after)
            )
            )
            );
      };
      width_is = read.width_is ∙ w.read;
      height_is = read.height_is ∙ h.read;
    }

-- each header is read
pub head_passed : (bytes : List ℕ) (width height : ℕ) (rest : List ℕ) → IsHead bytes width height rest
    → IsHeadRead bytes (capped width) (capped height) rest
head_passed bytes width height rest head =
    let at_height = head.height_digits ++ head.space ∷ rest in
    let at_second = head.second_gap ++ at_height in
    let at_width = head.width_digits ++ at_second in
    let no_digit = gap_has_no_digit head.second_gap at_height head.second_is_gap in
    let space_no_digit = white_is_no_digit head.space head.space_is in
    let some_height = number_begins head.height_digits height (head.space ∷ rest) head.height_is in
    let some_width = number_begins head.width_digits width at_second head.width_is in
    let after_width = digits_passed head.width_digits at_second head.width_is.1 no_digit in
    record {
      at_gap = head.first_gap ++ at_width;
      at_width = at_width;
      at_height = at_height;
      space = head.space;
      magic = head.spelled;
      gap = gap_passed head.first_gap at_width head.first_is_gap some_width;
      some_width = some_width;
      width_is = sym (number_passed head.width_digits width at_second head.width_is no_digit);
      second_gap = ap after_gap after_width ∙ gap_passed head.second_gap at_height head.second_is_gap some_height;
      some_height = some_height;
      height_is = sym (number_passed head.height_digits height (head.space ∷ rest) head.height_is space_no_digit);
      after = digits_passed head.height_digits (head.space ∷ rest) head.height_is.1 space_no_digit;
      space_is = head.space_is;
    }

pub within_is_exact : (width height : ℕ) → is_within_limits width height ≡ true
    → (capped width ≡ width) × (capped height ≡ height)
within_is_exact width height within = grind arith

-- where there is no header
pub no_head : (bytes : List ℕ) → ((width height : ℕ) (rest : List ℕ) → IsHeadRead bytes width height rest → ⊥)
    → IsImageFault bytes BadHeader
no_head bytes none = λ width height rest head. none (capped width) (capped height) rest
    (head_passed bytes width height rest head)

head_along : (bytes : List ℕ) (w width h height : ℕ) (rest : List ℕ) → width ≡ w → height ≡ h → IsHead bytes w h rest
    → IsHead bytes width height rest
head_along bytes w width h height rest width_is height_is head = rw (width_is, height_is) head

limits_along : (w width h height : ℕ) (v : Bool) → width ≡ capped w → height ≡ capped h
    → is_within_limits width height ≡ v
    → is_within_limits w h ≡ v
limits_along w width h height v width_is height_is within = grind arith

-- a header within the limits
pub exact_head : (bytes : List ℕ) (width height : ℕ) (rest : List ℕ) → IsHeadRead bytes width height rest
    → is_within_limits width height ≡ true → IsHead bytes width height rest
exact_head bytes width height rest read within =
    let has = head_is_read bytes width height rest read in
    let within_exact = limits_along has.exact_width width has.exact_height height true has.width_is has.height_is within
    in
    let exact = within_is_exact has.exact_width has.exact_height within_exact in
    head_along bytes has.exact_width width has.exact_height height rest (has.width_is ∙ exact.0)
    (has.height_is ∙ exact.1) has.head

-- a header past the limits
pub head_outside : (bytes : List ℕ) (width height : ℕ) (rest : List ℕ) → IsHeadRead bytes width height rest
    → is_within_limits width height ≡ false → IsImageFault bytes OutOfLimits
head_outside bytes width height rest read outside =
    let has = head_is_read bytes width height rest read in (
      has.exact_width,
      has.exact_height,
      rest,
      has.head,
      limits_along has.exact_width width has.exact_height height false has.width_is has.height_is outside,
    )

-- an image after its header
pub image_read : (bytes : List ℕ) (width height : ℕ) (raster rest : List ℕ)
    → IsHeadRead bytes width height (raster ++ rest)
    → is_within_limits width height ≡ true → length raster ≡ raster_len width height
    → IsImage bytes (image_of width height raster) rest
image_read bytes width height raster rest read within whole = grind (arith, exact_head)

-- the two parts of a list
pub take_both : (l : List ℕ) (n : ℕ) → l ≡ take n l ++ take (length l - n) (drop n l)
take_both l n = grind (arith, common_steps)

pub length-take_of : (l : List ℕ) (n : ℕ) → n ≤ length l → length (take n l) ≡ n
length-take_of l n le = grind (arith, common_steps)
