-- The images that functions read are those that are defined.
use Rattle.std.proofs.Common.{arith, ◌≡◌, ◌≢◌, ℕ, zero, suc, ◌*◌, ◌<◌, ◌≤◌, Bool, true, false, inl, inr}
use Rattle.std.proofs.Common.{List, [], ◌∷◌, ◌++◌, length, take, drop, Result, Ok, Err}
use Rattle.std.proofs.Common.{refl, sym, ap, ◌∙◌, subst}
use Rattle.std.specs.Prelude.{MatchResult, nat_lt}
use Rattle.std.proofs.lemmas.Bool.Decides.{nat_tests}
use Rattle.std.proofs.lemmas.List.{length-append, take-append-drop}
use Rattle.std.proofs.Math.Seq.{take-append_seam, drop-append_seam}
use Rattle.fax_rows.specs.Coded.{packed_len}
use Rattle.fax_files.specs.declared.pbm.PbmFault.{PbmFault}
use Rattle.fax_files.specs.declared.pbm.PbmFault.TheVariants.{BadHeader, OutOfLimits, ShortRaster}
use Rattle.fax_files.specs.Pbm.{Image, IsHead, IsImage, IsImageFault, AreImages, is_within_limits, raster_rows}
use Rattle.fax_files.specs.laws.Pbm.{ImagesAreReadInOneWay}
use Rattle.fax_files.proofs.PbmHeadLemmas.{length-take_of}
use Rattle.fax_files.specs.Directory.{◌>>=◌}
use Rattle.fax_reads.specs.Images.{HeadRead, ImagesRead, read_head, read_raster, read_image, images_after, images_from}
use Rattle.fax_reads.specs.Images.{read_images}
use Rattle.fax_reads.specs.laws.Images.{ImagesAreReadByFunctions}
use Rattle.fax_reads.proofs.HeadGraph.{head_is, head_of, head_bad}

-- an image has bytes of its own
image_is_long : (bytes : List ℕ) (image : Image) (rest : List ℕ) → IsImage bytes image rest
    → length rest < length bytes
image_is_long bytes image rest is = grind (arith, length-append)

below : (a b : ℕ) → nat_lt a b ≡ true → a < b
below a b is = grind (arith, nat_tests)

above : (a b : ℕ) → nat_lt a b ≡ false → b ≤ a
above a b is = grind (arith, nat_tests)

is_below : (a b : ℕ) → a < b → nat_lt a b ≡ true
is_below a b is = grind (arith, nat_tests)

is_above : (a b : ℕ) → b ≤ a → nat_lt a b ≡ false
is_above a b is = grind (arith, nat_tests)

abbrev IsRead : List ℕ → Result (Image × List ℕ) PbmFault → Type 0
IsRead bytes r = MatchResult r (λ found. IsImage bytes found.0 found.1) (IsImageFault bytes)

-- what stands after a header, in each case
raster_outside : (head : HeadRead) → is_within_limits head.width head.height ≡ false
    → read_raster head ≡ Err OutOfLimits
raster_outside head outside = rw (outside, read_raster) refl

raster_short : (head : HeadRead) → is_within_limits head.width head.height ≡ true
    → nat_lt (length head.rest) (head.height * packed_len head.width) ≡ true → read_raster head ≡ Err ShortRaster
raster_short head within short = rw (within, short, read_raster) refl

raster_whole : (head : HeadRead) → is_within_limits head.width head.height ≡ true
    → nat_lt (length head.rest) (head.height * packed_len head.width) ≡ false
    → read_raster head ≡ Ok (
      record {
        width = head.width;
        rows = raster_rows head.width head.height (take (head.height * packed_len head.width) head.rest);
      },
      drop (head.height * packed_len head.width) head.rest,
    )
raster_whole head within enough = rw (within, enough, read_raster) refl

-- after a header an image is read, or its fault
module _ (bytes : List ℕ) (head : HeadRead) (is : IsHead bytes head.width head.height head.rest) where
  abbrev len : ℕ
  len = head.height * packed_len head.width

  by_len : (short : Bool) → nat_lt (length head.rest) len ≡ short → is_within_limits head.width head.height ≡ true
      → IsRead bytes (read_raster head)
  by_len true short within =
      rw (raster_short head within short)
      (head.width, head.height, head.rest, is, within, below (length head.rest) len short)
  by_len false short within =
      rw (raster_whole head within short) (record {
        height = head.height;
        raster = take len head.rest;
        head = subst (λ (l : List ℕ). IsHead bytes head.width head.height l) (sym (take-append-drop len head.rest)) is;
        within = within;
        whole = length-take_of head.rest len (above (length head.rest) len short);
        rows_are = refl;
      })

  by_limits : (v : Bool) → is_within_limits head.width head.height ≡ v → IsRead bytes (read_raster head)
  by_limits true within = by_len (nat_lt (length head.rest) len) refl within
  by_limits false outside = rw (raster_outside head outside) (head.width, head.height, head.rest, is, outside)

  raster_is : IsRead bytes (read_raster head)
  raster_is = by_limits (is_within_limits head.width head.height) refl

no_head : (bytes : List ℕ) (fault : PbmFault) → read_head bytes ≡ Err fault → IsImageFault bytes BadHeader
no_head bytes fault none = λ width height rest head.
    let some = head_of bytes width height rest head in
    let no : ⊥ = cc in no

by_head : (bytes : List ℕ) (r : Result HeadRead PbmFault) → read_head bytes ≡ r
    → MatchResult r (λ _. Unit {0}) (λ fault. fault ≡ BadHeader)
    → IsRead bytes (r >>= read_raster)
by_head bytes (Ok head) is bad = raster_is bytes head (head_is bytes head is)
by_head bytes (Err fault) none bad = rw bad (no_head bytes fault none)

-- what is read is defined
image_is : (bytes : List ℕ) → IsRead bytes (read_image bytes)
image_is bytes = by_head bytes (read_head bytes) refl (head_bad bytes)

-- and what is defined is read
image_of : (bytes : List ℕ) (image : Image) (rest : List ℕ) → IsImage bytes image rest
    → read_image bytes ≡ Ok (image, rest)
image_of bytes image rest is =
    let len = is.height * packed_len image.width in
    let all = is.raster ++ rest in
    let taken : take len all ≡ is.raster = ap (λ n. take n all) (sym is.whole) ∙ take-append_seam is.raster rest in
    let remaining : drop len all ≡ rest = ap (λ n. drop n all) (sym is.whole) ∙ drop-append_seam is.raster rest in
    let enough : nat_lt (length all) len ≡ false =
    is_above (length all) len (omega (arith, is.whole, length-append is.raster rest)) in
    ap (λ r. r >>= read_raster) (head_of bytes image.width is.height all is.head)
    ∙ raster_whole (record { width = image.width; height = is.height; rest = all }) is.within enough
    ∙ rw (taken, remaining, ← is.rows_are) refl

by_none : (bytes : List ℕ) (r : Result HeadRead PbmFault) → read_head bytes ≡ r
    → MatchResult r (λ _. Unit {0}) (λ fault. fault ≡ BadHeader)
    → IsImageFault bytes BadHeader → (r >>= read_raster) ≡ Err BadHeader
by_none bytes (Ok head) is bad none = absurd (none head.width head.height head.rest (head_is bytes head is))
by_none bytes (Err fault) is bad none = ap (λ f. Err f) bad

fault_of : (bytes : List ℕ) (fault : PbmFault) → IsImageFault bytes fault → read_image bytes ≡ Err fault
fault_of bytes BadHeader none = by_none bytes (read_head bytes) refl (head_bad bytes) none
fault_of bytes OutOfLimits (width, height, rest, head, outside) =
    ap (λ r. r >>= read_raster) (head_of bytes width height rest head)
    ∙ raster_outside (record { width = width; height = height; rest = rest }) outside
fault_of bytes ShortRaster (width, height, rest, head, within, short) =
    ap (λ r. r >>= read_raster) (head_of bytes width height rest head)
    ∙ raster_short (record { width = width; height = height; rest = rest }) within
    (is_below (length rest) (height * packed_len width) short)

image_at : (bytes : List ℕ) (image : Image) (rest : List ℕ) → read_image bytes ≡ Ok (image, rest)
    → IsImage bytes image rest
image_at bytes image rest is = subst (λ (r : Result (Image × List ℕ) PbmFault). IsRead bytes r) is (image_is bytes)

fault_at : (bytes : List ℕ) (fault : PbmFault) → read_image bytes ≡ Err fault → IsImageFault bytes fault
fault_at bytes fault is = subst (λ (r : Result (Image × List ℕ) PbmFault). IsRead bytes r) is (image_is bytes)

by_image : (from : List ℕ → ImagesRead) (bytes : List ℕ) → bytes ≢ [] → (r : Result (Image × List ℕ) PbmFault)
    → IsRead bytes r
    → ((rest : List ℕ) → length rest < length bytes → AreImages rest (from rest).images (from rest).end)
    → AreImages bytes (images_after from r).images (images_after from r).end
by_image from bytes some (Err fault) is more = inr (fault, some, is, refl)
by_image from bytes some (Ok (image, rest)) is more = (rest, is, more rest (image_is_long bytes image rest is))

images_are : (limit : ℕ) (bytes : List ℕ) → length bytes ≤ limit
    → AreImages bytes (images_from limit bytes).images (images_from limit bytes).end
images_are limit [] few = inl (refl, refl)
images_are zero (c ∷ bytes) few = absurd (omega (arith, few))
images_are (suc limit) (c ∷ bytes) few =
    by_image (λ rest. images_from limit rest) (c ∷ bytes) (λ e. cc) (read_image (c ∷ bytes)) (image_is (c ∷ bytes))
    (λ rest less. images_are limit rest (omega (arith, few, less)))

pub images_graph : ImagesAreReadInOneWay → ImagesAreReadByFunctions
images_graph one_way = record {
  head = λ bytes width height rest. (
    head_of bytes width height rest,
    head_is bytes (record { width = width; height = height; rest = rest }),
  );
  image = λ bytes image rest. (image_of bytes image rest, image_at bytes image rest);
  fault = λ bytes fault. (fault_of bytes fault, fault_at bytes fault);
  images = λ bytes images end. (
    λ are.
        let read = read_images bytes in
        let same = one_way bytes read.images images read.end end (images_are (length bytes) bytes (omega arith)) are in
        rw (← same.0, ← same.1) refl,
    λ same. subst (λ (read : ImagesRead). AreImages bytes read.images read.end) same
        (images_are (length bytes) bytes (omega arith)),
  );
}
