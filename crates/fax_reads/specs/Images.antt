-- Raw PBM read by functions: a header, an image, and images one after another up to an end (the
-- netpbm format, P4; the faults are this project's profile). A number `limit` is no less than the
-- number of what is left: bytes hold no more images than they are.
use Rattle.std.specs.Prelude.{ℕ, zero, suc, ◌+◌, ◌-◌, ◌*◌, ◌==◌, ◌||◌, ◌&&◌, not, nat_lt}
use Rattle.std.specs.Prelude.{if◌then◌else◌, Bool, true, false, List, [], ◌∷◌, length, take, drop}
use Rattle.std.specs.Prelude.{Option, Some, None, Result, Ok, Err}
use Rattle.fax_rows.specs.Coded.{packed_len}
use Rattle.fax_files.specs.declared.pbm.PbmFault.{PbmFault}
use Rattle.fax_files.specs.declared.pbm.PbmFault.TheVariants.{BadHeader, OutOfLimits, ShortRaster}
use Rattle.fax_files.specs.Page.{is_between}
use Rattle.fax_files.specs.Pbm.{Image, is_white_space, is_within_limits, raster_rows}
use Rattle.fax_files.specs.Directory.{◌>>=◌}

-- what stands after `P4`, the bytes 80 and 52
abbrev pub after_magic : List ℕ → Result (List ℕ) PbmFault
after_magic (p ∷ four ∷ bytes) = if (p == 80) && (four == 52) then (Ok bytes) else (Err BadHeader)
after_magic _ = Err BadHeader

-- what stands after pieces of a gap, in a comment (from `#`, 35) or not, where something does
abbrev pub after_pieces : Bool → List ℕ → Result (List ℕ) PbmFault
after_pieces in_comment [] = Err BadHeader
after_pieces true (c ∷ bytes) = after_pieces (not ((c == 10) || (c == 13))) bytes
after_pieces false (c ∷ bytes) =
    if (c == 35) || is_white_space c then (after_pieces (c == 35) bytes) else (Ok (c ∷ bytes))

-- what stands after a gap, where something does
abbrev pub after_gap : List ℕ → Result (List ℕ) PbmFault
after_gap [] = Err BadHeader
after_gap (c ∷ bytes) =
    if (c == 35) || is_white_space c then (after_pieces (c == 35) bytes) else (Err BadHeader)

-- the number that the digits ahead spell after those of this one, and what stands after them
abbrev pub read_digits : ℕ → List ℕ → ℕ × List ℕ
read_digits number [] = (number, [])
read_digits number (c ∷ bytes) =
    if is_between 48 57 c then (read_digits (10 * number + (c - 48)) bytes)
    else (number, c ∷ bytes)

-- a number and what stands after it
abbrev pub read_number : List ℕ → Result (ℕ × List ℕ) PbmFault
read_number [] = Err BadHeader
read_number (c ∷ bytes) =
    if is_between 48 57 c then (Ok (read_digits 0 (c ∷ bytes))) else (Err BadHeader)

-- what stands after one byte of white space
abbrev pub after_space : List ℕ → Result (List ℕ) PbmFault
after_space [] = Err BadHeader
after_space (c ∷ bytes) = if is_white_space c then (Ok bytes) else (Err BadHeader)

-- a header: the width, the height, and what stands after it
pub record HeadRead : Type 0 where
  pub width : ℕ
  pub height : ℕ
  pub rest : List ℕ

abbrev pub read_head : List ℕ → Result HeadRead PbmFault
read_head bytes =
    after_magic bytes
    >>= λ at_gap. after_gap at_gap
    >>= λ at_width. read_number at_width
    >>= λ width. after_gap width.1
    >>= λ at_height. read_number at_height
    >>= λ height. after_space height.1
    >>= λ rest. Ok (record { width = width.0; height = height.0; rest = rest })

-- an image after its header, and what stands after it
abbrev pub read_raster : HeadRead → Result (Image × List ℕ) PbmFault
read_raster head =
    let len = head.height * packed_len head.width in
    elim (is_within_limits head.width head.height) [
      | false ↦ Err OutOfLimits
      | true ↦ elim (nat_lt (length head.rest) len) [
        | true ↦ Err ShortRaster
        | false ↦
            let raster = take len head.rest in
            let rows = raster_rows head.width head.height raster in
            Ok (record { width = head.width; rows = rows }, drop len head.rest)
      ]
    ]

abbrev pub read_image : List ℕ → Result (Image × List ℕ) PbmFault
read_image bytes = read_head bytes >>= read_raster

-- images, and the fault that ends them, if any
pub record ImagesRead : Type 0 where
  pub images : List Image
  pub end : Option PbmFault

abbrev pub images_after : (List ℕ → ImagesRead) → Result (Image × List ℕ) PbmFault → ImagesRead
images_after from (Err fault) = record { images = []; end = Some fault }
images_after from (Ok found) =
    let more = from found.1 in record { images = found.0 ∷ more.images; end = more.end }

abbrev pub images_from : ℕ → List ℕ → ImagesRead
images_from limit [] = record { images = []; end = None }
images_from zero (_ ∷ _) = record { images = []; end = None }
images_from (suc limit) (c ∷ bytes) =
    images_after (λ rest. images_from limit rest) (read_image (c ∷ bytes))

-- all images of the bytes
abbrev pub read_images : List ℕ → ImagesRead
read_images bytes = images_from (length bytes) bytes
