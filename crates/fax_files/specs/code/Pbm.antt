-- How a raw PBM is read, step by step, and how a reader is seen.
use Rattle.std.specs.Prelude.{◌≡◌, ℕ, ◌+◌, ◌-◌, ◌*◌, ◌==◌, ◌||◌, min, Bool, true, false, not}
use Rattle.std.specs.Prelude.{if◌then◌else◌, List, [], ◌∷◌, ◌++◌, codes, fold, Option, Some, None}
use Rattle.fax_files.specs.Page.{is_between}
use Rattle.fax_files.specs.Pbm.{Image, is_white_space}
use Rattle.fax_files.specs.views.Pbm.{head_bytes}
use Rattle.std.specs.List.{flat_map}
use Rattle.std.specs.Prelude.{length}
use Rattle.fax_rows.specs.Coded.{packed_len, packed_row}

-- LF and CR, which end a comment (the netpbm format, P4)
abbrev pub is_line_end : ℕ → Bool
is_line_end c = (c == 10) || (c == 13)

-- `0` to `9` (the netpbm format, P4)
abbrev pub is_digit : ℕ → Bool
is_digit c = is_between 48 57 c

-- the number that decimals spell, the highest first
abbrev pub spelled_number : List ℕ → ℕ
spelled_number digits = fold (λ number digit. 10 * number + (digit - 48)) 0 digits

-- a byte that begins a piece of a gap
abbrev pub starts_white_space : ℕ → Bool
starts_white_space c = (c == 35) || is_white_space c

-- what stands after all pieces, where a comment is open or not, and where something stands there
abbrev pub skip_white_space : Bool → List ℕ → Option (List ℕ)
skip_white_space in_comment [] = None
skip_white_space true (c ∷ bytes) = skip_white_space (not (is_line_end c)) bytes
skip_white_space false (c ∷ bytes) =
    if starts_white_space c then (skip_white_space (c == 35) bytes) else (Some (c ∷ bytes))

-- what stands after a gap
abbrev pub after_gap : List ℕ → Option (List ℕ)
after_gap [] = None
after_gap (c ∷ bytes) = if starts_white_space c then (skip_white_space false (c ∷ bytes)) else None

-- a number above each limit, in place of a larger one
abbrev pub capped : ℕ → ℕ
capped n = min n 1000001

-- the number that is spelled so far, and continues with the digits ahead
abbrev pub capped_from : ℕ → List ℕ → ℕ
capped_from number [] = number
capped_from number (c ∷ bytes) =
    if is_digit c then (capped_from (capped (10 * number + (c - 48))) bytes) else number

-- what stands after the digits ahead
abbrev pub after_digits : List ℕ → List ℕ
after_digits [] = []
after_digits (c ∷ bytes) = if is_digit c then (after_digits bytes) else (c ∷ bytes)

-- a digit is ahead
abbrev pub has_digit : List ℕ → Bool
has_digit [] = false
has_digit (c ∷ bytes) = is_digit c

-- a header is read so
pub record IsHeadRead (bytes : List ℕ) (width height : ℕ) (rest : List ℕ) : Type 0 where
  pub at_gap : List ℕ
  pub at_width : List ℕ
  pub at_height : List ℕ
  pub space : ℕ
  pub magic : bytes ≡ codes "P4" ++ at_gap
  pub gap : after_gap at_gap ≡ Some at_width
  pub some_width : has_digit at_width ≡ true
  pub width_is : width ≡ capped_from 0 at_width
  pub second_gap : after_gap (after_digits at_width) ≡ Some at_height
  pub some_height : has_digit at_height ≡ true
  pub height_is : height ≡ capped_from 0 at_height
  pub after : after_digits at_height ≡ space ∷ rest
  pub space_is : is_white_space space ≡ true

-- how many bytes the rows of an image take (the netpbm format, P4)
abbrev pub raster_len : ℕ → ℕ → ℕ
raster_len width height = height * packed_len width

-- an image as it is written
abbrev pub image_bytes : Image → List ℕ
image_bytes image = head_bytes image.width (length image.rows) ++ flat_map packed_row image.rows
