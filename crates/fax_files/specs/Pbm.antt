-- Raw PBM: images one after another (the netpbm format, P4). 'Ours' is this project's profile.
use Rattle.std.specs.Prelude.{◌≡◌, ◌≢◌, ℕ, zero, suc, ◌+◌, ◌-◌, ◌*◌, ◌<◌, ◌⊎◌, Bool, ◌==◌, ◌||◌}
use Rattle.std.specs.Prelude.{◌&&◌, not, List, [], ◌∷◌, ◌++◌, length, take, drop, fold, codes}
use Rattle.std.specs.Prelude.{decimal, Option, Some, None, IsTrue, IsFalse}
use Rattle.std.specs.List.{list_all, flat_map}
use Rattle.fax_rows.specs.Rows.{Colour}
use Rattle.fax_rows.specs.Coded.{packed_len, packed_row, unpacked_row}
use Rattle.fax_files.specs.declared.pbm.PbmFault.{PbmFault}
use Rattle.fax_files.specs.declared.pbm.PbmFault.TheVariants.{BadHeader, OutOfLimits, ShortRaster}
use Rattle.fax_files.specs.Page.{is_between, most_pels, most_rows}

-- an image: its width, and its rows from the top one to the bottom one
pub record Image : Type 0 where
  pub width : ℕ
  pub rows : List (List Colour)

-- blank, TAB, LF, VT, FF and CR
abbrev pub is_white_space : ℕ → Bool
is_white_space c = (c == 32) || is_between 9 13 c

-- a piece of a gap: one byte of white space, or a comment from `#`, which is 35, to the next LF or
-- CR, 10 or 13
abbrev pub IsPiece : List ℕ → Type 0
IsPiece piece =
    ((c : ℕ) × IsTrue (is_white_space c) × (piece ≡ c ∷ []))
    ⊎ ((text : List ℕ) × (c : ℕ) × IsTrue (list_all (λ t. not ((t == 10) || (t == 13))) text)
    × IsTrue ((c == 10) || (c == 13))
    × (piece ≡ 35 ∷ text ++ c ∷ []))

-- pieces one after another
abbrev pub ArePieces : List (List ℕ) → List ℕ → Type 0
ArePieces [] gap = gap ≡ []
ArePieces (piece ∷ pieces) gap =
    (more : List ℕ) × IsPiece piece × ArePieces pieces more × (gap ≡ piece ++ more)

-- a gap: one or more pieces (that comments stand in gaps alone is ours)
abbrev pub IsGap : List ℕ → Type 0
IsGap gap = (pieces : List (List ℕ)) × (pieces ≢ []) × ArePieces pieces gap

-- a number: one or more digits, `0` to `9`, the highest first, with leading zeros or without
abbrev pub SpellsNumber : List ℕ → ℕ → Type 0
SpellsNumber digits n =
    (digits ≢ []) × IsTrue (list_all (is_between 48 57) digits)
    × (n ≡ fold (λ number digit. 10 * number + (digit - 48)) 0 digits)

-- the bytes begin with an image's header: `P4`, a gap, the width, a gap, the height and one byte of
-- white space
pub record IsHead (bytes : List ℕ) (width height : ℕ) (rest : List ℕ) : Type 0 where
  pub first_gap : List ℕ
  pub width_digits : List ℕ
  pub second_gap : List ℕ
  pub height_digits : List ℕ
  pub space : ℕ
  pub first_is_gap : IsGap first_gap
  pub width_is : SpellsNumber width_digits width
  pub second_is_gap : IsGap second_gap
  pub height_is : SpellsNumber height_digits height
  pub space_is : IsTrue (is_white_space space)
  pub spelled : bytes ≡ codes "P4"
      ++ (first_gap ++ (width_digits ++ (second_gap ++ (height_digits ++ space ∷ rest))))

-- a width and a height that are read (ours)
abbrev pub is_within_limits : ℕ → ℕ → Bool
is_within_limits width height = is_between 1 most_pels width && is_between 1 most_rows height

-- the rows that these bytes hold, of which each row takes whole bytes
abbrev pub raster_rows : ℕ → ℕ → List ℕ → List (List Colour)
raster_rows width zero bytes = []
raster_rows width (suc height) bytes =
    unpacked_row width (take (packed_len width) bytes)
    ∷ raster_rows width height (drop (packed_len width) bytes)

-- the bytes begin with this image, and the rest is what follows it
pub record IsImage (bytes : List ℕ) (image : Image) (rest : List ℕ) : Type 0 where
  pub height : ℕ
  pub raster : List ℕ
  pub head : IsHead bytes image.width height (raster ++ rest)
  pub within : IsTrue (is_within_limits image.width height)
  pub whole : length raster ≡ height * packed_len image.width
  pub rows_are : image.rows ≡ raster_rows image.width height raster

-- the bytes begin with no image, for this fault (ours)
abbrev pub IsImageFault : List ℕ → PbmFault → Type 0
IsImageFault bytes BadHeader =
    (width height : ℕ) (rest : List ℕ) → IsHead bytes width height rest → ⊥
IsImageFault bytes OutOfLimits =
    (width height : ℕ) × (rest : List ℕ) × IsHead bytes width height rest
    × IsFalse (is_within_limits width height)
IsImageFault bytes ShortRaster =
    (width height : ℕ) × (rest : List ℕ) × IsHead bytes width height rest
    × IsTrue (is_within_limits width height)
    × (length rest < height * packed_len width)

-- the name of an image's fault (ours)
abbrev pub pbm_fault_name : PbmFault → List ℕ
pbm_fault_name BadHeader = codes "BadHeader"
pbm_fault_name OutOfLimits = codes "OutOfLimits"
pbm_fault_name ShortRaster = codes "ShortRaster"

-- the bytes are these images, and the end is none, or the fault of the image that would be next
abbrev pub AreImages : List ℕ → List Image → Option PbmFault → Type 0
AreImages bytes [] end =
    ((bytes ≡ []) × (end ≡ None))
    ⊎ ((fault : PbmFault) × (bytes ≢ []) × IsImageFault bytes fault × (end ≡ Some fault))
AreImages bytes (image ∷ images) end =
    (rest : List ℕ) × IsImage bytes image rest × AreImages rest images end

-- images as they are written: a header, and each row with zeros up to a whole byte (these are ours)
abbrev pub pbm_of : List Image → List ℕ
pbm_of images =
    flat_map (λ image. codes "P4\n" ++ decimal image.width ++ codes " "
    ++ decimal (length image.rows) ++ codes "\n" ++ flat_map packed_row image.rows) images
