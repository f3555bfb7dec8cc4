-- Worked images, and what the relation says of them. Each answer was worked out by the netpbm
-- format and this project's profile, so a wrong definition is an example that does not hold.
use Rattle.std.specs.Prelude.{ℕ, List, [], ◌∷◌, ◌++◌, map, codes, Option, Some, None}
use Rattle.fax_files.specs.declared.pbm.PbmFault.{PbmFault}
use Rattle.fax_files.specs.declared.pbm.PbmFault.TheVariants.{BadHeader, OutOfLimits, ShortRaster}
use Rattle.fax_files.specs.Pbm.{Image, AreImages}
use Rattle.fax_reads.specs.laws.Examples.{pels}

-- an image of this width, with pels that texts spell
abbrev pub spelled_image : ℕ → List (List ℕ) → Image
spelled_image width rows = record { width = width; rows = map pels rows }

-- an image of one row of 8 pels
abbrev pub one_row : List ℕ
one_row = codes "P4\n8 1\n" ++ 0x18 ∷ []

-- the bytes are these images, and this is their end
pub record HasImages (bytes : List ℕ) (images : List Image) (end : Option PbmFault) : Type 0 where
  pub are : AreImages bytes images end

-- a header and a byte are one row of 8 pels, which a text spells
abbrev pub HasRow : List ℕ → ℕ → List ℕ → Type 0
HasRow head byte row = HasImages (head ++ byte ∷ []) (spelled_image 8 (row ∷ []) ∷ []) None

-- bytes that hold no image, for this fault
abbrev pub IsImageRefused : List ℕ → PbmFault → Type 0
IsImageRefused bytes fault = HasImages bytes [] (Some fault)

-- images, and gaps and numbers of all forms
pub record AreWholeImages : Type 0 where
  pub no_bytes : HasImages [] [] None
  pub row : HasImages one_row (spelled_image 8 (codes "WWWBBWWW" ∷ []) ∷ []) None
  pub two_images : HasImages (one_row ++ codes "P4\n4 2\n" ++ 0x60 ∷ 0x9F ∷ [])
      (spelled_image 8 (codes "WWWBBWWW" ∷ []) ∷ spelled_image 4
      (codes "WBBW" ∷ codes "BWWB" ∷ []) ∷ []) None
  pub two_bytes_a_row : HasImages (codes "P4\n9 2\n" ++ 0xFF ∷ 0x00 ∷ 0x00 ∷ 0x80 ∷ [])
      (spelled_image 9 (codes "BBBBBBBBW" ∷ codes "WWWWWWWWB" ∷ []) ∷ [])
      None
  pub comment : HasRow (codes "P4\n# 9 9\n8 1\n") 0x18 (codes "WWWBBWWW")
  pub comments_for_gaps : HasRow (codes "P4#\n8#" ++ 13 ∷ codes "1 ") 0x18 (codes "WWWBBWWW")
  pub white_space : HasRow (codes "P4 " ++ 9 ∷ 11 ∷ 12 ∷ 13 ∷ codes "\n8\n\n1 ") 0x18
      (codes "WWWBBWWW")
  pub leading_zeros : HasRow (codes "P4 008 01\n") 0x18 (codes "WWWBBWWW")
  pub row_of_white_space : HasRow (codes "P4 8 1\n") 10 (codes "WWWWBWBW")
  pub row_of_a_hash : HasRow (codes "P4 8 1\n") 35 (codes "WWBWWWBB")

-- inputs for each fault
pub record AreFaultsOfImages : Type 0 where
  pub magic_alone : IsImageRefused (codes "P4") BadHeader
  pub no_height : IsImageRefused (codes "P4 8\n") BadHeader
  pub no_space : IsImageRefused (codes "P4 8 1") BadHeader
  pub plain : IsImageRefused (codes "P1 8 1\n") BadHeader
  pub no_gap : IsImageRefused (codes "P48 1\n") BadHeader
  pub no_number : IsImageRefused (codes "P4 -8 1\n") BadHeader
  pub open_comment : IsImageRefused (codes "P4 # 8 1 ") BadHeader
  pub comment_before_rows : IsImageRefused (codes "P4 8 1#\n") BadHeader
  pub after_an_image : HasImages (one_row ++ codes "\n")
      (spelled_image 8 (codes "WWWBBWWW" ∷ []) ∷ [])
      (Some BadHeader)
  pub no_pels : IsImageRefused (codes "P4 0 1\n") OutOfLimits
  pub too_many_pels : IsImageRefused (codes "P4 65536 1\n") OutOfLimits
  pub no_rows : IsImageRefused (codes "P4 1 0\n") OutOfLimits
  pub too_many_rows : IsImageRefused (codes "P4 1 1000001\n") OutOfLimits
  pub most_pels_and_rows : IsImageRefused (codes "P4 65535 1000000\n") ShortRaster
  pub rows_are_missing : IsImageRefused (codes "P4\n8 1\n") ShortRaster
  pub row_is_cut : IsImageRefused (codes "P4\n9 1\n" ++ 0 ∷ []) ShortRaster

-- all of them
pub record AreImagesRead : Type 0 where
  pub whole : AreWholeImages
  pub faults : AreFaultsOfImages
