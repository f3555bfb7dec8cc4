-- The laws of raw PBM: what is written is read back, and bytes are read in one way.
-- A definition without a citation is this project's profile.
use Rattle.std.specs.Prelude.{◌≡◌, ℕ, List, [], ◌∷◌, length, Option, None, IsTrue}
use Rattle.fax_bits.specs.declared.Colour.{Colour}
use Rattle.fax_bits.specs.laws.Codes.{HasOneAnswer}
use Rattle.fax_files.specs.declared.pbm.PbmFault.{PbmFault}
use Rattle.fax_files.specs.Pbm.{Image, IsImage, AreImages, is_within_limits, pbm_of}

-- rows of this width
abbrev pub AreOfWidth : ℕ → List (List Colour) → Type 0
AreOfWidth width [] = Unit {0}
AreOfWidth width (row ∷ rows) = (length row ≡ width) × AreOfWidth width rows

-- an image that can be written: one within the limits, of rows of its width
pub record IsWritableImage (image : Image) : Type 0 where
  pub within : IsTrue (is_within_limits image.width (length image.rows))
  pub rows : AreOfWidth image.width image.rows

-- images that can be written, or none
abbrev pub AreWritableImages : List Image → Type 0
AreWritableImages [] = Unit {0}
AreWritableImages (image ∷ images) = IsWritableImage image × AreWritableImages images

-- images that are written are read back, and nothing else after them (the netpbm format, P4)
abbrev pub WrittenImagesAreRead : Type 0
WrittenImagesAreRead =
    (images : List Image) → AreWritableImages images → AreImages (pbm_of images) images None

-- bytes have one list of images, and one end (the netpbm format, P4, in this project's profile)
abbrev pub ImagesAreReadInOneWay : Type 0
ImagesAreReadInOneWay =
    (bytes : List ℕ) (images others : List Image) (end other : Option PbmFault)
    → AreImages bytes images end → AreImages bytes others other → (images ≡ others) × (end ≡ other)

-- bytes begin with at most one image, and one rest follows it
-- (the netpbm format, P4, in this project's profile)
abbrev pub ImagesBeginInOneWay : Type 0
ImagesBeginInOneWay = HasOneAnswer IsImage
