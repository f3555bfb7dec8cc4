-- A reader of raw PBM.
use Rattle.std.specs.Prelude.{◌≡◌, ◌≢◌, ℕ, ◌++◌, List, [], Option, Some, None, codes}
use Rattle.std.specs.Prelude.{decimal}
use Rattle.fax_files.specs.declared.pbm.PbmFault.{PbmFault}
use Rattle.fax_files.specs.Pbm.{Image, IsImage, IsImageFault}
use Rattle.fax_files.specs.Pbm.{raster_rows}

-- a reader: the remaining bytes, and the fault that was returned
pub record PbmState : Type 0 where
  pub remaining : List ℕ
  pub fault : Option PbmFault

-- the image of so many rows in these bytes
abbrev pub image_of : ℕ → ℕ → List ℕ → Image
image_of width height raster = record { width = width; rows = raster_rows width height raster }

-- the image is read at the start of the remaining bytes, which then begin after it
pub record IsImageRead (old : PbmState) (image : Image) (new : PbmState) : Type 0 where
  pub before : old.fault ≡ None
  pub image_is : IsImage old.remaining image new.remaining
  pub good : new.fault ≡ None

-- no bytes are left
pub record HasNoImageLeft (old new : PbmState) : Type 0 where
  pub before : old.fault ≡ None
  pub empty : old.remaining ≡ []
  pub same : new ≡ old

-- the fault is the one that was returned, or else that of the image which would be next, and is
-- kept
pub record IsFaultAnswered (old new : PbmState) (fault : PbmFault) : Type 0 where
  pub again : (yielded : PbmFault) → old.fault ≡ Some yielded → fault ≡ yielded
  pub first : old.fault ≡ None → (old.remaining ≢ []) × IsImageFault old.remaining fault
  pub kept : new ≡ record { remaining = old.remaining; fault = Some fault }

-- an image's header as it is written (the netpbm format, P4)
abbrev pub head_bytes : ℕ → ℕ → List ℕ
head_bytes width height = codes "P4\n" ++ decimal width ++ codes " " ++ decimal height ++ codes "\n"
