-- Raw PBM is read as the relations define, and the relations hold of what is read. A function of
-- the module `laws` proves it.
use Rattle.std.specs.Prelude.{◌≡◌, ◌↔◌, ℕ, List, Option, Ok, Err}
use Rattle.fax_files.specs.declared.pbm.PbmFault.{PbmFault}
use Rattle.fax_files.specs.Pbm.{Image, IsHead, IsImage, IsImageFault, AreImages}
use Rattle.fax_reads.specs.Images.{read_head, read_image, read_images}

-- the header and the image at the start of the bytes, the fault in their place, and all images with
-- their end (the netpbm format, P4)
pub record ImagesAreReadByFunctions : Type 0 where
  pub head : (bytes : List ℕ) (width height : ℕ) (rest : List ℕ)
      → IsHead bytes width height rest
      ↔ (read_head bytes ≡ Ok (record { width = width; height = height; rest = rest }))
  pub image : (bytes : List ℕ) (image : Image) (rest : List ℕ)
      → IsImage bytes image rest ↔ (read_image bytes ≡ Ok (image, rest))
  pub fault : (bytes : List ℕ) (fault : PbmFault)
      → IsImageFault bytes fault ↔ (read_image bytes ≡ Err fault)
  pub images : (bytes : List ℕ) (images : List Image) (end : Option PbmFault)
      → AreImages bytes images end
      ↔ (read_images bytes ≡ record { images = images; end = end })
