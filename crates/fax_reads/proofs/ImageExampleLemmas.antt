-- The worked images, computed.
use Rattle.std.proofs.Common.{◌≡◌, ℕ, List, Option, refl}
use Rattle.fax_bits.specs.Bits.{bits, byte_bits, code_bits}
use Rattle.fax_rows.specs.Coded.{unpacked_row}
use Rattle.fax_files.specs.declared.pbm.PbmFault.{PbmFault}
use Rattle.fax_files.specs.Pbm.{Image}
use Rattle.fax_reads.specs.Images.{read_images}
use Rattle.fax_reads.specs.laws.Images.{ImagesAreReadByFunctions}
use Rattle.fax_reads.specs.laws.ImageExamples.{AreWholeImages, AreFaultsOfImages, AreImagesRead, HasImages}

module _ (read : ImagesAreReadByFunctions) where
  are : (bytes : List ℕ) (images : List Image) (end : Option PbmFault)
      → read_images bytes ≡ record { images = images; end = end } → HasImages bytes images end
  are bytes images end is = record { are = (read.images bytes images end).1 is }

  whole : AreWholeImages
  unfolding bits byte_bits code_bits unpacked_row
  whole = record {
    no_bytes = are _ _ _ refl;
    row = are _ _ _ refl;
    two_images = are _ _ _ refl;
    two_bytes_a_row = are _ _ _ refl;
    comment = are _ _ _ refl;
    comments_for_gaps = are _ _ _ refl;
    white_space = are _ _ _ refl;
    leading_zeros = are _ _ _ refl;
    row_of_white_space = are _ _ _ refl;
    row_of_a_hash = are _ _ _ refl;
  }

  faults : AreFaultsOfImages
  unfolding bits byte_bits code_bits unpacked_row
  faults = record {
    magic_alone = are _ _ _ refl;
    no_height = are _ _ _ refl;
    no_space = are _ _ _ refl;
    plain = are _ _ _ refl;
    no_gap = are _ _ _ refl;
    no_number = are _ _ _ refl;
    open_comment = are _ _ _ refl;
    comment_before_rows = are _ _ _ refl;
    after_an_image = are _ _ _ refl;
    no_pels = are _ _ _ refl;
    too_many_pels = are _ _ _ refl;
    no_rows = are _ _ _ refl;
    too_many_rows = are _ _ _ refl;
    most_pels_and_rows = are _ _ _ refl;
    rows_are_missing = are _ _ _ refl;
    row_is_cut = are _ _ _ refl;
  }

  pub images_read : AreImagesRead
  images_read = record { whole = whole; faults = faults }
