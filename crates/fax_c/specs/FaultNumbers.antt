-- The numbers of faults, as `faxpages.h` has them. A number never changes its meaning.
-- A definition without a citation is this project's profile.
use Rattle.std.specs.Prelude.{ℕ}
use Rattle.fax_page.specs.declared.StripFault.TheVariants as strip
use Rattle.fax_files.specs.declared.pbm.PbmFault.{PbmFault}
use Rattle.fax_files.specs.declared.pbm.PbmFault.TheVariants as pbm
use Rattle.fax_files.specs.declared.FileFault.TheVariants as file
use Rattle.fax_files.specs.declared.Cause.{Cause}
use Rattle.fax_files.specs.declared.Cause.TheVariants.{File, Strip}

-- the number of a cause
abbrev pub fault_number : Cause → ℕ
fault_number (File file.ShortHeader) = 1
fault_number (File file.ByteOrder) = 2
fault_number (File file.Magic) = 3
fault_number (File file.NoDirectory) = 4
fault_number (File file.DirectoryOutside) = 5
fault_number (File file.DirectoryLoop) = 6
fault_number (File (file.MissingField tag)) = 7
fault_number (File (file.BadField tag)) = 8
fault_number (File (file.Unsupported tag)) = 9
fault_number (File (file.OutOfLimits tag)) = 10
fault_number (File file.StripOutside) = 11
fault_number (Strip strip.DataEnds) = 101
fault_number (Strip strip.BadCode) = 102
fault_number (Strip strip.Extension) = 103
fault_number (Strip strip.RunTooLong) = 104
fault_number (Strip strip.OutOfRow) = 105
fault_number (Strip strip.MissingEol) = 106
fault_number (Strip strip.EndMarker) = 107

-- the number of rows of a strip of unknown height, where they are more than a strip has
abbrev pub too_many_rows_number : ℕ
too_many_rows_number = 108

-- the number of a fault of a raw PBM
abbrev pub pbm_fault_number : PbmFault → ℕ
pbm_fault_number pbm.BadHeader = 201
pbm_fault_number pbm.OutOfLimits = 202
pbm_fault_number pbm.ShortRaster = 203

-- the number of bytes that are neither raw PBM nor TIFF
abbrev pub unknown_input_number : ℕ
unknown_input_number = 301

-- the number of an output that is too large
abbrev pub output_too_large_number : ℕ
output_too_large_number = 302
