-- The names of faults, as they are printed.
-- A definition without a citation is this project's profile.
use Rattle.std.specs.Prelude.{ℕ, List, codes, Option, Some, None}
use Rattle.fax_page.specs.declared.StripFault.TheVariants as strip
use Rattle.fax_files.specs.declared.FileFault.TheVariants as file
use Rattle.fax_files.specs.declared.Cause.{Cause}
use Rattle.fax_files.specs.declared.Cause.TheVariants.{File, Strip}
pub use Rattle.fax_page.specs.declared.StripFault.{StripFault}

-- the name of a cause
abbrev pub fault_name : Cause → List ℕ
fault_name (File file.ShortHeader) = codes "ShortHeader"
fault_name (File file.ByteOrder) = codes "ByteOrder"
fault_name (File file.Magic) = codes "Magic"
fault_name (File file.NoDirectory) = codes "NoDirectory"
fault_name (File file.DirectoryOutside) = codes "DirectoryOutside"
fault_name (File file.DirectoryLoop) = codes "DirectoryLoop"
fault_name (File (file.MissingField tag)) = codes "MissingField"
fault_name (File (file.BadField tag)) = codes "BadField"
fault_name (File (file.Unsupported tag)) = codes "Unsupported"
fault_name (File (file.OutOfLimits tag)) = codes "OutOfLimits"
fault_name (File file.StripOutside) = codes "StripOutside"
fault_name (Strip strip.DataEnds) = codes "DataEnds"
fault_name (Strip strip.BadCode) = codes "BadCode"
fault_name (Strip strip.Extension) = codes "Extension"
fault_name (Strip strip.RunTooLong) = codes "RunTooLong"
fault_name (Strip strip.OutOfRow) = codes "OutOfRow"
fault_name (Strip strip.MissingEol) = codes "MissingEol"
fault_name (Strip strip.EndMarker) = codes "EndMarker"

-- the tag of the field at fault, where a cause has one
abbrev pub fault_tag : Cause → Option ℕ
fault_tag (File (file.MissingField tag)) = Some tag
fault_tag (File (file.BadField tag)) = Some tag
fault_tag (File (file.Unsupported tag)) = Some tag
fault_tag (File (file.OutOfLimits tag)) = Some tag
fault_tag _ = None
