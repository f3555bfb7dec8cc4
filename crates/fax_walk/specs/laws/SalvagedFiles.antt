-- Laws of salvaged files, which functions of the module `laws` prove.
-- A definition without a citation is this project's profile.
use Rattle.std.specs.Prelude.{◌≡◌, ◌≢◌, ℕ, ◌<◌, All, List, None, MatchResult, ⊤}
use Rattle.fax_files.specs.BadRows.{received}
use Rattle.fax_files.specs.Directory.{header, read_chain}
use Rattle.fax_walk.specs.declared.options.Options.{Options}
use Rattle.fax_walk.specs.declared.options.Target.TheVariants as To
use Rattle.fax_walk.specs.Converted.{IsConverted, IsTiff, SourcePage}
use Rattle.fax_walk.specs.SalvagedFile.{IsSalvagedSource, IsSalvagedTo, bad_rows}
use Rattle.fax_walk.specs.laws.ReadBack.{AreReadBack}

-- the pages of a file as they are salvaged are one list
abbrev pub FilesAreSalvagedToOne : Type 0
FilesAreSalvagedToOne =
    (file : List ℕ) (pages others : List SourcePage)
    → IsSalvagedSource file pages → IsSalvagedSource file others → pages ≡ others

-- what a file is salvaged to is read back as its pages: a PBM has their images and no fault, and a
-- TIFF file their rows, those that are found and white ones, and the forms that were asked for
abbrev pub SalvagedFilesAreReadBack : Type 0
SalvagedFilesAreReadBack =
    (file : List ℕ) (options : Options) (output : List ℕ) → All (λ byte. byte < 256) file
    → (salvaged : IsSalvagedTo file options output)
    → AreReadBack options.target options salvaged.pages output

-- a TIFF file that a file was salvaged to is salvaged by the same options to itself
abbrev pub SalvagedFilesStay : Type 0
SalvagedFilesStay =
    (file : List ℕ) (options : Options) (output : List ℕ) → All (λ byte. byte < 256) file
    → options.target ≢ To.Pbm → IsSalvagedTo file options output
    → IsSalvagedTo output options output

-- no page of a file says that its receiver counted bad rows, or put others in their places
-- (RFC 2306, BadFaxLines and CleanFaxData)
abbrev pub SaysNoBadRows : List ℕ → Type 0
SaysNoBadRows file =
    MatchResult (header file)
    (λ head. All (λ q. bad_rows 0 0 (received head.endian file q) ≡ None)
    (read_chain head file).offsets)
    (λ fault. ⊤)

-- a TIFF file that is converted, so that nothing of it is lost, and that says no bad rows, is
-- salvaged to what it is converted to
abbrev pub WholeFilesAreConverted : Type 0
WholeFilesAreConverted =
    (file : List ℕ) (options : Options) (output : List ℕ) → IsTiff file → SaysNoBadRows file
    → IsConverted file options output → IsSalvagedTo file options output
