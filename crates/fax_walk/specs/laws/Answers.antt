-- What is converted, and what is reported, has one answer, which the function `answers_are_one` of
-- the module `laws` proves.
-- A definition without a citation is this project's profile.
use Rattle.std.specs.Prelude.{◌≡◌, Bool, ℕ, List}
use Rattle.fax_walk.specs.declared.checking.Report.{Report}
use Rattle.fax_walk.specs.declared.options.ConvertFault.{ConvertFault}
use Rattle.fax_walk.specs.declared.options.Options.{Options}
use Rattle.fax_walk.specs.Converted.{IsConverted, IsNotConverted}
use Rattle.fax_walk.specs.Report.{IsReport}

-- bytes are converted to one output, or refused for one fault, and not both
pub record AreConvertedInOneWay (bytes : List ℕ) (options : Options) : Type 0 where
  pub one_output : (output other : List ℕ)
      → IsConverted bytes options output → IsConverted bytes options other → output ≡ other
  pub output_has_no_fault : (output : List ℕ) (fault : ConvertFault)
      → IsConverted bytes options output → ¬ IsNotConverted bytes options fault
  pub one_fault : (fault other : ConvertFault)
      → IsNotConverted bytes options fault → IsNotConverted bytes options other → fault ≡ other

abbrev pub BytesAreConvertedInOneWay : Type 0
BytesAreConvertedInOneWay =
    (bytes : List ℕ) (options : Options) → AreConvertedInOneWay bytes options

-- two reports say the same
pub record SayTheSame (report other : Report) : Type 0 where
  pub notes : report.notes.items ≡ other.notes.items
  pub pages : report.pages ≡ other.pages
  pub rows : report.rows ≡ other.rows
  pub fault : report.fault ≡ other.fault

-- a file has one report, with what receivers counted, and one without it
abbrev pub FilesHaveOneReport : Type 0
FilesHaveOneReport =
    (with_received : Bool) (file : List ℕ) (report other : Report)
    → IsReport with_received file report → IsReport with_received file other
    → SayTheSame report other
