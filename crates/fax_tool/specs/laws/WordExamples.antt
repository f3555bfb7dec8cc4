-- What some words give, and some that are those of no command.
use Rattle.std.specs.Prelude.{◌≡◌, ◌==◌, ℕ, true, false, List, [], ◌∷◌, ◌++◌, Option, Some, None}
use Rattle.std.specs.Prelude.{codes}
use Rattle.std.specs.List.{slice_split}
use Rattle.fax_walk.specs.declared.options.Target.TheVariants.{Mh}
use Rattle.fax_tool.specs.Grammar.{AreOfCommand, AreOfNoCommand, Text, Use, text_in}
use Rattle.fax_tool.specs.Job.{Given, is_set, number_in, target_in}

-- the words of a line, which are parted by single blanks (32)
abbrev pub words_of : List ℕ → List Text
words_of line = slice_split (λ character. character == 32) (codes "faxpages " ++ line)

-- they are those of a command, and this view of what is given after its name has this value
pub record Gives {A : Type 0} (line : List ℕ) (view : Given → A) (value : A) : Type 0 where
  pub name : Text
  pub uses : List Use
  pub are : AreOfCommand (words_of line) name uses
  pub gives : view (text_in uses) ≡ value

-- they are those of no command
abbrev pub GivesNothing : List ℕ → Type 0
GivesNothing line = AreOfNoCommand (words_of line)

-- the text that is given for a name
abbrev pub text : Text → Given → Option Text
text name given = given name

-- each option in each spelling
pub record AreSpellingsRead : Type 0 where
  pub cursor : Gives (codes "list --cursor 1:2:3") (text (codes "cursor")) (Some (codes "1:2:3"))
  pub cursor_joined : Gives (codes "rows --cursor=1:2:3") (text (codes "cursor"))
      (Some (codes "1:2:3"))
  pub cursor_hyphen : Gives (codes "list --cursor -") (text (codes "cursor")) (Some (codes "-"))
  pub cursor_empty : Gives (codes "list --cursor=") (text (codes "cursor")) (Some [])
  pub max : Gives (codes "list --max 3") (number_in (codes "max")) (Some 3)
  pub max_joined : Gives (codes "rows --max=3") (number_in (codes "max")) (Some 3)
  pub max_plus : Gives (codes "list --max=+007") (number_in (codes "max")) (Some 7)
  pub long : Gives (codes "rows --long") (is_set (codes "long")) true
  pub not_long : Gives (codes "rows") (is_set (codes "long")) false
  pub mh : Gives (codes "convert -o mh") target_in (Some Mh)
  pub mh_attached : Gives (codes "convert -omh") target_in (Some Mh)
  pub mh_joined : Gives (codes "convert -o=mh") target_in (Some Mh)
  pub order : Gives (codes "convert -omh --order 2") (number_in (codes "order")) (Some 2)
  pub order_joined : Gives (codes "convert --order=2 -omh") (number_in (codes "order")) (Some 2)
  pub k : Gives (codes "convert -omr --k 8") (number_in (codes "k")) (Some 8)
  pub k_joined : Gives (codes "convert -omr --k=8") (number_in (codes "k")) (Some 8)
  pub strip : Gives (codes "convert -omh --strip 64") (number_in (codes "strip")) (Some 64)
  pub strip_joined : Gives (codes "convert -omh --strip=64") (number_in (codes "strip")) (Some 64)
  pub align : Gives (codes "convert --align -omh") (is_set (codes "align")) true
  pub received : Gives (codes "check --received a.tif") (is_set (codes "received")) true
  pub not_received : Gives (codes "check a.tif") (is_set (codes "received")) false
  pub file : Gives (codes "check a.tif") (text (codes "FILE")) (Some (codes "a.tif"))
  pub file_first : Gives (codes "list a.tif --max 3") (text (codes "FILE")) (Some (codes "a.tif"))
  pub file_after : Gives (codes "rows -- -x") (text (codes "FILE")) (Some (codes "-x"))
  pub file_hyphen : Gives (codes "list -") (text (codes "FILE")) (Some (codes "-"))
  pub no_file : Gives (codes "list") (text (codes "FILE")) None
  pub salvage : Gives (codes "salvage a.tif") (text (codes "FILE")) (Some (codes "a.tif"))

-- words that no command has, and words without a target
pub record AreNotTaken : Type 0 where
  pub none : AreOfNoCommand (codes "faxpages" ∷ [])
  pub name : GivesNothing (codes "row")
  pub help : GivesNothing (codes "--help")
  pub help_of_rows : GivesNothing (codes "rows --help")
  pub help_of_salvage : GivesNothing (codes "salvage --help")
  pub version_of_rows : GivesNothing (codes "rows --version")
  pub command_after_version : GivesNothing (codes "--version list")
  pub command_after : GivesNothing (codes "-- list")
  pub one_file : GivesNothing (codes "list a b")
  pub no_value : GivesNothing (codes "list --max")
  pub value : GivesNothing (codes "list --cursor --max=3")
  pub once : GivesNothing (codes "list --cursor=a --cursor=a")
  pub zero : GivesNothing (codes "list --max=0")
  pub too_many : GivesNothing (codes "rows --max=4294967296")
  pub k : GivesNothing (codes "convert -omr --k=1000001")
  pub order : GivesNothing (codes "convert -omr --order=3")
  pub long : GivesNothing (codes "list --long")
  pub received : GivesNothing (codes "rows --received")
  pub flag_value : GivesNothing (codes "rows --long=true")
  pub no_target : Gives (codes "convert a") target_in None
