-- Which job the words of a command line give.
-- A definition without a citation is this project's profile.
use Rattle.std.specs.Prelude.{◌≡◌, ◌≢◌, ◌⊎◌, ◌==◌, ℕ, Bool, true, false, List, Option}
use Rattle.std.specs.Prelude.{Some, None, IfSome, codes, if◌then◌else◌, unwrap_or, option_and_then}
use Rattle.std.specs.Prelude.{option_map, is_some, MatchOption, ◌||◌}
use Rattle.std.specs.Option.{option_map_or}
use Rattle.std.specs.Str.{bytes_eq}
use Rattle.std.specs.Str.Parse.{digits_value, without_leading_plus}
use Rattle.std.specs.String.{string_bytes}
use Rattle.fax_bits.specs.declared.FillOrder.{FillOrder}
use Rattle.fax_bits.specs.declared.FillOrder.TheVariants.{LsbFirst, MsbFirst}
use Rattle.fax_tool.specs.Run.{origin_of}
use Rattle.fax_tool.specs.Text.{AtCursor, Cursor}
use Rattle.fax_walk.specs.Items.{start_cursor, start_text}
use Rattle.fax_walk.specs.declared.options.Options.{Options}
use Rattle.fax_walk.specs.declared.options.Target.{Target}
use Rattle.fax_walk.specs.declared.options.Target.TheVariants.{Mh, Mmr, Mr, Pbm}
use Rattle.fax_walk.specs.Pages.{IsCursor, cursor_text, start, IsLongCursor, LongCursorValue}
use Rattle.fax_walk.specs.Pages.{long_cursor_text}
use Rattle.fax_tool.specs.Grammar.{AreOfCommand, AreOfNoCommand, AskForVersion, Text, Use, text_in}
use Rattle.fax_tool.specs.declared.args.Command.{Command}
use Rattle.fax_tool.specs.declared.args.Command.TheVariants.{Check, Convert, List as Forms, Rows}
use Rattle.fax_tool.specs.declared.args.Command.TheVariants.{Salvage, SalvageFile, Version}
use Rattle.fax_tool.specs.declared.args.Job.{Job}
use Rattle.fax_tool.specs.declared.args.Selection.{Selection}
use Rattle.fax_tool.specs.declared.args.WordsFault.{WordsFault}
use Rattle.fax_tool.specs.declared.args.WordsFault.TheVariants.{Memory, NotACursor, Usage}

-- the text that is given for a name, if one is: a flag's is `true`
abbrev pub Given : Type 0
Given = Text → Option Text

-- the number that is given for a name: digits, where a plus may stand first
abbrev pub number_in : Text → Given → Option ℕ
number_in name given =
    option_map (λ text. digits_value 10 (without_leading_plus text)) (given name)

-- a flag is among the words
abbrev pub is_set : Text → Given → Bool
is_set name given = option_map_or (λ text. bytes_eq text (codes "true")) (given name) false

-- what a text names as a target
abbrev pub target_of : Text → Option Target
target_of text =
    if bytes_eq text (codes "pbm") then Some Pbm
    else (if bytes_eq text (codes "mh") then Some Mh
    else (if bytes_eq text (codes "mr") then Some Mr
    else (if bytes_eq text (codes "mmr") then Some Mmr else None)))

-- the target that is given: `-o` has to be there
abbrev pub target_in : Given → Option Target
target_in given = option_and_then target_of (given (codes "o"))

-- 2 is the bit of value 1 first, 1 and no number the other
abbrev pub order_by : Option ℕ → FillOrder
order_by number = if unwrap_or number 1 == 2 then LsbFirst else MsbFirst

-- what is given after `list` or `rows` gives this part, with long cursors or without: it begins
-- with what the cursor's text names, if one is given, else with the first cursor
pub record IsPart (given : Given) (long : Bool) (part : Selection) : Type 0 where
  pub begins : MatchOption (given (codes "cursor")) (origin_of part ≡ AtCursor start)
      (λ text. text ≡ start_text (origin_of part))
  pub cursor : part.cursor ≡ start_cursor (origin_of part)
  pub max : part.max ≡ number_in (codes "max") given
  pub long_is : part.long ≡ long

-- what is given after `convert` or `salvage` gives these options
pub record AreOptions (given : Given) (options : Options) : Type 0 where
  pub target : target_in given ≡ Some options.target
  pub order : options.order ≡ order_by (number_in (codes "order") given)
  pub k : options.k ≡ unwrap_or (number_in (codes "k") given) 4
  pub strip : options.strip ≡ number_in (codes "strip") given
  pub aligned : options.aligned ≡ is_set (codes "align") given

-- something is given of how rows are coded
abbrev pub says_how : Given → Bool
says_how given = is_some (number_in (codes "order") given) || (is_some (number_in (codes "k") given)
    || (is_some (number_in (codes "strip") given) || is_set (codes "align") given))

-- nothing is given of how pages are written
abbrev pub HasNoOption : Given → Type 0
HasNoOption given = (given (codes "o") ≡ None) × (says_how given ≡ false)

-- a command's name and what is given after it give this command: none gives the version
abbrev pub IsCommand : Text → Given → Command → Type 0
IsCommand name given (Forms part) =
    (name ≡ codes "list") × IsPart given false part × (part.from ≡ None)
IsCommand name given (Rows part) =
    (name ≡ codes "rows") × IsPart given (is_set (codes "long") given) part
IsCommand name given (Convert options) = (name ≡ codes "convert") × AreOptions given options
IsCommand name given (Check received) =
    (name ≡ codes "check") × (received ≡ is_set (codes "received") given)
IsCommand name given Salvage = (name ≡ codes "salvage") × HasNoOption given
IsCommand name given (SalvageFile options) = (name ≡ codes "salvage") × AreOptions given options
IsCommand name given Version = ⊥

-- a command's cursor is one, as not each `Cursor` is, and so is its `LongCursorValue`, which has a
-- run
abbrev pub HasCursors : Command → Type 0
HasCursors (Forms part) = IsCursor part.cursor
HasCursors (Rows part) = IsCursor part.cursor × IfSome part.from IsLongCursor
HasCursors other = Unit {0}

-- the words are those of a command, and give this job
pub record IsJobOfCommand (words : List Text) (job : Job) : Type 0 where
  pub name : Text
  pub uses : List Use
  pub named : AreOfCommand words name uses
  pub command : IsCommand name (text_in uses) job.command
  pub cursors : HasCursors job.command
  pub file : option_map string_bytes job.file ≡ text_in uses (codes "FILE")

-- the words give this job: that of a command, or the version, which has no file
abbrev pub IsJob : List Text → Job → Type 0
IsJob words job = IsJobOfCommand words job
    ⊎ (AskForVersion words × (job.command ≡ Version) × (job.file ≡ None))

-- what is given names no target, or one without EOLs where these are to be aligned
abbrev pub HasNoTarget : Given → Type 0
HasNoTarget given = (target_in given ≡ None)
    ⊎ ((is_set (codes "align") given ≡ true)
    × ((target_in given ≡ Some Pbm) ⊎ (target_in given ≡ Some Mmr)))

-- the text of `--cursor` is that of no cursor that the command takes
pub record HasNoCursor (name : Text) (given : Given) : Type 0 where
  pub text : Text
  pub is : given (codes "cursor") ≡ Some text
  pub none : (at : Cursor) → IsCursor at → text ≢ cursor_text at
  pub command : (name ≡ codes "list") ⊎ ((name ≡ codes "rows")
      × ((place : LongCursorValue) → IsLongCursor place → text ≢ long_cursor_text place))

-- the words are those of a command, and this is so of its name and of what is given after it
pub record AreRefused (words : List Text) (why : Text → Given → Type 0) : Type 0 where
  pub name : Text
  pub uses : List Use
  pub named : AreOfCommand words name uses
  pub command : why name (text_in uses)

-- a command's name and what is given after it are no use of the command: `convert` has no target;
-- or `salvage` has none, but something is given of how pages are written
abbrev pub IsNoUse : Text → Given → Type 0
IsNoUse name given = ((name ≡ codes "convert") × HasNoTarget given)
    ⊎ ((name ≡ codes "salvage") × HasNoTarget given × (HasNoOption given → ⊥))

-- the words give no command, but this fault: Usage also where they are those of no command, and
-- so before any other; of Memory nothing can be said but that a growth was refused
abbrev pub IsJobFault : List Text → WordsFault → Type 0
IsJobFault words Usage = AreOfNoCommand words
    ⊎ AreRefused words IsNoUse
IsJobFault words NotACursor = AreRefused words HasNoCursor
IsJobFault words Memory = Unit {0}

-- the words give no job, but this fault: nor do they ask for the version
abbrev pub IsFault : List Text → WordsFault → Type 0
IsFault words fault = IsJobFault words fault × ¬ AskForVersion words
