-- What a reader of the entries of a command line may rely on: it speaks of this code alone.
use Rattle.std.specs.Prelude.{◌≡◌, ◌≢◌, ◌⊎◌, ◌||◌, ℕ, true, false, List, Option, Some}
use Rattle.std.specs.Prelude.{None, codes}
use Rattle.std.specs.Option.{ForSome}
use Rattle.std.specs.Str.{bytes_eq}
use Rattle.clap.specs.Matches.{found_of}
use Rattle.clap.specs.Simple.{App, app_of}
use Rattle.clap.specs.Walk.{Row, Text, first_of, one_of, rows_of}
use Rattle.clap.specs.declared.builder.command.Command.{Command}
use Rattle.clap.specs.declared.builder.command.Command.TheViews.{out-Command}
use Rattle.clap.specs.declared.parser.matches.ArgMatches.{ArgMatches}
use Rattle.fax_files.specs.Page.{most_rows}
use Rattle.fax_tool.specs.Grammar.{IsNumberText, most_lines}
use Rattle.fax_tool.specs.Job.{Given, HasNoCursor, IsNoUse}
use Rattle.fax_tool.specs.declared.args.WordsFault.{WordsFault}
use Rattle.fax_tool.specs.declared.args.WordsFault.TheVariants.{Memory, NotACursor, Usage}
use Rattle.fax_tool.specs.Text.{Cursor}
use Rattle.fax_walk.specs.Pages.{IsCursor, IsLongCursor, LongCursorValue, cursor_text}
use Rattle.fax_walk.specs.Pages.{long_cursor_text}

-- a parse reads the command as this one
abbrev pub IsApp : Command → App → Type 0
IsApp c a = (app_of c ≡ a) × ((out-Command c).has_globals ≡ false)

-- the entries of some matches
abbrev pub entries_of : ArgMatches → List Row
entries_of m = rows_of (found_of m)

-- the text that the entries give for a name
abbrev pub given_by : List Row → Text → Option Text
given_by entries name = first_of name entries

-- the entry of a name, where there is one, is such a number, and is read as it is written
pub record HasNumber (name : Text) (most : ℕ) (entries : List Row) : Type 0 where
  pub read : one_of name entries ≡ first_of name entries
  pub is : ForSome (first_of name entries) (IsNumberText most)

-- the entry of a flag, where there is one, is one of two words, and is read as it is written
abbrev pub HasFlag : Text → List Row → Type 0
HasFlag name entries = (one_of name entries ≡ first_of name entries)
    × ((first_of name entries ≡ None) ⊎ (first_of name entries ≡ Some (codes "true"))
    ⊎ (first_of name entries ≡ Some (codes "false")))

-- the numbers of a command that writes pages are in their ranges
pub record HasOptions (entries : List Row) : Type 0 where
  pub order : HasNumber (codes "order") 2 entries
  pub k : HasNumber (codes "k") most_rows entries
  pub strip : HasNumber (codes "strip") most_rows entries
  pub align : HasFlag (codes "align") entries

-- what the entries after a command's name have, and which names there are
pub record HasEntries (name : Text) (entries : List Row) : Type 0 where
  pub list : bytes_eq name (codes "list") ≡ true → HasNumber (codes "max") most_lines entries
  pub rows : bytes_eq name (codes "rows") ≡ true
      → HasNumber (codes "max") most_lines entries × HasFlag (codes "long") entries
  pub convert : bytes_eq name (codes "convert") ≡ true → HasOptions entries
  pub check : bytes_eq name (codes "check") ≡ true → HasFlag (codes "received") entries
  pub salvage : bytes_eq name (codes "salvage") ≡ true → HasOptions entries
  pub known : (bytes_eq name (codes "list") || (bytes_eq name (codes "rows")
      || (bytes_eq name (codes "convert") || (bytes_eq name (codes "check")
      || bytes_eq name (codes "salvage"))))) ≡ true

-- a text is that of no cursor, of no long one
abbrev pub IsNoCursor : Text → Type 0
IsNoCursor text = (at : Cursor) → IsCursor at → text ≢ cursor_text at

abbrev pub IsNoLongCursor : Text → Type 0
IsNoLongCursor text = (place : LongCursorValue) → IsLongCursor place → text ≢ long_cursor_text place

-- a command's name and what is given after it give no command, but this fault
abbrev pub IsCommandFault : Text → Given → WordsFault → Type 0
IsCommandFault name given Usage = IsNoUse name given
IsCommandFault name given NotACursor = HasNoCursor name given
IsCommandFault name given Memory = Unit {0}
