-- The command line of the program, as a parse reads it.
-- A definition without a citation is this project's profile.
use Rattle.std.specs.Prelude.{ℕ, pos, true, Some, codes}
use Rattle.clap.specs.Walk.{Rule, Text}
use Rattle.clap.specs.Simple.{App, new_app, new_rule, on_top, with_rule, with_subcommand}
use Rattle.clap.specs.declared.builder.action.ArgAction.TheVariants.{SetTrue}
use Rattle.clap.specs.declared.builder.value_parser.ValueParser.{ValueParser}
use Rattle.clap.specs.declared.builder.value_parser.ValueParser.TheVariants.{Signed}
use Rattle.fax_files.specs.Page.{most_rows}
use Rattle.fax_tool.specs.Grammar.{most_lines}

-- a word that is no option: the file
abbrev pub file_rule : Rule
file_rule = new_rule (codes "FILE")

-- `--name VALUE`
abbrev pub text_rule : Text → Rule
text_rule name = record (new_rule name) { long = Some name }

-- `--name VALUE`, of a value that the parser takes
abbrev pub value_rule : Text → ValueParser → Rule
value_rule name parser = record (new_rule name) { long = Some name; parser = Some parser }

-- `--name N`, of 1 up to the most
abbrev pub number_rule : Text → ℕ → Rule
number_rule name most = value_rule name (Signed (pos 1) (pos most))

-- `--name`
abbrev pub flag_rule : Text → Rule
flag_rule name = record (new_rule name) { long = Some name; action = Some SetTrue }

-- `-o TARGET`
abbrev pub target_rule : Rule
target_rule = record (new_rule (codes "o")) { short = Some 111 }

-- a command that has no help
abbrev pub bare_app : Text → App
bare_app name = on_top (λ s. record s { disable_help_flag = true }) (new_app name)

-- a command that prints a part of a file
abbrev pub printing_app : Text → App
printing_app name = with_rule (with_rule (with_rule (bare_app name)
    (text_rule (codes "cursor"))) (number_rule (codes "max") most_lines)) file_rule

abbrev pub rows_app : App
rows_app = with_rule (printing_app (codes "rows")) (flag_rule (codes "long"))

-- a command that writes pages, with the options that say how rows are coded
abbrev pub coding_app : Text → App
coding_app name = with_rule (with_rule (with_rule (bare_app name) target_rule)
    (number_rule (codes "order") 2)) (number_rule (codes "k") most_rows)

abbrev pub writing_app : Text → App
writing_app name = with_rule (with_rule (with_rule (coding_app name)
    (number_rule (codes "strip") most_rows)) (flag_rule (codes "align"))) file_rule

-- a command whose words name a file alone
abbrev pub file_app : Text → App
file_app name = with_rule (bare_app name) file_rule

abbrev pub check_app : App
check_app = with_rule (file_app (codes "check")) (flag_rule (codes "received"))

-- the program with the commands that print a part of a file
abbrev pub printers_app : App
printers_app = with_subcommand (with_subcommand
    (on_top (λ s. record s {
      disable_help_flag = true;
      disable_help_subcommand = true;
      subcommand_required = true;
    }) (new_app (codes "faxpages")))
    (printing_app (codes "list")).top) rows_app.top

-- the program: one of five commands
abbrev pub faxpages_app : App
faxpages_app = with_subcommand (with_subcommand (with_subcommand printers_app
    (writing_app (codes "convert")).top) check_app.top) (writing_app (codes "salvage")).top
