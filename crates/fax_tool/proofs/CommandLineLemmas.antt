-- What a command is read as that has no help, and to which an argument, or a command of its own,
-- was added.
use Rattle.std.proofs.Common.{◌≡◌, ◌∙◌, ◌||◌, ap, ap₂, true, false}
use Rattle.clap.specs.Built.{AddsArg, AddsSubcommand}
use Rattle.clap.specs.Simple.{App, Shape, app_of, app_of_fields, new_app, on_top, with_rule, with_subcommand}
use Rattle.clap.specs.Walk.{Rule, Text, rule_of}
use Rattle.clap.specs.declared.builder.arg.Arg.{Arg}
use Rattle.clap.specs.declared.builder.command.Command.{Command}
use Rattle.clap.specs.declared.builder.command.Command.TheOpen.{Command-F}
use Rattle.clap.specs.declared.builder.command.Command.TheViews.{out-Command}
use Rattle.fax_tool.specs.code.CommandLine.{bare_app}
use Rattle.fax_tool.specs.code.CommandEntries.{IsApp}

pub bare : (new old : Command) {name : Text} → out-Command new ≡ record (out-Command old) { disable_help_flag = true }
    → app_of old ≡ new_app name → (out-Command old).has_globals ≡ false → IsApp new (bare_app name)
bare new old is app local = (
  ap app_of_fields is ∙ ap (on_top (λ s. record s { disable_help_flag = true })) app,
  ap (λ (fields : Command-F Command). fields.has_globals) is ∙ local,
)

-- a command that has no help and stands before another one
abbrev command_settings : Shape → Shape
command_settings s =
    record s { disable_help_flag = true; disable_help_subcommand = true; subcommand_required = true }

abbrev needing_command : Command-F Command → Command-F Command
needing_command fields =
    record fields { disable_help_flag = true; disable_help_subcommand = true; subcommand_required = true }

abbrev pub command_app : Text → App
command_app name = on_top command_settings (new_app name)

pub needs_command : (last middle first old : Command) {name : Text}
    → out-Command last ≡ record (out-Command middle) { subcommand_required = true }
    → out-Command middle ≡ record (out-Command first) { disable_help_subcommand = true }
    → out-Command first ≡ record (out-Command old) { disable_help_flag = true }
    → app_of old ≡ new_app name → (out-Command old).has_globals ≡ false → IsApp last (command_app name)
needs_command last middle first old required no_command no_help app local =
    let is : out-Command last ≡ needing_command (out-Command old) =
    required ∙ ap (λ (fields : Command-F Command). record fields { subcommand_required = true })
    (no_command ∙ ap (λ (fields : Command-F Command). record fields { disable_help_subcommand = true }) no_help) in
    let globals = ap (λ (fields : Command-F Command). fields.has_globals) is in
    (ap app_of_fields is ∙ ap (on_top command_settings) app, globals ∙ local)

pub argument_added : {old new : Command} {arg : Arg} {app : App} {rule : Rule} → AddsArg old arg new → IsApp old app
    → arg.global ≡ false → rule_of arg ≡ rule → IsApp new (with_rule app rule)
argument_added adds is local rule = (adds.shape local ∙ ap₂ with_rule is.0 rule, adds.globals ∙ ap₂ ◌||◌ is.1 local)

pub command_added : {old new sub : Command} {app inner : App} → AddsSubcommand old sub new → IsApp old app
    → IsApp sub inner → IsApp new (with_subcommand app inner.top)
command_added adds is sub =
    (adds.shape sub.1 ∙ ap₂ with_subcommand is.0 (ap (λ (a : App). a.top) sub.0), adds.globals ∙ ap₂ ◌||◌ is.1 sub.1)
