-- The law of texts: what a command writes of a file is one text.
-- A definition without a citation is this project's profile.
use Rattle.std.specs.Prelude.{◌≡◌, ℕ, List}
use Rattle.fax_tool.specs.Run.{IsTextOf}
use Rattle.fax_tool.specs.Text.{Printed}
use Rattle.fax_tool.specs.declared.args.Command.{Command}

-- two texts of one command and file are equal
abbrev pub TextsAreOne : Type 0
TextsAreOne =
    (command : Command) (file : List ℕ) (printed other : Printed)
    → IsTextOf command file printed → IsTextOf command file other → printed ≡ other
