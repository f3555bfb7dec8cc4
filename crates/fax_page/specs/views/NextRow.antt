-- What a call for the next row of a strip answers, where it lends the row.
use Rattle.std.specs.Prelude.{◌≡◌, ◌⊎◌, ◌<◌, Bool, List, [], Option, Some, None, Result, Ok, Err, ⊤}
use Rattle.std.specs.Borrow.{Bor, MutBor, Fml, follows_so}
use mathlib.Core.Option.{none}
use mir.Syntax.{named}
use Rattle.fax_bits.specs.declared.Colour.{Colour}
use Rattle.fax_page.specs.declared.StripFault.{StripFault}
use Rattle.fax_page.specs.contracts.reader.StripReader.{the_row}
use Rattle.fax_page.specs.Lines.{IsLine}
use Rattle.fax_page.specs.views.Reader.{StripState, bits_left}
use Rattle.fax_page.specs.views.Reader.{ReadsRow, IsAtEnd, MeetsFault, TellsAgain}

-- the reader, once the row that it lends is given back, is so
abbrev pub EndsAs : MutBor StripState → (StripState → Type 0) → Fml
EndsAs reader P =
    follows_so (the_row (record { mir = named 1; lft = [] }))
    (the_row (record { mir = named 1; lft = [] }))
    reader.ghost_name none (λ _ _. ⊤) P

-- the next row is lent, or there is no more, or the fault is reported
abbrev pub IsNextRow : StripState → Result (Option (Bor (List Colour))) StripFault → StripState
    → Type 0
IsNextRow old (Ok (Some row)) new = ReadsRow old new × (row.now ≡ new.reference)
IsNextRow old (Ok None) new = IsAtEnd old new
IsNextRow old (Err fault) new = TellsAgain old fault new ⊎ MeetsFault old fault new

-- the next row in a strip has these pels
pub record IsUpcoming (state : StripState) (pels : List Colour) : Type 0 where
  pub no_fault : state.fault ≡ None
  pub upcoming : state.row < state.form.rows
  pub rest : List Bool
  pub line : IsLine state.form state.row state.reference (bits_left state) pels rest
