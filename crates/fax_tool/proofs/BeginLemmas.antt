-- What a part begins with, as the text of a cursor or of a long cursor names it.
use Rattle.std.proofs.Common.{arith, ◌≡◌, ap, sym, Option}
use Rattle.std.specs.Prelude.{MatchOption}
use Rattle.std.specs.Option.{option_map_or}
use Rattle.fax_walk.specs.Items.{start_cursor, start_text}
use Rattle.fax_walk.specs.Pages.{LongCursorValue, start}
use Rattle.fax_tool.specs.Grammar.{Text}
use Rattle.fax_tool.specs.Text.{AtCursor, WalkStart, Cursor, AtLongCursor}
use Rattle.fax_walk.specs.views.Walk.{start_place}
use Rattle.fax_walk.specs.laws.Cursors.{TextsNameOne}
use Rattle.fax_tool.specs.laws.Runs.{IsStartInRange}

-- what a run begins with: the place inside a strip, where there is one, else the cursor
abbrev pub started_at : Option LongCursorValue → Cursor → WalkStart
started_at place at = option_map_or AtLongCursor place (AtCursor at)

-- this text, where there is one, names what a run begins with; else it begins at the first cursor
abbrev pub StartsBy : Option Text → WalkStart → Type 0
StartsBy given origin = MatchOption given (origin ≡ AtCursor start) (λ text. text ≡ start_text origin)

-- and what begins so has this cursor, and this place inside a strip
abbrev pub Begins : Option Text → Cursor → Option LongCursorValue → Type 0
Begins o at from = StartsBy o (started_at from at) × (at ≡ start_cursor (started_at from at))

-- the place inside a strip of what is started so
pub inside_of : (place : Option LongCursorValue) (at : Cursor) → start_place (started_at place at) ≡ place
inside_of place at = grind arith

-- what a run begins with has one text
pub one_started : TextsNameOne → (origin other : WalkStart) → IsStartInRange origin → IsStartInRange other
    → start_text origin ≡ start_text other → origin ≡ other
one_started names (AtCursor at) (AtCursor other) is is_too e = ap AtCursor (names.cursors at other is is_too e)
one_started names (AtCursor at) (AtLongCursor place) is is_too e = absurd (names.apart at place e)
one_started names (AtLongCursor place) (AtCursor at) is is_too e = absurd (names.apart at place (sym e))
one_started names (AtLongCursor place) (AtLongCursor other) is is_too e = ap AtLongCursor (names.places place other is
    is_too e)
