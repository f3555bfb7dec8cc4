-- The text of `rows` and `list`.
-- A definition without a citation is this project's profile.
use Rattle.std.specs.Prelude.{ℕ, Bool, true, false, nat_le, if◌then◌else◌, List, [], ◌∷◌, ◌++◌}
use Rattle.std.specs.Prelude.{◌+◌, flat_map, length, take, Option, Some, None, codes, decimal}
use Rattle.std.specs.Option.{option_map_or}
use Rattle.fax_rows.specs.Rows.{runs_of}
use Rattle.fax_files.specs.Page.{Coding, Mh, Mr, Mmr, fill_order_of}
use Rattle.fax_files.specs.FaultNames.{fault_name, fault_tag}
use Rattle.fax_walk.specs.declared.end.End.TheVariants.{EndOfPages, Fault, Outside}
use Rattle.fax_walk.specs.Pages.{Cause, PageForm, FormItem}
use Rattle.fax_walk.specs.Items.{RowItem, start_cursor, start_text, cursor_after, long_after}
pub use Rattle.fax_walk.specs.declared.cursor.Cursor.{Cursor}
pub use Rattle.fax_walk.specs.declared.end.End.{End}
pub use Rattle.fax_walk.specs.declared.walk_start.WalkStart.{WalkStart}
pub use Rattle.fax_walk.specs.declared.walk_start.WalkStart.TheVariants.{AtCursor, AtLongCursor}

-- a blank and the number
abbrev pub and_number : ℕ → List ℕ
and_number n = codes " " ++ decimal n

-- `row P R n n ..`: a row's place, and its runs, white first
unfoldable pub row_line_of : ℕ → ℕ → List ℕ → List ℕ
row_line_of page row runs =
    codes "row" ++ and_number page ++ and_number row ++ flat_map and_number runs ++ codes "\n"

-- a blank and the name of a coding
abbrev pub and_coding : Coding → List ℕ
and_coding Mh = codes " mh"
and_coding Mr = codes " mr"
and_coding Mmr = codes " mmr"

-- a blank and a resolution, as `204/1`
abbrev pub and_fraction : ℕ × ℕ → List ℕ
and_fraction value = and_number value.0 ++ codes "/" ++ decimal value.1

-- `page P W H C F X S xn/xd yn/yd U`: a page's number, width, rows, coding, fill order, photometric
-- interpretation, strips, resolution and its unit
unfoldable pub page_line_of : ℕ → PageForm → List ℕ
page_line_of page form =
    codes "page" ++ and_number page ++ and_number form.width ++ and_number form.rows
    ++ and_coding form.coding ++ and_number (fill_order_of form.order)
    ++ and_number (if form.exchanged then 1 else 0) ++ and_number form.strips
    ++ and_fraction form.x ++ and_fraction form.y ++ and_number form.unit ++ codes "\n"

-- a line of the output, and what the next call of the program begins with to continue after it
pub record PrintedLine : Type 0 where
  pub text : List ℕ
  pub next : WalkStart

-- the line of a row, after which a call begins inside a strip where it can, else with the cursor
abbrev pub line_of_row : RowItem → PrintedLine
line_of_row item = record {
  text = row_line_of item.page item.row (runs_of item.pels);
  next = option_map_or AtLongCursor (long_after item) (AtCursor (cursor_after item));
}

-- the line of a page
abbrev pub line_of_page : FormItem → PrintedLine
line_of_page item =
    let next : Cursor = record { page = item.page + 1; row = 0 } in
    record { text = page_line_of item.page item.form; next = AtCursor next }

-- the texts of these lines
abbrev pub texts_of : List PrintedLine → List ℕ
texts_of = flat_map (λ line. line.text)

-- what the next call begins with to continue after these lines, which began so
abbrev pub next_after : WalkStart → List PrintedLine → WalkStart
next_after origin [] = origin
next_after origin (line ∷ lines) = next_after line.next lines

-- `fault page P row R: Name`, with the tag of the field at fault after the name
unfoldable pub fault_line : ℕ → ℕ → Cause → List ℕ
fault_line page row cause =
    codes "fault page" ++ and_number page ++ codes " row" ++ and_number row ++ codes ": "
    ++ fault_name cause ++ option_map_or and_number (fault_tag cause) [] ++ codes "\n"

-- what `next` names of what the next call begins with: with `--long` all of it, else its cursor
abbrev pub named : Bool → WalkStart → WalkStart
named true origin = origin
named false origin = AtCursor (start_cursor origin)

-- `next` and where to continue
abbrev pub next_line : WalkStart → List ℕ
next_line origin = codes "next " ++ start_text origin ++ codes "\n"

-- what a command writes: its output, its error line, and its status
pub record Printed : Type 0 where
  pub output : List ℕ
  pub error : List ℕ
  pub status : ℕ

-- what is written after the lines: at a limit `next`; at a proper end `end`; at a fault `next`, and
-- the fault as an error; for a cursor outside the error alone
abbrev pub end_text : Option End → WalkStart → Printed
end_text None next = record { output = next_line next; error = []; status = 0 }
end_text (Some EndOfPages) next = record { output = codes "end\n"; error = []; status = 0 }
end_text (Some (Fault page row cause)) next =
    record { output = next_line next; error = fault_line page row cause; status = 1 }
end_text (Some Outside) next =
    record { output = []; error = codes "fault cursor: CursorOutside\n"; status = 1 }

-- the lines up to a limit, if there is one; and whether the limit cuts them, which it does too
-- where these are just as many
abbrev pub up_to : Option ℕ → List PrintedLine → List PrintedLine
up_to max lines = option_map_or (λ limit. take limit lines) max lines

abbrev pub is_cut : Option ℕ → List PrintedLine → Bool
is_cut max lines = option_map_or (λ limit. nat_le limit (length lines)) max false

-- what is written of lines, which began so, and their end, up to a limit, if there is one, with
-- long cursors or without
abbrev pub text_of : Bool → Option ℕ → WalkStart → List PrintedLine → End → Printed
text_of long max origin lines end =
    let next = named long (next_after origin (up_to max lines)) in
    let last = end_text (if is_cut max lines then None else Some end) next in
    record last { output = texts_of (up_to max lines) ++ last.output }
