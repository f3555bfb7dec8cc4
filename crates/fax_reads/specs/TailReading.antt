-- What is returned from a cursor or a place inside a strip on, by functions. All of it is this
-- project's profile.
use Rattle.std.specs.Prelude.{ℕ, ◌+◌, ◌*◌, ◌/◌, ◌%◌, nat_le, nat_lt, ◌==◌, ◌&&◌, Bool, true}
use Rattle.std.specs.Prelude.{if◌then◌else◌, List, [], length, drop, Option, Some, None, Result, Ok}
use Rattle.std.specs.Prelude.{Err, bytes_eq}
use Rattle.fax_rows.specs.Rows.{White, pels_of_runs, runs_of}
use Rattle.fax_files.specs.Page.{strip_bytes}
use Rattle.fax_walk.specs.declared.walk_start.WalkStart.{WalkStart}
use Rattle.fax_walk.specs.declared.walk_start.WalkStart.TheVariants.{AtCursor, AtLongCursor}
use Rattle.fax_walk.specs.declared.cursor.Cursor.{Cursor}
use Rattle.fax_walk.specs.declared.end.End.{End}
use Rattle.fax_walk.specs.declared.end.End.TheVariants.{Outside}
use Rattle.fax_walk.specs.Pages.{FilePage, FormItem, LongCursorValue, first_page, read_page}
use Rattle.fax_walk.specs.Items.{RowItem, RowPosition, start_cursor, first_at, position_at}
use Rattle.fax_files.specs.Directory.{◌>>=◌}
use Rattle.fax_reads.specs.Files.{AllRead, forms_from, rows_from}

-- the bits of a place are in the strip, and its runs the longest ones of a row of the width; both
-- are looked at only where the strip lies in the file
abbrev pub fits_strip : ℕ → Option (List ℕ) → LongCursorValue → Bool
fits_strip width None place = true
fits_strip width (Some bytes) place =
    let pels = pels_of_runs White place.runs in
    nat_le place.bits (8 * length bytes)
    && ((length pels == width) && bytes_eq (runs_of pels) place.runs)

-- a place inside a strip is one of this page
abbrev pub is_inner_on : List ℕ → FilePage → LongCursorValue → Bool
is_inner_on file here place =
    let form = here.form in
    let bytes = strip_bytes here.endian file here.offset (place.at.row / form.rows_per_strip) in
    nat_lt place.at.row form.rows
    && (nat_lt 0 (place.at.row % form.rows_per_strip) && fits_strip form.width bytes place)

-- where a walk begins on a page, and how many rows it reads there that it does not return
abbrev pub begin_on : List ℕ → WalkStart → FilePage → Result (RowPosition × ℕ) End
begin_on file (AtCursor at) here =
    let in_strip = here.form.rows_per_strip in
    if nat_lt at.row here.form.rows
    then Ok (first_at at.page (at.row / in_strip * in_strip), at.row % in_strip)
    else (if at.row == here.form.rows then Ok (first_at (at.page + 1) 0, 0) else Err Outside)
begin_on file (AtLongCursor place) here =
    if is_inner_on file here place then Ok (position_at place, 0) else Err Outside

-- what a walk returns that begins so
abbrev pub tail_from : List ℕ → Result (RowPosition × ℕ) End → AllRead RowItem
tail_from file (Err end) = record { items = []; end = end }
tail_from file (Ok from) =
    let all = rows_from file from.0 in record { items = drop from.1 all.items; end = all.end }

abbrev pub read_tail : List ℕ → WalkStart → AllRead RowItem
read_tail file origin =
    tail_from file (read_page file (start_cursor origin) >>= begin_on file origin)

-- what a reader of pages returns
abbrev pub form_tail_from : List ℕ → Result ℕ End → AllRead FormItem
form_tail_from file (Err end) = record { items = []; end = end }
form_tail_from file (Ok p) = forms_from file p

abbrev pub read_form_tail : List ℕ → Cursor → AllRead FormItem
read_form_tail file at = form_tail_from file (first_page file at)
