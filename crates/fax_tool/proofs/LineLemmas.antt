-- The lines of rows and of pages.
use Rattle.std.proofs.Common.{◌≡◌, ℕ, ◌+◌, inl, inr, List, [], ◌∷◌, ◌++◌, take, map}
use Rattle.std.proofs.Common.{Option, Some, None, Result, Ok, Err, refl, sym, ap, ◌∙◌, arith}
use Rattle.std.proofs.lemmas.Option.{get_or_from_slice_get, slice_get_within, slice_get-map}
use Rattle.std.proofs.lemmas.List.{length-map, take_more}
use Rattle.std.specs.Prelude.{slice_get, option_map, IfOk}
use Rattle.fax_bits.specs.declared.Memory.{Memory as NoMemory}
use Rattle.fax_walk.specs.declared.walk_start.WalkStart.{WalkStart}
use Rattle.fax_walk.specs.declared.walk_start.WalkStart.TheVariants.{AtCursor}
use Rattle.fax_walk.specs.declared.cursor.Cursor.{Cursor}
use Rattle.fax_walk.specs.declared.end.End.{End}
use Rattle.fax_walk.specs.declared.end.WalkFault.{WalkFault}
use Rattle.fax_walk.specs.Pages.{LongCursorValue, IsFormTail}
use Rattle.fax_walk.specs.views.InOrder.{Yields, HasEndedAs, IsAfterLast, IsNumber, Reading}
use Rattle.fax_bits.specs.laws.Codes.{IsOne}
use Rattle.fax_walk.specs.views.Walk.{WalkView, IsNext, IsCursorOf, IsLongOf, start_place}
use Rattle.fax_walk.specs.views.Pages.{PagesView, IsCursorOfPages as IsPageCursor, IsNextPage}
use Rattle.fax_walk.specs.laws.Tails.{BeginningsHaveOneTail, CursorsHaveOneFormTail}
use Rattle.fax_walk.specs.Items.{RowItem as Item, IsTailFrom, start_cursor, cursor_after, StripPosition, long_after}
use Rattle.fax_walk.specs.Items.{long_at}
use Rattle.fax_walk.specs.Items.{place_after}
use Rattle.fax_tool.specs.Run.{AreLinesOf, AreRowLines, ArePageLines}
use Rattle.fax_tool.proofs.BeginLemmas.{started_at, inside_of}
use Rattle.fax_tool.specs.Text.{PrintedLine, line_of_page, line_of_row, next_after}
use Rattle.fax_tool.specs.code.Printing.{IsLinePut, IsNextAfter, end_of}

-- the first elements of a list, with one more
pub take_at : {A : Type 0} (xs : List A) (n : ℕ) (x : A) → slice_get xs n ≡ Some x
    → take (n + 1) xs ≡ take n xs ++ x ∷ []
take_at xs n x e = rw (take_more xs n x (slice_get_within xs n x e), get_or_from_slice_get xs n x x e)

pub next_after-append : (origin : WalkStart) (xs ys : List PrintedLine)
    → next_after origin (xs ++ ys) ≡ next_after (next_after origin xs) ys
next_after-append origin [] ys = refl
next_after-append origin (x ∷ xs) ys = next_after-append x.next xs ys

-- what continues after a line of some
pub next_at : (origin : WalkStart) (lines : List PrintedLine) (n : ℕ) (line : PrintedLine) → slice_get lines n
    ≡ Some line
    → next_after origin (take (n + 1) lines) ≡ line.next
next_at origin lines n line there = ap (next_after origin) (take_at lines n line there)
    ∙ next_after-append origin (take n lines) (line ∷ [])

-- the cursor of what continues after a row is the one after it
begins_at : (at : Cursor) (inner : Option StripPosition) → start_cursor (started_at (long_at at inner) at) ≡ at
begins_at at inner = grind arith

pub begins_after : (item : Item) → start_cursor (started_at (long_after item) (cursor_after item)) ≡ cursor_after item
begins_after item = begins_at (cursor_after item) (place_after item).inner

module _ {A B : Type 0} (line_of : A → PrintedLine) (tail : List ℕ → B → List A → End → Type 0) where
  -- the lines of what is read in order
  abbrev pub LinesOf : Reading B → List PrintedLine → End → Type 0
  LinesOf read = AreLinesOf line_of (tail read.file read.origin)

  pub one_lines : (file : List ℕ) (origin : B) → IsOne (tail file origin)
      → IsOne (AreLinesOf line_of (tail file origin))
  one_lines file origin one = record {
    items = map line_of one.items;
    end = one.end;
    is = record { items = one.items; tail = one.is; lines_are = refl };
    one = λ others other are.
        let same = one.one are.items other are.tail in (are.lines_are ∙ ap (map line_of) same.0, same.1);
  }

  line_number : (read : Reading B) (n : ℕ) (item : A) → IsNumber (tail read.file read.origin) n item
      → IsNumber (LinesOf read) n (line_of item)
  line_number read n item (all, end, is, there) = (
    map line_of all,
    end,
    record { items = all; tail = is; lines_are = refl },
    slice_get-map line_of all n ∙ ap (option_map line_of) there,
  )

  -- the line of an item is collected
  pub line_put : (limit : ℕ) (old new : Reading B) (item : A) (text new_text : List ℕ)
      → Yields tail limit old item new
      → new_text ≡ text ++ (line_of item).text → IsLinePut (LinesOf old) old.yielded text (Ok None) new.yielded new_text
  line_put limit old new item text new_text hands grown = grind (arith, line_number)

  pub lines_ended : (old new : Reading B) (end : End) (text : List ℕ) → HasEndedAs tail old end new
      → IsLinePut (LinesOf old) old.yielded text (Ok (Some end)) new.yielded text
  lines_ended old new end text ((all, is, count), final_end, new_is) = (
    (map line_of all, record { items = all; tail = is; lines_are = refl }, length-map all line_of ∙ count),
    ap (λ (read : Reading B). read.yielded) new_is,
    refl,
  )

  -- what continues after so many lines, of which this says, as of each beginning and after each
  -- item
  pub after_last : {N : Type 0} (tells : N → WalkStart → Type 0) (origin_of : B → WalkStart) (first : B → N) (after : A
      → N)
      → ((origin : B) → tells (first origin) (origin_of origin)) → ((item : A) → tells (after item) (line_of item).next)
      → (read : Reading B) (next : N) → IsOne (tail read.file read.origin) → IsAfterLast tail read first after next
      → (from : WalkStart) × IsNextAfter (LinesOf read) (origin_of read.origin) read.yielded from × tells next from
  after_last tells origin_of first after at_first at_item read next one (inl (none, is)) =
      let lines = one_lines read.file read.origin one in (
        origin_of read.origin,
        rw none (record { lines = lines.items; end = lines.end; is = lines.is; within = omega arith; next_is = refl }),
        rw is (at_first read.origin),
      )
  after_last tells origin_of first after at_first at_item read next one (inr (before, item, count, number, is)) =
      let of = line_number read before item number in
      let within = slice_get_within of.0 before (line_of item) of.3 in (
        (line_of item).next,
        rw count (record {
          lines = of.0;
          end = of.1;
          is = of.2;
          within = omega (arith, within);
          next_is = sym (next_at (origin_of read.origin) of.0 before (line_of item) of.3);
        }),
        rw is (at_item item),
      )

pub one_rows : (file : List ℕ) → BeginningsHaveOneTail → (origin : WalkStart) → IsOne (AreRowLines file origin)
one_rows file tails origin = one_lines line_of_row IsTailFrom file origin (tails file origin)

pub one_pages : (file : List ℕ) → CursorsHaveOneFormTail → (at : Cursor) → IsOne (ArePageLines file at)
one_pages file tails at = one_lines line_of_page IsFormTail file at (tails file at)

-- the cursor after so many rows
pub row_cursor : BeginningsHaveOneTail → (walk : WalkView) (at : Cursor) → IsCursorOf walk at
    → (next : WalkStart) × IsNextAfter (AreRowLines walk.file walk.origin) walk.origin walk.yielded next
    × (at ≡ start_cursor next)
row_cursor tails walk at =
    after_last line_of_row IsTailFrom (λ at next. at ≡ start_cursor next) (λ origin. origin) start_cursor cursor_after
    (λ origin. refl) (λ item. sym (begins_after item)) walk at (tails walk.file walk.origin)

-- the place inside a strip after so many rows
pub row_places : BeginningsHaveOneTail → (walk : WalkView) (answer : Result (Option LongCursorValue) NoMemory)
    → IfOk answer (IsLongOf walk)
    → IfOk answer (λ place. (next : WalkStart) × IsNextAfter (AreRowLines walk.file walk.origin) walk.origin
    walk.yielded next
    × (place ≡ start_place next))
row_places tails walk (Ok place) =
    after_last line_of_row IsTailFrom (λ place next. place ≡ start_place next) (λ origin. origin) start_place long_after
    (λ origin. refl) (λ item. sym (inside_of (long_after item) (cursor_after item))) walk place
    (tails walk.file walk.origin)
row_places tails walk (Err memory) = λ is. tt

-- the cursor after so many pages, which begin inside no strip
pub page_cursor : CursorsHaveOneFormTail → (pages : PagesView) (at : Cursor) → IsPageCursor pages at
    → (next : WalkStart) × IsNextAfter (ArePageLines pages.file pages.origin) (AtCursor pages.origin) pages.yielded next
    × ((at ≡ start_cursor next) × (None ≡ start_place next))
page_cursor tails pages at =
    after_last line_of_page IsFormTail (λ at next. (at ≡ start_cursor next) × (None ≡ start_place next)) AtCursor
    (λ origin. origin)
    (λ item. record { page = item.page + 1; row = 0 }) (λ origin. (refl, refl)) (λ item. (refl, refl)) pages at
    (tails pages.file pages.origin)

-- the pages, and the rows, ended so
pub pages_refused : (old new : PagesView) (fault : WalkFault) (end : End) → IsNextPage old (Err fault) new
    → end_of fault ≡ Some end
    → HasEndedAs IsFormTail old end new
pages_refused old new fault end ended is = grind arith

pub rows_refused : (old new : WalkView) (fault : WalkFault) (end : End) → IsNext old (Err fault) new
    → end_of fault ≡ Some end
    → HasEndedAs IsTailFrom old end new
rows_refused old new fault end ended is = grind arith
