-- What a walk begins with has one tail and one end.
use Rattle.std.proofs.Common.{◌≡◌, ℕ, ◌+◌, ◌*◌, ◌<◌, ◌≤◌, ◌⊎◌, inl, inr, Bool, List, [], ◌∷◌, map, length, drop, Option}
use Rattle.std.proofs.Common.{Some, None, Result}
use Rattle.std.proofs.Common.{Ok, Err, refl, sym, ap, ◌∙◌, arith, length-drop, ◌-◌}
use Rattle.std.proofs.lemmas.Bool.{cases_eq, cases_lt}
use Rattle.std.proofs.lemmas.Slice.Eq.{bytes_eq-Decides}
use Rattle.std.specs.Bool.{Decides}
use Rattle.std.specs.Str.{bytes_eq}
use Rattle.fax_bits.specs.declared.Colour.{Colour}
use Rattle.fax_bits.specs.declared.Colour.TheVariants.{White, Black}
use Rattle.fax_bits.specs.Bits.{bits}
use Rattle.fax_bits.specs.laws.Codes.{AreBitsByIndex, IsOne}
use Rattle.fax_bits.specs.declared.FillOrder.{FillOrder}
use Rattle.fax_rows.specs.Rows.{other, pels_of_runs, runs_of}
use Rattle.fax_page.specs.declared.StripForm.{StripForm}
use Rattle.fax_page.specs.declared.StripFault.{StripFault}
use Rattle.fax_page.specs.Lines.{IsLine, IsCause}
use Rattle.fax_page.specs.laws.Strips.{ReadsLinesOneWay}
use Rattle.fax_files.specs.declared.Cause.TheVariants.{Strip}
use Rattle.fax_files.specs.declared.PageForm.{PageForm}
use Rattle.fax_files.specs.Page.{strip_form, strip_bytes}
use Rattle.fax_files.specs.laws.TiffFiles.{FilesHaveOneChain, FormsAreWhole, IsWholeForm}
use Rattle.fax_walk.specs.declared.walk_start.WalkStart.{WalkStart}
use Rattle.fax_walk.specs.declared.walk_start.WalkStart.TheVariants.{AtCursor, AtLongCursor}
use Rattle.fax_walk.specs.declared.end.End.{End}
use Rattle.fax_walk.specs.declared.end.End.TheVariants.{Fault, Outside}
use Rattle.fax_walk.specs.Pages.{LongCursorValue, Cursor, FilePage, read_page, NextItem, goes_on, ends_as}
use Rattle.fax_walk.specs.Items.{RowItem, RowPosition, first_at, exchanged, before, IsInStrip, IsRow, place_after}
use Rattle.fax_walk.specs.Items.{StartsOnPage, IsPositionOn}
use Rattle.fax_walk.specs.Items.{IsTailFrom, position_at, start_cursor}
use Rattle.fax_walk.specs.code.RowPlaces.{strip_at, row_in_strip, FitsStrip, cursor_at}
use Rattle.fax_walk.specs.views.Walk.{Begins}
use Rattle.fax_walk.specs.laws.Tails.{BeginningsHaveOneTail}
use Rattle.fax_walk.proofs.InOrderLemmas.{IsOneAnswer, IsListed, listed_by, one_list}
use Rattle.fax_walk.proofs.PageLawLemmas.{in_chain, one_on_page, page_few}

abbrev pub LinesAreRead : Type 0
LinesAreRead = (form : StripForm) (i : ℕ) (reference : List Colour) → ReadsLinesOneWay form i reference

-- colours that are exchanged twice are as they were
other_twice : (row : List Colour) → map other (map other row) ≡ row
other_twice [] = refl
other_twice (White ∷ row) = ap (λ (l : List Colour). White ∷ l) (other_twice row)
other_twice (Black ∷ row) = ap (λ (l : List Colour). Black ∷ l) (other_twice row)

pub exchanged_twice : (form : PageForm) (row : List Colour) → exchanged form (exchanged form row) ≡ row
exchanged_twice form row = grind (arith, other_twice)

same_items : (item another : RowItem) → item.page ≡ another.page → item.form ≡ another.form → item.row ≡ another.row
    → item.pels ≡ another.pels
    → item.bits ≡ another.bits
    → item ≡ another
same_items item another pages forms rows pels bits = grind arith

-- as many bits stand before one rest
one_place : AreBitsByIndex → (order : FillOrder) (bytes : List ℕ) (n m : ℕ) → n ≤ 8 * length bytes
    → m ≤ 8 * length bytes
    → drop n (bits order bytes) ≡ drop m (bits order bytes) → n ≡ m
one_place by_place order bytes n m within within' same =
    let all = bits order bytes in
    let remaining : length (drop n all) ≡ length (drop m all) = ap (λ (b : List Bool). length b) same in
    omega (arith, remaining, length-drop n all, length-drop m all, by_place.count order bytes, within, within')

module _ (by_place : AreBitsByIndex) (lines_read : LinesAreRead) where
  module _ (form : PageForm) (at : RowPosition) (bytes : List ℕ) where
    abbrev strip : StripForm
    strip = strip_form form (strip_at form at.row)

    abbrev i : ℕ
    i = row_in_strip form at.row

    abbrev reference : List Colour
    reference = (before form.width at.inner).reference

    abbrev all : List Bool
    all = bits form.order bytes

    abbrev b : List Bool
    b = drop (before form.width at.inner).bits all

    abbrev IsItem : RowItem → RowPosition → Type 0
    IsItem item to = IsInStrip form at (Some bytes) (goes_on item to)

    one_item : (item another : RowItem) (to place : RowPosition) → IsItem item to → IsItem another place → another
        ≡ item
    one_item item another to place is is_too =
        let same =
        (lines_read strip i reference).line.one_answer b (exchanged form another.pels) (exchanged form item.pels) _ _
        is_too.3 is.3 in
        let pels : another.pels ≡ item.pels =
        sym (exchanged_twice form another.pels) ∙ ap (exchanged form) same.0 ∙ exchanged_twice form item.pels in
        let place_is : another.bits ≡ item.bits = one_place by_place form.order bytes another.bits item.bits is_too.2
        is.2 same.1 in
        same_items another item (is_too.0 ∙ sym is.0) (is_too.5 ∙ sym is.5) (is_too.1 ∙ sym is.1) pels place_is

    by_line : ((row : List Colour) × (rest : List Bool) × IsLine strip i reference b row rest)
        ⊎ ((fault : StripFault) × IsCause strip i reference b fault)
        → IsOneAnswer (IsInStrip form at (Some bytes))
    by_line (inl (row, rest, line)) =
        let from = (lines_read strip i reference).rest all (before form.width at.inner).bits row rest line in
        let item : RowItem = record {
          page = at.page;
          form = form;
          row = at.row;
          pels = exchanged form row;
          bits =
              from.0;
        } in
        let is : IsItem item (place_after item) = (
          refl,
          refl,
          omega (arith, from.1, by_place.count form.order bytes),
          rw (from.2, exchanged_twice form row) line,
          refl,
          refl,
        ) in
        record { it = goes_on item (place_after item); is = is; one = only_item item is }
      where
        only_item : (item : RowItem) → IsItem item (place_after item) → (other : NextItem RowItem RowPosition)
            → IsInStrip form at (Some bytes) other
            → other ≡ goes_on item (place_after item)
        only_item item is (ends_as end) (fault, stop, end_is) =
            absurd ((lines_read strip i reference).line.answer_has_no_fault b _ _ fault is.3 stop)
        only_item item is (goes_on another to) is_too =
            let same = one_item item another (place_after item) to is is_too in rw (is_too.4, same) refl
    by_line (inr (fault, stop)) =
        record { it = ends_as (Fault at.page at.row (Strip fault)); is = (fault, stop, refl); one = only_stop }
      where
        only_stop : (other : NextItem RowItem RowPosition) → IsInStrip form at (Some bytes) other
            → other ≡ ends_as (Fault at.page at.row (Strip fault))
        only_stop (ends_as end) (another, stop_too, end_is) =
            let same = (lines_read strip i reference).line.one_fault b another fault stop_too stop in
            cc
        only_stop (goes_on another to) is_too =
            absurd ((lines_read strip i reference).line.answer_has_no_fault b _ _ fault is_too.3 stop)

    in_bytes : IsOneAnswer (IsInStrip form at (Some bytes))
    in_bytes = by_line ((lines_read strip i reference).line.answer_or_fault b)

  pub one_in_strip : (form : PageForm) (at : RowPosition) (found : Option (List ℕ))
      → IsOneAnswer (IsInStrip form at found)
  one_in_strip form at None = grind arith
  one_in_strip form at (Some bytes) = let only = in_bytes form at bytes in
      record { it = only.it; is = only.is; one = only.one }

  module _ (file : List ℕ) where
    pub one_row : (at : RowPosition) → IsOneAnswer (IsRow file at)
    one_row at =
        one_on_page (read_page file (cursor_at at))
        (λ here. IsInStrip here.form at (strip_bytes here.endian file here.offset (strip_at here.form at.row))) ends_as
        (λ here. one_in_strip here.form at (strip_bytes here.endian file here.offset (strip_at here.form at.row)))

-- the place inside its strip after an item
abbrev pub inner_after : PageForm → RowItem → RowPosition
inner_after form item =
    record {
      page = item.page;
      row = item.row + 1;
      inner = Some
          (record { bits = item.bits; reference = exchanged form item.pels });
    }

-- after an item of a page of this form: on the page after, at the page's next strip, or inside its
-- strip
abbrev pub IsAfter : PageForm → RowItem → RowPosition → Type 0
IsAfter form item to =
    ((form.rows ≤ item.row + 1) × (to ≡ first_at (item.page + 1) 0))
    ⊎ ((item.row + 1 < form.rows) × (row_in_strip form (item.row + 1) ≡ 0) × (to ≡ first_at item.page (item.row + 1)))
    ⊎ ((item.row + 1 < form.rows) × (0 < row_in_strip form (item.row + 1)) × (to ≡ inner_after form item))

pub cases_after : (form : PageForm) (item : RowItem) → item.form ≡ form → IsAfter form item (place_after item)
cases_after form item same = grind arith

module _ (file : List ℕ) where
  -- the row that was read, on its page and in its strip
  pub record IsRead (at : RowPosition) (item : RowItem) (to : RowPosition) : Type 0 where
    pub here : FilePage
    pub page : read_page file (cursor_at at) ≡ Ok here
    pub bytes : List ℕ
    pub bytes_are : strip_bytes here.endian file here.offset (strip_at here.form at.row) ≡ Some bytes
    pub is : IsInStrip here.form at (Some bytes) (goes_on item to)

  pub read_at : (at : RowPosition) (item : RowItem) (to : RowPosition) → IsRow file at (goes_on item to)
      → IsRead at item to
  read_at at item to h = grind arith

  -- a page is the same for each of its rows
  pub any_row : (at : Cursor) (r : ℕ) (here : FilePage) → read_page file at ≡ Ok here
      → read_page file (record { page = at.page; row = r }) ≡ Ok here
  unfolding read_page
  any_row at r here is = grind arith

  pub whole_page : FormsAreWhole → (at : Cursor) (here : FilePage) → read_page file at ≡ Ok here → IsWholeForm here.form
  whole_page forms at here is = forms here.endian file here.offset here.form (in_chain file at here is).fields

  -- so is that of a row that was read
  pub its_page : (at : RowPosition) (item : RowItem) (to : RowPosition) (read : IsRead at item to) (r : ℕ)
      → read_page file (record { page = item.page; row = r }) ≡ Ok read.here
  its_page at item to read r = rw read.is.0 (any_row (cursor_at at) r read.here read.page)

  pub same_page : (at : Cursor) (here there : FilePage) → read_page file at ≡ Ok here → read_page file at ≡ Ok there
      → here ≡ there
  same_page at here there is is_too = grind arith

  -- what holds of the place after a row that was read: on the page after, at the next strip, or
  -- inside the strip
  pub after_read : (holds : RowPosition → Type 0) (at : RowPosition) (item : RowItem) (to : RowPosition)
      (read : IsRead at item to)
      → (read.here.form.rows ≤ item.row + 1 → holds (first_at (item.page + 1) 0))
      → (item.row + 1 < read.here.form.rows → row_in_strip read.here.form (item.row + 1) ≡ 0
      → holds (first_at item.page (item.row + 1)))
      → (item.row + 1 < read.here.form.rows → 0 < row_in_strip read.here.form (item.row + 1)
      → holds (inner_after read.here.form item))
      → holds to
  after_read holds at item to read past first inside = grind arith

-- from each place on there are items, up to an end
module _ (by_place : AreBitsByIndex) (lines_read : LinesAreRead) (chains : FilesHaveOneChain) (forms : FormsAreWhole)
    (file : List ℕ) where
  -- more than the remaining rows
  abbrev pub measure : RowPosition → ℕ
  measure at = (length file - at.page) * 1000001 + (1000000 - at.row)

  pub row_falls : (at : RowPosition) (item : RowItem) (to : RowPosition) → IsRow file at (goes_on item to)
      → measure to < measure at
  row_falls at item to step =
      let read = read_at file at item to step in
      let few = page_few chains file (cursor_at at) read.here read.page in
      let whole = whole_page file forms (cursor_at at) read.here read.page in
      after_read file (λ t. measure t < measure at) at item to read (λ last. omega (arith, few, read.is.0))
      (λ within first. omega (arith, few, whole.rows, within, read.is.0, read.is.1))
      (λ within inside. omega (arith, few, whole.rows, within, read.is.0, read.is.1))

  pub rows_listed : (at : RowPosition) → IsListed (IsRow file) at
  rows_listed = listed_by (IsRow file) (one_row by_place lines_read file) measure row_falls

same_list : (xs ys : List ℕ) → (xs ≡ ys) ⊎ (xs ≡ ys → ⊥)
same_list xs ys = by_test (bytes_eq xs ys) (bytes_eq-Decides xs ys)
  where
    by_test : (test : Bool) → Decides test (xs ≡ ys) → (xs ≡ ys) ⊎ (xs ≡ ys → ⊥)
    by_test test decides = grind arith

fits : (width : ℕ) (found : Option (List ℕ)) (place : LongCursorValue)
    → FitsStrip width found place ⊎ (FitsStrip width found place → ⊥)
fits width None place = inl tt
fits width (Some bytes) place = elim (cases_lt (8 * length bytes) place.bits) [
  | inl far ↦ inr (λ is. omega (arith, far, is.0))
  | inr within ↦ elim (same_list (runs_of (pels_of_runs White place.runs)) place.runs) [
    | inl runs ↦ elim (cases_eq (length (pels_of_runs White place.runs)) width) [
      | inl count ↦ inl (within, count, runs)
      | inr not ↦ inr (λ is. not is.1)
    ]
    | inr not ↦ inr (λ is. not is.2)
  ]
]

module _ (file : List ℕ) (here : FilePage) where
  inner_or_not : (place : LongCursorValue) → IsPositionOn file here place ⊎ (IsPositionOn file here place → ⊥)
  inner_or_not place = elim (cases_lt place.at.row here.form.rows) [
    | inl below ↦ elim (cases_lt 0 (row_in_strip here.form place.at.row)) [
      | inl some ↦ elim (fits here.form.width (strip_bytes here.endian file here.offset
          (strip_at here.form place.at.row)) place) [
            | inl fit ↦ inl (record { row = below; not_first = some; fits = fit })
            | inr not ↦ inr (λ is. not is.fits)
          ]
      | inr none ↦ inr (λ is. omega (arith, none, is.not_first))
    ]
    | inr above ↦ inr (λ is. omega (arith, above, is.row))
  ]

  by_inner : (place : LongCursorValue) → IsPositionOn file here place ⊎ (IsPositionOn file here place → ⊥)
      → IsOneAnswer (StartsOnPage file (AtLongCursor place) here)
  by_inner place (inl is) = record { it = Ok (position_at place, 0); is = inl (is, refl); one = only }
    where
      only : (other : Result (RowPosition × ℕ) End) → StartsOnPage file (AtLongCursor place) here other
          → other ≡ Ok (position_at place, 0)
      only other (inl (is_too, e)) = e
      only other (inr (not, e)) = absurd (not is)
  by_inner place (inr not) = record { it = Err Outside; is = inr (not, refl); one = only }
    where
      only : (other : Result (RowPosition × ℕ) End) → StartsOnPage file (AtLongCursor place) here other → other
          ≡ Err Outside
      only other is = grind arith

  pub one_on : (origin : WalkStart) → IsOneAnswer (StartsOnPage file origin here)
  one_on (AtCursor at) = record { it = _; is = refl; one = λ other same. same }
  one_on (AtLongCursor place) = grind (arith, by_inner, inner_or_not)

-- a walk begins in one way
pub one_beginning : (file : List ℕ) (origin : WalkStart) → IsOneAnswer (Begins file origin)
one_beginning file origin =
    one_on_page (read_page file (start_cursor origin)) (λ here. StartsOnPage file origin here) Err
    (λ here. one_on file here origin)

pub one_tail_from : AreBitsByIndex → LinesAreRead → FilesHaveOneChain → FormsAreWhole → BeginningsHaveOneTail
one_tail_from by_place lines_read chains forms file origin =
    let only = one_beginning file origin in by_begin only.it only.is only.one
  where
    by_begin : (begin : Result (RowPosition × ℕ) End) → Begins file origin begin
        → ((other : Result (RowPosition × ℕ) End) → Begins file origin other → other ≡ begin)
        → IsOne (IsTailFrom file origin)
    by_begin (Err none) is only = record {
      items = [];
      end = none;
      is = (Err none, is, (refl, refl));
      one = λ others other tail. rw (only tail.0 tail.1) at tail.2;
    }
    by_begin (Ok (at, n)) is only =
        let listed = rows_listed by_place lines_read chains forms file at in
        let all = one_list (IsRow file) (one_row by_place lines_read file) at listed in
        record {
          items = drop n all.items;
          end = all.end;
          is = (Ok (at, n), is, (all.items, all.is, refl));
          one = λ others other tail.
              let was = rw (only tail.0 tail.1) at tail.2 in
              let same = all.one was.0 other was.1 in
              (was.2 ∙ ap (drop n) same.0, same.1);
        }
