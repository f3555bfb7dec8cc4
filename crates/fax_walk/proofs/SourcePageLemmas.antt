-- The rows of a file, page by page.
use Rattle.std.proofs.lemmas.Grind.{common_steps}
use Rattle.std.proofs.Common.{subst, ◌≡◌, ℕ, zero, suc, ◌+◌, ◌<◌, ◌⊎◌, inl, inr, List, [], ◌∷◌, ◌++◌, length}
use Rattle.std.proofs.Common.{Option, Some, None, Ok, Err, refl, sym, ap, ◌∙◌, arith, append-nil}
use Rattle.std.proofs.Common.{◌/◌, ◌%◌, drop}
use Rattle.fax_bits.specs.Bits.{bits}
use Rattle.fax_files.specs.Page.{strip_form}
use Rattle.std.proofs.lemmas.List.{drop_at, length-replicate, take_at}
use Rattle.fax_bits.specs.declared.Colour.{Colour}
use Rattle.fax_bits.specs.declared.Colour.TheVariants.{White}
use Rattle.fax_bits.specs.laws.Codes.{AreBitsByIndex}
use Rattle.fax_files.specs.declared.Cause.{Cause}
use Rattle.fax_files.specs.declared.PageForm.{PageForm}
use Rattle.fax_files.specs.declared.Endian.{Endian}
use Rattle.fax_files.specs.Page.{strip_bytes}
use Rattle.fax_files.specs.laws.TiffFiles.{FilesHaveOneChain, FormsAreWhole}
use Rattle.fax_walk.specs.declared.cursor.Cursor.{Cursor}
use Rattle.fax_walk.specs.declared.end.End.{End}
use Rattle.fax_walk.specs.declared.end.End.TheVariants.{Fault}
use Rattle.fax_walk.specs.Pages.{AreFrom, FilePage, FormItem, IsForm, read_page, NextItem, goes_on, ends_as}
use Rattle.fax_walk.specs.Items.{RowItem, StripPosition, RowPosition, first_at, exchanged, before, IsInStrip, IsRow}
use Rattle.fax_walk.specs.Items.{place_after}
use Rattle.fax_walk.specs.Converted.{pages_of}
use Rattle.fax_walk.specs.code.Opening.{IsPageOf}
use Rattle.fax_walk.specs.code.Output.{form_sheet, page_of}
use Rattle.fax_walk.specs.code.RowPlaces.{strip_at}
use Rattle.fax_walk.specs.code.Sources.{ArePaged, AreRowsOn, pels_of_runs}
use Rattle.fax_walk.specs.laws.InOrder.{LeadTo}
use Rattle.fax_walk.proofs.InOrderLemmas.{IsOneAnswer, ended_at, one_from, same_step}
use Rattle.fax_walk.proofs.RowLawLemmas.{any_row, whole_page, LinesAreRead, one_in_strip, one_row}

pub exchanged_length : (form : PageForm) (row : List Colour) → length (exchanged form row) ≡ length row
exchanged_length form row = grind (arith, common_steps)

-- from the place of a page's row r on these rows stand: all up to the page's last one, which leads
-- to the next page; or fewer, and then a fault
record HasRows (file : List ℕ) (p : ℕ) (form : PageForm) (r : ℕ) (from : RowPosition) : Type 0 where
  own : List RowItem
  to : RowPosition
  lead : LeadTo (IsRow file) from own to
  are : AreRowsOn p form r own
  ends : ((r + length own ≡ form.rows) × (to ≡ first_at (p + 1) 0))
      ⊎ ((r + length own < form.rows) × ((q n : ℕ) × (cause : Cause) × IsRow file to (ends_as (Fault q n cause))))

module _ (by_place : AreBitsByIndex) (lines_read : LinesAreRead) (file : List ℕ) (endian : Endian) (q : ℕ)
    (form : PageForm) (p : ℕ)
    (page : IsPageOf file p (record { endian = endian; offset = q; form = form })) where
  abbrev place_at : ℕ → Option StripPosition → RowPosition
  place_at r inner = record { page = p; row = r; inner = inner }

  abbrev Rows : ℕ → RowPosition → Type 0
  Rows r at = HasRows file p form r at

  -- a place whose reference is as wide as the page
  abbrev IsWide : Option StripPosition → Type 0
  IsWide inner = length (before form.width inner).reference ≡ form.width

  -- no row is there
  stops : (r : ℕ) (inner : Option StripPosition) (n : ℕ) (cause : Cause) → r < form.rows
      → IsRow file (place_at r inner) (ends_as (Fault p n cause))
      → Rows r (place_at r inner)
  stops r inner n cause less is = grind (arith, common_steps)

  -- the rows from row r on, where those after it are known
  module _ (r : ℕ) (upcoming : r < form.rows)
      (next : (inner : Option StripPosition) → IsWide inner → r + 1 < form.rows
      → Rows (r + 1) (place_at (r + 1) inner)) where
    after : (item : RowItem) → item.page ≡ p → item.row ≡ r → item.form ≡ form
        → length (exchanged form item.pels) ≡ form.width
        → Rows (r + 1) (place_after item)
    after item same_page same_row same_form wide = grind (arith, common_steps)

    -- by what the file has of the strip
    by_found : (inner : Option StripPosition) → IsWide inner → (found : Option (List ℕ))
        → (answer : NextItem RowItem RowPosition)
        → IsInStrip form (place_at r inner) found answer → IsRow file (place_at r inner) answer
        → Rows r (place_at r inner)
    by_found inner wide None (goes_on item to) is row = absurd cc
    by_found inner wide None (ends_as end) is row = grind (arith, stops)
    by_found inner wide (Some bytes) (ends_as end) (fault, stop, end_is) row = grind (arith, stops)
    by_found inner wide (Some bytes) (goes_on item to) is row =
        let all = bits form.order bytes in
        let strip = strip_form form (r / form.rows_per_strip) in
        let item_is = (lines_read strip (r % form.rows_per_strip) (before form.width inner).reference).width
        (drop (before form.width inner).bits all) (exchanged form item.pels) (drop item.bits all) wide is.3 in
        let rest : Rows (r + 1) to = rw is.4 (after item is.0 is.1 is.5 item_is) in
        record {
          own = item ∷ rest.own;
          to = rest.to;
          lead = (to, row, rest.lead);
          are = (is.0, is.5, is.1, sym (exchanged_length form item.pels) ∙ item_is, rest.are);
          ends = elim rest.ends [
            | inl all ↦ inl (omega (arith, all.0), all.1)
            | inr stop ↦ inr (omega (arith, stop.0), stop.1)
          ];
        }

  -- from a place on, where so many rows are left
  rows_on : (remaining r : ℕ) (inner : Option StripPosition) → r + remaining ≡ form.rows → IsWide inner → r < form.rows
      → Rows r (place_at r inner)
  rows_on zero r inner count wide upcoming = absurd (omega (arith, count, upcoming))
  rows_on (suc remaining) r inner count wide upcoming =
      let only = one_in_strip by_place lines_read form (place_at r inner) (strip_bytes endian file q (strip_at form r))
      in
      by_found r upcoming (λ later later_wide more. rows_on remaining (r + 1) later (omega (arith, count)) later_wide
      more)
      inner wide (strip_bytes endian file q (strip_at form r)) only.it only.is (rw (page r) only.is)

  page_rows : 0 < form.rows → Rows 0 (first_at p 0)
  page_rows some = rows_on form.rows 0 None (omega arith) (length-replicate form.width White) some

-- a place of a page that is not there has this end, and so has the form expected there
pub not_there : (file : List ℕ) (k : ℕ) (end : End) → IsForm file k (ends_as end)
    → read_page file (record { page = k; row = 0 }) ≡ Err end
not_there file k end h = grind arith

-- the page whose form is expected, and the page after it
pub found_page : (file : List ℕ) (p : ℕ) (one : FormItem) (next : ℕ) → IsForm file p (goes_on one next)
    → (here : FilePage) × (read_page file (record { page = p; row = 0 }) ≡ Ok here) × (one.form ≡ here.form)
    × (next ≡ p + 1)
found_page file p one next is = grind arith

-- what is returned after items that lead to a place
pub after_led : {S A : Type 0} (next : S → NextItem A S → Type 0) → ((at : S) → IsOneAnswer (next at)) → (at to : S)
    (own items : List A) (end : End) → LeadTo next at own to → AreFrom next at items end
    → (others : List A) × (items ≡ own ++ others) × AreFrom next to others end
after_led {S} {A} next answers at to [] items end to_is are = grind arith
after_led {S} {A} next answers at to (x ∷ own) [] end (place, step, lead) are = grind (arith, common_steps)
after_led {S} {A} next answers at to (x ∷ own) (y ∷ items) end (place, step, lead) (place', step', rest) =
    grind (arith, same_step, after_led next answers place to own items end lead)

module _ (by_place : AreBitsByIndex) (lines_read : LinesAreRead) (chains : FilesHaveOneChain) (wholes : FormsAreWhole)
    (file : List ℕ) where
  answers : (at : RowPosition) → IsOneAnswer (IsRow file at)
  answers = one_row by_place lines_read file

  -- the items of a file are the rows of its pages
  pub paged : (forms : List FormItem) (p : ℕ) (last : End) (items : List RowItem) (end : End)
      → AreFrom (IsForm file) p forms last
      → AreFrom (IsRow file) (first_at p 0) items end → ArePaged p forms last items end
  paged [] p last items end forms_are items_are =
      one_from (IsRow file) answers (first_at p 0) items [] end last items_are
      (rw (not_there file p last forms_are) refl)
  paged (one ∷ forms) p last items end (next, step, rest) items_are =
      let found = found_page file p one next step in
      let here = found.0 in
      let k : Cursor = record { page = p; row = 0 } in
      let whole = whole_page file wholes k here found.1 in
      let upcoming = page_rows by_place lines_read file here.endian here.offset here.form p
      (λ r. any_row file k r here found.1) whole.some_rows in
      let rows_are : AreRowsOn p one.form 0 upcoming.own = subst (λ (f : PageForm). AreRowsOn p f 0 upcoming.own) (sym
      found.2)
      upcoming.are in
      elim upcoming.ends [
        | inl all ↦
            let split = after_led (IsRow file) answers (first_at p 0) upcoming.to upcoming.own items end upcoming.lead
            items_are in
            let rest' : AreFrom (IsForm file) (p + 1) forms last = rw found.3 at rest in (
              upcoming.own,
              split.0,
              split.1,
              rows_are,
              inl (
                omega (arith, all.0, ap (λ (f : PageForm). f.rows) found.2),
                omega (arith, whole.some_rows, ap (λ (f : PageForm). f.rows) found.2),
                paged forms (p + 1) last split.0 end rest'
                    (subst (λ (t : RowPosition). AreFrom (IsRow file) t split.0 end) all.1 split.2),
              ),
            )
        | inr (fewer, (n, r, cause, stop)) ↦
            let ended = ended_at (IsRow file) (first_at p 0) upcoming.to upcoming.own (Fault n r cause) upcoming.lead
            stop in
            let same = one_from (IsRow file) answers (first_at p 0) items upcoming.own end (Fault n r cause) items_are
            ended
            in (
              upcoming.own,
              [],
              same.0 ∙ sym (append-nil upcoming.own),
              rows_are,
              inr (omega (arith, fewer, ap (λ (f : PageForm). f.rows) found.2), refl, (n, r, cause, same.1)),
            )
      ]

-- the first page of forms and items whose first are its rows
pub first_page : (one : FormItem) (forms : List FormItem) (items own others : List RowItem) → items ≡ own ++ others
    → length own ≡ one.form.rows
    → pages_of (one ∷ forms) items ≡ page_of (form_sheet one.form) (pels_of_runs own) None ∷ pages_of forms others
first_page one forms items own others items_are count = grind (arith, take_at, drop_at)
