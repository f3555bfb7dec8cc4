-- Forms that are written one after another.
use Rattle.std.proofs.Common.{◌≡◌, ℕ, ◌+◌, ◌<◌, ◌≤◌, List, [], ◌∷◌, ◌++◌, length, set, map, take, drop, refl, ap, sym}
use Rattle.std.proofs.Common.{◌∙◌}
use Rattle.std.proofs.Common.{arith, inl, inr}
use Rattle.std.proofs.lemmas.Grind.{common_steps}
use Rattle.std.specs.Prelude.{Err, Some, slice_get}
use Rattle.std.proofs.lemmas.List.{length-map, length-take-le, map-append}
use Rattle.std.proofs.lemmas.Option.{slice_get_within}
use Rattle.fax_bits.specs.laws.Codes.{IsOne}
use Rattle.fax_walk.specs.declared.cursor.Cursor.{Cursor}
use Rattle.fax_walk.specs.declared.end.End.{End}
use Rattle.fax_walk.specs.declared.end.End.TheVariants.{EndOfPages, Fault, Outside}
use Rattle.fax_walk.specs.Pages.{FormItem, IsForm, IsFormTail, ends_as, read_page}
use Rattle.fax_walk.specs.views.InOrder.{EndsAfter, HasEndedAs, IsNumber}
use Rattle.fax_walk.specs.views.Pages.{YieldsPage, IsCursorOfPages, PagesView}
use Rattle.fax_walk.specs.laws.Tails.{CursorsHaveOneFormTail}
use Rattle.fax_c.specs.declared.fill.Stop.TheVariants.{Done, Ended}
use Rattle.fax_c.specs.declared.forms.FaxForm.{FaxForm}
use Rattle.fax_c.specs.code.CallSteps.{end_at_row}
use Rattle.fax_c.specs.Forms.{AreFormsFilled, StopsAfterForms, cursor_after_pages, form_numbers}
use Rattle.fax_c.specs.declared.fill.Stop.{Stop}
use Rattle.fax_walk.proofs.PageLawLemmas.{by_page, form_tail_of_page}
use Rattle.fax_c.proofs.ListLemmas.{one_set, take_at}
use Rattle.fax_c.proofs.ItemLemmas.{end_is, number_is}

-- the forms as they stand in memory of the caller
abbrev pub forms_of : List FormItem → List FaxForm
forms_of = map (λ item. form_numbers item.form)

pages-push : (from : Cursor) (items : List FormItem) (item : FormItem)
    → cursor_after_pages from (items ++ item ∷ []) ≡ record { page = item.page + 1; row = 0 }
pages-push from [] item = refl
pages-push from (first ∷ items) item = pages-push (record { page = first.page + 1; row = 0 }) items item

-- so many forms of a reader are written
pub record AreFormsWritten (file : List ℕ) (from : Cursor) (pages : PagesView) (count : ℕ) (old forms : List FaxForm)
    : Type 0 where
  pub items : List FormItem
  pub end : End
  pub tail : IsFormTail file from items end
  pub same_file : pages.file ≡ file
  pub same_started : pages.origin ≡ from
  pub yielded : pages.yielded ≡ count
  pub few : count ≤ length items
  pub asked : count ≤ length old
  pub written : forms ≡ forms_of (take count items) ++ drop count old

pub none_written : (pages : PagesView) (old : List FaxForm) → CursorsHaveOneFormTail → pages.yielded ≡ 0
    → AreFormsWritten pages.file pages.origin pages 0 old old
none_written pages old one none =
    let tail = one pages.file pages.origin in
    record {
      items = tail.items;
      end = tail.end;
      tail = tail.is;
      same_file = refl;
      same_started = refl;
      yielded = none;
      few = omega arith;
      asked = omega arith;
      written = refl;
    }

module _ {file : List ℕ} {from : Cursor} {pages : PagesView} {count : ℕ} {old forms : List FaxForm}
    (law : CursorsHaveOneFormTail) (so_far : AreFormsWritten file from pages count old forms) where
  one_here : IsOne (IsFormTail pages.file pages.origin)
  one_here = law pages.file pages.origin

  tail_here : IsFormTail pages.file pages.origin so_far.items so_far.end
  tail_here = grind arith

  item_is : (n : ℕ) (item : FormItem) → IsNumber (IsFormTail pages.file pages.origin) n item
      → slice_get so_far.items n ≡ Some item
  item_is n item = number_is (IsFormTail pages.file pages.origin) one_here so_far.items so_far.end tail_here n item

  pub cursor_is : (at : Cursor) → IsCursorOfPages pages at → at ≡ cursor_after_pages from (take count so_far.items)
  cursor_is at (inl (none, is)) = grind arith
  cursor_is at (inr (before, item, given, number, is)) =
      let count_is : count ≡ before + 1 = sym so_far.yielded ∙ given in
      rw (count_is, is, take_at so_far.items before item (item_is before item number), pages-push)

  pub one_more : (new : PagesView) (item : FormItem) → count < length old → YieldsPage pages item new
      → AreFormsWritten file from new (count + 1) old (set forms count (form_numbers item.form))
  one_more new item below hands =
      let here : slice_get so_far.items count ≡ Some item =
      rw so_far.yielded at (item_is pages.yielded item hands.0.number) in
      let inside = slice_get_within so_far.items count item here in
      let front = forms_of (take count so_far.items) in
      let len : length front ≡ count = rw (length-map, length-take-le count so_far.items so_far.few) in
      let all : forms_of (take (count + 1) so_far.items) ≡ front ++ form_numbers item.form ∷ [] =
      rw (take_at so_far.items count item here, map-append) in
      record {
        items = so_far.items;
        end = so_far.end;
        tail = so_far.tail;
        same_file = ap (λ (p : PagesView). p.file) hands.0.new_is ∙ so_far.same_file;
        same_started = ap (λ (p : PagesView). p.origin) hands.0.new_is ∙ so_far.same_started;
        yielded = ap (λ (p : PagesView). p.yielded) hands.0.new_is ∙ ap (λ n. n + 1) so_far.yielded;
        few = omega (arith, inside);
        asked = omega (arith, below);
        written = rw all (one_set front old forms count (form_numbers item.form) len below so_far.written);
      }

  -- the forms so far are all, where there is a reason
  filled : (stop : Stop) (at : Cursor) → IsCursorOfPages pages at
      → StopsAfterForms so_far.items so_far.end (length old) count stop
      → AreFormsFilled file from old (record { cursor = at; count = count; used = 0; stop = stop }) forms
  filled stop at is why = record {
    items = so_far.items;
    end = so_far.end;
    tail = so_far.tail;
    few = so_far.few;
    asked = so_far.asked;
    written = so_far.written;
    cursor = cursor_is at is;
    none_used = refl;
    stops = why;
  }

  pub ended : (end : End) (new : PagesView) (at : Cursor) → count < length old → HasEndedAs IsFormTail pages end new
      → IsCursorOfPages pages at
      → AreFormsFilled file from old (record { cursor = at; count = count; used = 0; stop = Ended end }) forms
  ended end new at below ends is =
      let are = end_is (IsFormTail pages.file pages.origin) one_here so_far.items so_far.end tail_here pages.yielded end
      ends.0 in
      filled (Ended end) at is (below, sym so_far.yielded ∙ are.0, are.1)

  pub all_asked : (at : Cursor) → length old ≤ count → IsCursorOfPages pages at
      → AreFormsFilled file from old (record { cursor = at; count = count; used = 0; stop = Done }) forms
  all_asked at all is = filled Done at is (omega (arith, so_far.asked, all))

-- a file has no page with this number, and ends so there
no_form : (file : List ℕ) (page : ℕ) (end : End) → IsForm file page (ends_as end)
    → read_page file (record { page = page; row = 0 }) ≡ Err end
no_form file page end is = by_page file (record { page = page; row = 0 }) is (λ here page is. absurd (cc is))
    (λ none page is. let same : end ≡ none = cc is in rw same page)

pub no_page : (file : List ℕ) (page : ℕ) (end : End)
    → EndsAfter (IsFormTail file (record { page = page; row = 0 })) 0 end
    → read_page file (record { page = page; row = 0 }) ≡ Err end
no_page file page end ([], tail, none) = no_form file page end ((form_tail_of_page file page [] end).0 tail)
no_page file page end (item ∷ all, tail, none) = absurd (omega (arith, none))

-- how it ends at each row of it
pub no_row : (file : List ℕ) (page row : ℕ) (end : End) → read_page file (record { page = page; row = 0 }) ≡ Err end
    → read_page file (record { page = page; row = row }) ≡ Err (end_at_row end row)
unfolding read_page
no_row file page row EndOfPages is = grind (arith, common_steps)
no_row file page row Outside is = grind (arith, common_steps)
no_row file page row (Fault p r cause) is = grind (arith, common_steps)
