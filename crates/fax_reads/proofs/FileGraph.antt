-- What functions read of a file is what is defined.
use Rattle.std.proofs.Common.{arith, ◌≡◌, ℕ, zero, suc, ◌+◌, ◌-◌, ◌*◌, ◌<◌, List, length, drop, refl, sym, ap, ◌∙◌}
use Rattle.std.proofs.Common.{subst}
use Rattle.std.proofs.Common.{Bool, Option, Some, None, Result, Ok, Err, length-drop}
use Rattle.std.specs.Prelude.{MatchResult, ◌↔◌, ◌/◌, ◌%◌}
use Rattle.fax_bits.specs.declared.Colour.{Colour}
use Rattle.fax_bits.specs.laws.Codes.{AreBitsByIndex, IsOne}
use Rattle.fax_bits.specs.Bits.{bits}
use Rattle.fax_page.specs.declared.StripFault.{StripFault}
use Rattle.fax_page.specs.declared.StripForm.{StripForm}
use Rattle.fax_bits.specs.Reading.{Read, read, failed}
use Rattle.fax_files.specs.declared.PageForm.{PageForm}
use Rattle.fax_files.specs.Page.{most_rows, strip_bytes, strip_form}
use Rattle.fax_files.specs.laws.TiffFiles.{FilesHaveOneChain, FormsAreWhole}
use Rattle.fax_walk.specs.declared.end.End.{End}
use Rattle.fax_walk.specs.Pages.{AreFrom, FilePage, FormItem, IsForm, NextItem, ends_as, goes_on, read_page}
use Rattle.fax_walk.specs.Items.{StripPosition, IsInStrip, IsRow, RowPosition, before, first_at}
use Rattle.fax_walk.proofs.RowLawLemmas.{LinesAreRead, exchanged_twice, measure, one_row, row_falls}
use Rattle.fax_walk.proofs.TailLawLemmas.{files_have_one_items}
use Rattle.fax_walk.proofs.InOrderLemmas.{IsOneAnswer, same_answer, two_of}
use Rattle.fax_walk.proofs.PageLawLemmas.{form_falls, one_form, one_forms}
use Rattle.fax_page.specs.Lines.{read_line}
use Rattle.fax_reads.specs.Files.{AllRead, all_after, forms_from, read_all, read_form, read_forms, read_in_strip}
use Rattle.fax_reads.specs.Files.{read_row, read_rows, row_or_end, rows_from}
use Rattle.fax_reads.specs.laws.Files.{FilesAreReadByFunctions}

-- one answer that a function gives is the one that is defined, and the other way round
both_ways : {A : Type 0} {holds : A → Type 0} → IsOneAnswer holds → (found : A) → holds found → (answer : A)
    → holds answer ↔ (found ≡ answer)
both_ways {A} {holds} only found is answer = (λ at. same_answer only found answer is at, λ same. subst holds same is)

-- so is one list with its end
pub both_lists : {A : Type 0} {holds : List A → End → Type 0} → IsOne holds → (found : AllRead A)
    → holds found.items found.end → (items : List A)
    (end : End) → holds items end ↔ (found ≡ record { items = items; end = end })
both_lists {A} {holds} only found is items end = (
  λ at. let same = two_of only found.items items found.end end is at in rw (← same.0, ← same.1) refl,
  λ same. subst (λ (all : AllRead A). holds all.items all.end) same is,
)

-- what is returned from a place on is read, where the limit is above what is left
module _ {S A : Type 0} (next : S → NextItem A S → Type 0) (read : S → NextItem A S) (is : (at : S) → next at (read at))
    (measure : S → ℕ)
    (falls : (at : S) (item : A) (to : S) → next at (goes_on item to) → measure to < measure at) where
  by_step : (limit : ℕ) (at : S) (step : NextItem A S) → next at step
      → ((item : A) (to : S) → next at (goes_on item to) → AreFrom next to (read_all limit read to).items
      (read_all limit read to).end)
      → AreFrom next at (all_after (read_all limit read) step).items (all_after (read_all limit read) step).end
  by_step limit at (ends_as end) here more = here
  by_step limit at (goes_on item to) here more = (to, here, more item to here)

  all_are : (limit : ℕ) (at : S) → measure at < limit → AreFrom next at (read_all limit read at).items
      (read_all limit read at).end
  all_are zero at few = absurd (omega (arith, few))
  all_are (suc limit) at few =
      by_step limit at (read at) (is at) (λ item to here. let less = falls at item to here in
      all_are limit to (omega (arith, few, less)))

-- what is made of the page that is found
pub on_page : {A : Type 0} (found : Result FilePage End) (asked : FilePage → A → Type 0) (ended : End → A)
    (of : Result FilePage End → A)
    → ((end : End) → of (Err end) ≡ ended end) → ((here : FilePage) → asked here (of (Ok here)))
    → MatchResult found (λ here. asked here (of found)) (λ end. of found ≡ ended end)
on_page (Err end) asked ended of ends is = ends end
on_page (Ok here) asked ended of ends is = is here

module _ (file : List ℕ) where
  form_is : (p : ℕ) → IsForm file p (read_form file p)
  form_is p =
      on_page (read_page file (record { page = p; row = 0 })) (λ here (step : NextItem FormItem ℕ). step
      ≡ goes_on (record { page = p; form = here.form }) (p + 1))
      ends_as (λ found. elim found [
        | Err end ↦ ends_as end
        | Ok here ↦ goes_on (record { page = p; form = here.form })
            (p + 1)
      ])
      (λ end. refl) (λ here. refl)

  pub forms_are : FilesHaveOneChain → (p : ℕ)
      → AreFrom (IsForm file) p (forms_from file p).items (forms_from file p).end
  forms_are chains p = all_are (IsForm file) (read_form file) form_is (λ p. length file - p) (form_falls chains file)
      (length file + 1) p (omega arith)

module _ (by_place : AreBitsByIndex) (lines_read : LinesAreRead) where
  -- the row at a place of a strip
  module _ (form : PageForm) (at : RowPosition) (bytes : List ℕ) where
    abbrev strip : StripForm
    strip = strip_form form (at.row / form.rows_per_strip)

    abbrev i : ℕ
    i = at.row % form.rows_per_strip

    abbrev inner : StripPosition
    inner = before form.width at.inner

    abbrev all : List Bool
    all = bits form.order bytes

    by_line : (r : Read (List Colour) StripFault) → read_line strip i inner.reference (drop inner.bits all) ≡ r
        → IsInStrip form at (Some bytes) (row_or_end form at bytes r)
    by_line (failed fault) cause = (fault, cause, refl)
    by_line (read row rest) line =
        let (after, within, rest_is) = (lines_read strip i inner.reference).rest all inner.bits row rest line in
        let remaining : length all - after ≡ length rest = sym (length-drop after all)
        ∙ ap (λ (b : List Bool). length b) rest_is in
        let place : 8 * length bytes - length rest ≡ after = omega
        (arith, remaining, within, by_place.count form.order bytes) in
        (refl, refl, omega arith, rw (place, rest_is, exchanged_twice form row) line, refl, refl)

    in_bytes : IsInStrip form at (Some bytes) (read_in_strip form at (Some bytes))
    in_bytes =
        by_line (read_line strip i inner.reference (drop inner.bits all)) refl

  in_strip_is : (form : PageForm) (at : RowPosition) (found : Option (List ℕ))
      → IsInStrip form at found (read_in_strip form at found)
  in_strip_is form at None = refl
  in_strip_is form at (Some bytes) = in_bytes form at bytes

  module _ (chains : FilesHaveOneChain) (forms : FormsAreWhole) (file : List ℕ) where
    row_is : (at : RowPosition) → IsRow file at (read_row file at)
    row_is at =
        on_page (read_page file (record { page = at.page; row = at.row }))
        (λ here. IsInStrip here.form at (strip_bytes here.endian file here.offset (at.row / here.form.rows_per_strip)))
        ends_as
        (λ found. elim found [
          | Err end ↦ ends_as end
          | Ok here ↦ read_in_strip here.form at (strip_bytes here.endian file here.offset
              (at.row / here.form.rows_per_strip))
        ])
        (λ end. refl)
        (λ here. in_strip_is here.form at (strip_bytes here.endian file here.offset
        (at.row / here.form.rows_per_strip)))

    below : (at : RowPosition) → measure by_place lines_read chains forms file at < (length file + 1) * (most_rows + 1)
    below at = omega arith

    pub rows_are : (at : RowPosition) → AreFrom (IsRow file) at (rows_from file at).items (rows_from file at).end
    rows_are at = all_are (IsRow file) (read_row file) row_is (measure by_place lines_read chains forms file)
        (row_falls by_place lines_read chains forms file) ((length file + 1) * (most_rows + 1)) at (below at)

  pub files_graph : FilesHaveOneChain → FormsAreWhole → FilesAreReadByFunctions
  files_graph chains forms = record {
    row = λ file at. both_ways (one_row by_place lines_read file at) (read_row file at) (row_is chains forms file at);
    form = λ file p. both_ways (one_form file p) (read_form file p) (form_is file p);
    rows = λ file items end. both_lists (files_have_one_items by_place lines_read chains forms file) (read_rows file)
        (rows_are chains forms file (first_at 0 0)) items end;
    forms = λ file items end. both_lists (one_forms chains file) (read_forms file) (forms_are file chains 0) items end;
  }
