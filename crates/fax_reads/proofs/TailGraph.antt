-- What is returned from a cursor or a place inside a strip on is what functions say.
use Rattle.std.proofs.Common.{arith, ◌≡◌, ℕ, inl, inr, List, [], drop, refl}
use Rattle.std.proofs.Common.{Bool, true, false, Option, Some, None, Result, Ok, Err}
use Rattle.std.specs.Prelude.{MatchResult, if◌then◌else◌}
use Rattle.std.proofs.lemmas.Bool.Decides.{nat_tests}
use Rattle.std.proofs.lemmas.Slice.Eq.{bytes_eq-Decides}
use Rattle.fax_bits.specs.laws.Codes.{AreBitsByIndex}
use Rattle.fax_files.specs.laws.TiffFiles.{FilesHaveOneChain, FormsAreWhole}
use Rattle.fax_walk.specs.declared.walk_start.WalkStart.{WalkStart}
use Rattle.fax_walk.specs.declared.walk_start.WalkStart.TheVariants.{AtCursor, AtLongCursor}
use Rattle.fax_walk.specs.declared.cursor.Cursor.{Cursor}
use Rattle.fax_walk.specs.declared.end.End.{End}
use Rattle.fax_walk.specs.declared.end.End.TheVariants.{Outside}
use Rattle.fax_walk.specs.Pages.{AreFrom, FilePage, IsForm, IsFormTail, LongCursorValue, first_page, read_page}
use Rattle.fax_walk.specs.Items.{StartsOnPage, IsPositionOn, IsRow, IsTailFrom, RowItem, RowPosition, start_cursor}
use Rattle.fax_walk.specs.Items.{position_at}
use Rattle.fax_walk.specs.code.RowPlaces.{FitsStrip}
use Rattle.fax_walk.proofs.RowLawLemmas.{LinesAreRead, one_tail_from}
use Rattle.fax_walk.proofs.PageLawLemmas.{one_form_tail}
use Rattle.fax_files.specs.Directory.{◌>>=◌}
use Rattle.fax_reads.specs.Files.{rows_from}
use Rattle.fax_reads.specs.TailReading.{begin_on, fits_strip, form_tail_from, is_inner_on, read_form_tail}
use Rattle.fax_reads.specs.TailReading.{read_tail, tail_from}
use Rattle.fax_reads.specs.laws.Files.{TailsAreReadByFunctions}
use Rattle.fax_reads.proofs.FileGraph.{both_lists, forms_are, on_page, rows_are}

-- the tests of a place inside a strip decide whether it is one
fits_so : (width : ℕ) (found : Option (List ℕ)) (place : LongCursorValue) → fits_strip width found place ≡ true
    → FitsStrip width found place
fits_so width None place e = tt
fits_so width (Some bytes) place e = grind (arith, nat_tests, bytes_eq-Decides)

so_fits : (width : ℕ) (found : Option (List ℕ)) (place : LongCursorValue) → FitsStrip width found place
    → fits_strip width found place ≡ true
so_fits width None place is = refl
so_fits width (Some bytes) place is = grind (arith, nat_tests, bytes_eq-Decides)

module _ (file : List ℕ) (here : FilePage) (place : LongCursorValue) where
  is_inner : is_inner_on file here place ≡ true → IsPositionOn file here place
  is_inner e = grind (arith, nat_tests, fits_so)

  inner_is : IsPositionOn file here place → is_inner_on file here place ≡ true
  inner_is is = grind (arith, nat_tests, so_fits)

  by_test : (test : Bool) → is_inner_on file here place ≡ test
      → StartsOnPage file (AtLongCursor place) here (if test then Ok (position_at place, 0) else Err Outside)
  by_test true e = inl (is_inner e, refl)
  by_test false e = inr (λ is. let yes = inner_is is in absurd cc, refl)

started_on : (file : List ℕ) (origin : WalkStart) (here : FilePage)
    → StartsOnPage file origin here (begin_on file origin here)
started_on file (AtCursor at) here = refl
started_on file (AtLongCursor place) here = by_test file here place (is_inner_on file here place) refl

module _ (chains : FilesHaveOneChain) (file : List ℕ) where
  forms_by : (begin : Result ℕ End)
      → MatchResult begin (λ p. AreFrom (IsForm file) p (form_tail_from file begin).items
      (form_tail_from file begin).end)
      (λ none. ((form_tail_from file begin).items ≡ []) × ((form_tail_from file begin).end ≡ none))
  forms_by (Err none) = (refl, refl)
  forms_by (Ok p) = forms_are file chains p

  form_tail_is : (at : Cursor) → IsFormTail file at (read_form_tail file at).items (read_form_tail file at).end
  form_tail_is at = forms_by (first_page file at)

module _ (by_place : AreBitsByIndex) (lines_read : LinesAreRead) (chains : FilesHaveOneChain)
    (forms : FormsAreWhole) where
  module _ (file : List ℕ) where
    rows_by : (begin : Result (RowPosition × ℕ) End)
        → MatchResult begin (λ from. (all : List RowItem) × AreFrom (IsRow file) from.0 all (tail_from file begin).end
        × ((tail_from file begin).items ≡ drop from.1 all))
        (λ none. ((tail_from file begin).items ≡ []) × ((tail_from file begin).end ≡ none))
    rows_by (Err none) = (refl, refl)
    rows_by (Ok from) = (
      (rows_from file from.0).items,
      rows_are by_place lines_read chains forms file from.0,
      refl,
    )

    tail_is : (origin : WalkStart) → IsTailFrom file origin (read_tail file origin).items (read_tail file origin).end
    tail_is origin = (
      read_page file (start_cursor origin) >>= begin_on file origin,
      on_page (read_page file (start_cursor origin))
          (λ here (begin : Result (RowPosition × ℕ) End). StartsOnPage file origin here begin) Err
          (λ found. found >>= begin_on file origin)
          (λ end. refl)
          (started_on file origin),
      rows_by (read_page file (start_cursor origin) >>= begin_on file origin),
    )

  pub tails_graph : TailsAreReadByFunctions
  tails_graph = record {
    rows = λ file origin items end. both_lists (one_tail_from by_place lines_read chains forms file origin)
        (read_tail file origin)
        (tail_is file origin) items end;
    forms = λ file at items end. both_lists (one_form_tail chains file at) (read_form_tail file at)
        (form_tail_is chains file at) items end;
  }
