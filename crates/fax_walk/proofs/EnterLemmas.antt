-- A walk that enters its first page.
use Rattle.std.proofs.Common.{◌≡◌, ℕ, ◌*◌, ◌<◌, ◌≤◌, ◌⊎◌, inl, inr, List, [], Some, Result, Ok, Err, refl, sym, ◌∙◌}
use Rattle.std.proofs.Common.{arith}
use Rattle.std.proofs.Math.Nat.{div-add-mod}
use Rattle.std.proofs.Math.Seq.{drop-nil}
use Rattle.std.proofs.lemmas.Bool.{cases_lt}
use Rattle.std.specs.Prelude.{IfOk, IfErr}
use Rattle.fax_walk.specs.declared.walk_start.WalkStart.{WalkStart}
use Rattle.fax_walk.specs.declared.walk_start.WalkStart.TheVariants.{AtCursor, AtLongCursor}
use Rattle.fax_walk.specs.declared.cursor.Cursor.{Cursor}
use Rattle.fax_walk.specs.declared.end.End.{End}
use Rattle.fax_walk.specs.declared.opening.OpenFault.{OpenFault}
use Rattle.fax_walk.specs.Pages.{LongCursorValue, ends_as}
use Rattle.fax_walk.specs.views.Walk.{Begins, EndsBefore, EntersFirst, HasPage}
use Rattle.fax_walk.specs.Items.{IsPositionOn, IsRow, RowPosition, start_cursor, first_at, position_at}
use Rattle.fax_walk.specs.code.RowPlaces.{row_in_strip, strip_at}
use Rattle.fax_walk.specs.code.Opening.{EndsAt, IsFilePage, IsNamed, UpcomingPage, page_with}
use Rattle.fax_walk.specs.code.Stages.{IsNoInner, IsNoStrip, IsOpenedAt, IsRefusal, PageState}
use Rattle.fax_walk.specs.code.Walk.{HasNoRows, IsOpenedFirst}
use Rattle.fax_walk.proofs.TailLemmas.{begins_in, begins_after, begins_past}

-- a walk that begins at no place of the file
no_beginning : (file : List ℕ) (origin : WalkStart) (end : End) → Begins file origin (Err end)
    → HasNoRows file origin end
no_beginning file origin end begins = grind arith

-- a walk whose first place has no row
no_row : (file : List ℕ) (origin : WalkStart) (end : End) (at : RowPosition) (n : ℕ) → Begins file origin (Ok (at, n))
    → IsRow file at (ends_as end)
    → (n ≡ 0) ⊎ EndsBefore end (start_cursor origin) → HasNoRows file origin end
no_row file origin end at n begins stop before = record {
  tail = (Ok (at, n), begins, ([], stop, sym (drop-nil n)));
  read = record {
    before = n;
    are_before = (Ok (at, n), begins, refl);
    most = omega arith;
    all = λ some. absurd (omega (arith, some));
    final_end = λ final_end is. elim before [
      | inl none ↦ inl (omega (arith, none))
      | inr ends ↦ let same : end ≡ final_end = cc in inr (rw same at ends)
    ];
  };
}

module _ (file : List ℕ) (at : Cursor) where
  ends_at : (end : End) → EndsAt file at end → Begins file (AtCursor at) (Err end)
  ends_at end is = grind (arith, begins_past)

  pub no_page : (end : End) → EndsAt file at end → HasNoRows file (AtCursor at) end
  no_page end ends = no_beginning file (AtCursor at) end (ends_at end ends)

  module _ (upcoming : UpcomingPage) (named : IsNamed file at (Some upcoming)) where
    abbrev here : ℕ → RowPosition
    here r = first_at upcoming.page (strip_at upcoming.form r * upcoming.form.rows_per_strip)

    begins_on : at.row < upcoming.form.rows → Begins file (AtCursor at) (Ok (
      here at.row,
      row_in_strip upcoming.form
          at.row,
    ))
    begins_on below = rw named.1 (begins_in file at (page_with upcoming.directory upcoming.form) named.3 below)

    pub opened_on : at.row < upcoming.form.rows → (result : Result PageState OpenFault)
        → IfOk result (IsOpenedAt upcoming.directory.file (here at.row) (row_in_strip upcoming.form at.row) 0)
        → IfOk result (λ page. page.page ≡ upcoming.page) → IfOk result (λ page. page.first ≡ at.row)
        → IfOk result (IsOpenedFirst file (AtCursor at))
    opened_on below result opened page_is first_is = grind (arith, begins_on)

    pub refused_on : at.row < upcoming.form.rows → (result : Result PageState OpenFault)
        → IfErr result (IsRefusal (IsNoStrip upcoming at.row))
        → IfErr result (IsRefusal (HasNoRows file (AtCursor at)))
    refused_on below is refused = grind (arith, no_row, begins_on, cases_lt, div-add-mod)

    pub enters_on : at.row < upcoming.form.rows → EntersFirst file (AtCursor at)
    enters_on below = rw (named.3) (inl below)

    module _ (its : IsFilePage upcoming.page upcoming.chain upcoming.directory upcoming.form) where
      begins_next : upcoming.form.rows ≤ at.row → Begins file (AtCursor at) (Ok (first_at upcoming.chain.yielded 0, 0))
      begins_next past = grind (arith, begins_after)

      its_file : upcoming.chain.tiff.file ≡ file
      its_file = its.after.file_is ∙ named.0

      pub enters_next : upcoming.form.rows ≤ at.row → HasPage upcoming.chain.tiff.file upcoming.chain.yielded
          → EntersFirst file (AtCursor at)
      enters_next past there = grind (arith, its_file)

      pub refused_next : upcoming.form.rows ≤ at.row → (result : Result PageState OpenFault)
          → IfErr result (IsRefusal (λ end. IsRow upcoming.chain.tiff.file (first_at upcoming.chain.yielded 0) (ends_as
          end)))
          → IfErr result (IsRefusal (HasNoRows file (AtCursor at)))
      refused_next past result refused = grind (arith, no_row, begins_next, its_file)

      pub opened_next : upcoming.form.rows ≤ at.row → (result : Result PageState OpenFault)
          → IfOk result (IsOpenedAt upcoming.chain.tiff.file (first_at upcoming.chain.yielded 0) 0 0)
          → IfOk result (IsOpenedFirst file (AtCursor at))
      opened_next past result opened = grind (arith, begins_next, its_file)

module _ (file : List ℕ) (place : LongCursorValue) where
  ends_inside : (end : End) → EndsAt file place.at end → Begins file (AtLongCursor place) (Err end)
  ends_inside end is = grind arith

  pub no_page_inside : (end : End) → EndsAt file place.at end → HasNoRows file (AtLongCursor place) end
  no_page_inside end ends = no_beginning file (AtLongCursor place) end (ends_inside end ends)

  module _ (upcoming : UpcomingPage) (named : IsNamed file place.at (Some upcoming)) where
    pub start_place : IsPositionOn upcoming.directory.file (page_with upcoming.directory upcoming.form) place
        → Begins file (AtLongCursor place)
        (Ok (position_at place, 0))
    start_place inner = rw (named.3) (inl (rw (named.0) at inner, refl))

    pub enters_inside : place.at.row < upcoming.form.rows → EntersFirst file (AtLongCursor place)
    enters_inside within = rw (named.3) (inl within)

    pub refused_inside : (result : Result PageState OpenFault) → IfErr result (IsRefusal (IsNoInner upcoming place))
        → IfErr result (IsRefusal (HasNoRows file (AtLongCursor place)))
    refused_inside result refused = grind (arith, start_place, no_beginning)
