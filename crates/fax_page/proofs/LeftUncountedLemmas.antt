-- Damaged rows of a strip of unknown height are gone through row by row.
use Rattle.std.proofs.Common.{◌≡◌, ℕ, ◌+◌, ◌-◌, ◌<◌, ◌≤◌, List, [], ◌∷◌, Bool, Option, Some, None, Ok, Err, refl, sym}
use Rattle.std.proofs.Common.{ap, ◌∙◌, subst, arith, inl, inr, ◌++◌, length, append_assoc, append-nil}
use Rattle.std.specs.Prelude.{◌⊎◌, ◌≢◌, MatchOption}
use Rattle.std.proofs.lemmas.Bool.{cases_lt}
use Rattle.std.proofs.lemmas.List.{length_push}
use Rattle.fax_page.specs.declared.StripFault.TheVariants.{MissingEol}
use Rattle.fax_page.specs.declared.salvage_reader.Salvaged.{Salvaged}
use Rattle.fax_page.specs.declared.salvage_reader.Salvaged.TheVariants.{Found, Lost, Unterminated}
use Rattle.fax_page.specs.Lines.{StripFault, StripForm, white_row}
use Rattle.fax_page.specs.Strip.{most_rows}
use Rattle.fax_page.specs.Uncounted.{Fault, RowsEnd, TooMany, rows_end}
use Rattle.fax_page.specs.Salvage.{SalvagedRow, found, lost, resync_point, unended}
use Rattle.fax_page.specs.LeftUncounted.{AreLeftUncounted, ResumesUncounted, HasNextRow}
use Rattle.fax_page.specs.views.Salvage.{IsAfterLost, IsSalvageStep, SalvageState}
use Rattle.fax_page.specs.views.LeftUncounted.{AreLeftFrom, IsUncountedStep, PassesAll, PassesUncounted}
use Rattle.fax_page.specs.views.LeftUncounted.{UncountedState}
use Rattle.fax_page.specs.code.LeftUncounted.{HasPassed, IsGoingThrough, IsFinalFaultAfter, alone, fault_of}

-- the next row is one of the strip, and the rows do not end before it
pub is_upcoming : (strip : SalvageState) (salvaged : Salvaged) (new : SalvageState) (end : RowsEnd)
    → end ≡ rows_end strip.form.coding strip.row strip.upcoming None → end ≡ TooMany
    → IsSalvageStep strip (Some salvaged) new → HasNextRow strip.form strip.row strip.upcoming
is_upcoming strip Found new end ends many step = (step.upcoming, sym ends ∙ many)
is_upcoming strip (Lost fault rows) new end ends many step = (step.0, sym ends ∙ many)
is_upcoming strip (Unterminated rows) new end ends many step = (omega (arith, step.3.1), sym ends ∙ many)

module _ (strip new : SalvageState) (row : ℕ) (final_fault : Option StripFault) (row_is : row ≡ strip.row)
    (most : strip.form.rows ≡ most_rows) (upcoming : HasNextRow strip.form strip.row strip.upcoming) where
  abbrev old_state : UncountedState
  old_state = record { strip = strip; row = row; final_fault = None }

  abbrev new_state : UncountedState
  new_state = record { strip = new; row = row + 1; final_fault = final_fault }

  here : (strip.row < strip.form.rows) × (rows_end strip.form.coding row strip.upcoming None ≡ TooMany)
  here =
      (upcoming.0, subst (λ n. rows_end strip.form.coding n strip.upcoming None ≡ TooMany) (sym row_is) upcoming.1)

  -- the rows end with this fault, if with one, where a strip has no more rows
  abbrev pub IsFinalFault : Option StripFault → Type 0
  IsFinalFault fault = ((new.row ≡ most_rows) × (final_fault ≡ fault)) ⊎ ((new.row ≢ most_rows) × (final_fault ≡ None))

  -- after a lost row, what is left continues, or ends with its fault
  goes_on : (fault : StripFault) (count : ℕ) → IsAfterLost strip fault count new → IsFinalFault (Some fault)
      → (rows : List SalvagedRow) (end : RowsEnd) → AreLeftFrom new_state rows end
      → ResumesUncounted strip.form strip.row strip.upcoming fault
      (λ at. AreLeftUncounted strip.form (strip.row + 1) (Some fault) (white_row strip.form.width) at rows end) rows end
  goes_on fault count (from, sought, after) is_final_fault rows end are =
      (from, sought, at_upcoming (resync_point strip.form.coding from) after is_final_fault)
    where
      After : Option (List Bool) → Type 0
      After o =
          MatchOption o
          ((count ≡ strip.form.rows - strip.row) × (new.form ≡ strip.form) × (new.row ≡ strip.form.rows))
          (λ at. (count ≡ 1) × (new ≡ record {
            form = strip.form;
            row = strip.row + 1;
            upcoming = at;
            reference = white_row strip.form.width;
            before = Some fault;
          }))

      Goes : Option (List Bool) → Type 0
      Goes o =
          (((o ≡ None) ⊎ (strip.row + 1 ≡ strip.form.rows)) × (rows ≡ []) × (end ≡ Fault fault))
          ⊎ ((at : List Bool) × (o ≡ Some at) × (strip.row + 1 < strip.form.rows)
          × AreLeftUncounted strip.form (strip.row + 1) (Some fault) (white_row strip.form.width) at rows end)

      ended : final_fault ≡ Some fault → (rows ≡ []) × (end ≡ Fault fault)
      ended is = rw is at are

      at_upcoming : (o : Option (List Bool)) → After o → IsFinalFault (Some fault) → Goes o
      at_upcoming None all (inl (last, over_is)) = let e = ended over_is in inl (inl refl, e.0, e.1)
      at_upcoming None all (inr (more, over_is)) = absurd (more (all.2 ∙ most))
      at_upcoming (Some at) one (inl (last, over_is)) =
          let e = ended over_is in
          let row_next : new.row ≡ strip.row + 1 = ap (λ (s : SalvageState). s.row) one.1 in
          inl (inr (sym row_next ∙ last ∙ sym most), e.0, e.1)
      at_upcoming (Some at) one (inr (more, over_is)) =
          let row_next : new.row ≡ strip.row + 1 = ap (λ (s : SalvageState). s.row) one.1 in
          let remaining = rw (over_is, one.1) at are in
          inr (at, refl, low row_next more, rw row_is at remaining)
        where
          low : new.row ≡ strip.row + 1 → new.row ≢ most_rows → strip.row + 1 < strip.form.rows
          low row_next more = elim (cases_lt (strip.row + 1) strip.form.rows) [
            | inl below ↦ below
            | inr last ↦ absurd (more (omega (arith, row_next, last, upcoming.0, most)))
          ]

  form_after : (fault : StripFault) (count : ℕ) → IsAfterLost strip fault count new → new.form ≡ strip.form
  form_after fault count (from, sought, after) = at_upcoming (resync_point strip.form.coding from) after
    where
      at_upcoming : (o : Option (List Bool))
          → MatchOption o
          ((count ≡ strip.form.rows - strip.row) × (new.form ≡ strip.form) × (new.row ≡ strip.form.rows))
          (λ at. (count ≡ 1) × (new ≡ record {
            form = strip.form;
            row = strip.row + 1;
            upcoming = at;
            reference = white_row strip.form.width;
            before = Some fault;
          })) → new.form ≡ strip.form
      at_upcoming None all = all.1
      at_upcoming (Some at) one = ap (λ (s : SalvageState). s.form) one.1

  -- the form stays
  pub same_after : (salvaged : Salvaged) → IsSalvageStep strip (Some salvaged) new → new.form ≡ strip.form
  same_after Found finds = ap (λ (s : SalvageState). s.form) finds.new_is
  same_after (Lost fault count) step = form_after fault count step.2
  same_after (Unterminated count) step = form_after MissingEol count step.5

  in_form : new.form ≡ strip.form → row + 1 ≤ new.form.rows
  in_form same =
      let rows : new.form.rows ≡ strip.form.rows = ap (λ (f : StripForm). f.rows) same in
      omega (arith, rows, row_is, upcoming.0)

  -- a row is passed
  pub passes : (salvaged : Salvaged) → IsSalvageStep strip (Some salvaged) new → IsFinalFault (fault_of salvaged)
      → IsUncountedStep old_state (Ok (alone salvaged)) new_state
  passes Found finds is_final_fault = record {
    same_form = form_same;
    next = refl;
    within = in_form form_same;
    followed = λ rows end are.
        let own = rw (no_fault is_final_fault, form_same, none, row_is) at are in
        rw row_is (new.upcoming, here, finds.read, finds.ended, own);
  }
    where
      form_same : new.form ≡ strip.form
      form_same = ap (λ (s : SalvageState). s.form) finds.new_is

      none : new.before ≡ None
      none = ap (λ (s : SalvageState). s.before) finds.new_is

      no_fault : IsFinalFault None → final_fault ≡ None
      no_fault (inl last) = last.1
      no_fault (inr more) = more.1
  passes (Lost fault count) (low, is, after) is_final_fault = (
    refl,
    record {
      same_form = form_after fault count after;
      next = refl;
      within = in_form (form_after fault count after);
      followed = λ rows end are. rw row_is (here, is, goes_on fault count after is_final_fault rows end are);
    },
  )
  passes (Unterminated count) (pels, rest, read, eol, below, after) is_final_fault = (
    pels,
    refl,
    record {
      same_form = form_after MissingEol count after;
      next = refl;
      within = in_form (form_after MissingEol count after);
      followed = λ rows end are.
          rw row_is (rest, here, read, eol, below, goes_on MissingEol count after is_final_fault rows end are);
    },
  )

  -- as it is returned
  pub passes_so : (old : UncountedState) (before : Option StripFault) (answer salvaged : Salvaged)
      → old ≡ record { strip = strip; row = row; final_fault = before } → before ≡ None → answer ≡ alone salvaged
      → IsSalvageStep strip (Some salvaged) new → IsFinalFault (fault_of salvaged)
      → IsUncountedStep old (Ok answer) new_state
  passes_so old before answer salvaged old_is none answer_is step is_final_fault =
      let same : old ≡ old_state =
      old_is ∙ ap (λ (o : Option StripFault). record { strip = strip; row = row; final_fault = o }) none in
      subst (λ (s : UncountedState). IsUncountedStep s (Ok answer) new_state) (sym same)
      (subst (λ (a : Salvaged). IsUncountedStep old_state (Ok a) new_state) (sym answer_is)
      (passes salvaged step is_final_fault))

-- a row was passed, and they are gone through still
pub still_going : (strip new : SalvageState) (row : ℕ) (salvaged : Salvaged) (final_fault : Option StripFault)
    → strip.form.rows ≡ most_rows → row ≡ strip.row → IsSalvageStep strip (Some salvaged) new
    → new.form ≡ strip.form → strip.row < strip.form.rows → IsFinalFaultAfter new salvaged final_fault
    → IsGoingThrough new (row + 1) final_fault
still_going strip new row salvaged final_fault most row_is step same low is_final_fault = record {
  most = ap (λ (f : StripForm). f.rows) same ∙ most;
  few = omega (arith, row_is, low, most);
  upcoming = by_step salvaged step is_final_fault;
}
  where
    next_is : (fault : StripFault) (count : ℕ) → IsAfterLost strip fault count new → new.row ≢ most_rows
        → row + 1 ≡ new.row
    next_is fault count (from, sought, after) more = at_upcoming (resync_point strip.form.coding from) after
      where
        at_upcoming : (o : Option (List Bool))
            → MatchOption o
            ((count ≡ strip.form.rows - strip.row) × (new.form ≡ strip.form) × (new.row ≡ strip.form.rows))
            (λ at. (count ≡ 1) × (new ≡ record {
              form = strip.form;
              row = strip.row + 1;
              upcoming = at;
              reference = white_row strip.form.width;
              before = Some fault;
            })) → row + 1 ≡ new.row
        at_upcoming None all = absurd (more (all.2 ∙ most))
        at_upcoming (Some at) one =
            let row_next : new.row ≡ strip.row + 1 = ap (λ (s : SalvageState). s.row) one.1 in
            omega (arith, row_next, row_is)

    by_step : (salvaged : Salvaged) → IsSalvageStep strip (Some salvaged) new
        → IsFinalFaultAfter new salvaged final_fault
        → final_fault ≡ None → row + 1 ≡ new.row
    by_step Found finds is_final_fault none =
        let next : new.row ≡ strip.row + 1 = ap (λ (s : SalvageState). s.row) finds.new_is in
        omega (arith, row_is, next)
    by_step (Lost fault count) step (inl last) none = let some = sym last.1 ∙ none in cc
    by_step (Lost fault count) step (inr more) none = next_is fault count step.2 more.0
    by_step (Unterminated count) step (inl last) none = let some = sym last.1 ∙ none in cc
    by_step (Unterminated count) step (inr more) none = next_is MissingEol count step.5 more.0

-- ---- row after row

module _ (old now new : UncountedState) (passed : HasPassed old now) where
  one_more : (row : SalvagedRow) → PassesUncounted now row new → HasPassed old new
  one_more row passes = record {
    done = passed.done ++ row ∷ [];
    same_form = passes.same_form ∙ passed.same_form;
    count =
        let more : length (passed.done ++ row ∷ []) ≡ length passed.done + 1 = length_push passed.done row in
        omega (arith, more, passes.next, passed.count);
    followed = λ rows end are.
        subst (λ (l : List SalvagedRow). AreLeftFrom old l end) (sym (append_assoc passed.done (row ∷ []) rows))
        (passed.followed (row ∷ rows) end (passes.followed rows end are));
  }

  pub passed_more : (salvaged : Salvaged) → IsUncountedStep now (Ok salvaged) new → HasPassed old new
  passed_more Found step = one_more (found new.strip.reference) step
  passed_more (Lost fault rows) step = one_more (lost fault) step.1
  passed_more (Unterminated rows) step = one_more (unended step.0) step.2

  pub all_passed : (end : RowsEnd) → IsUncountedStep now (Err end) new → PassesAll old end new
  all_passed end (are, same) = record {
    rows = passed.done;
    are = subst (λ (l : List SalvagedRow). AreLeftFrom old l end) (append-nil passed.done)
        (passed.followed [] end are);
    same_form = ap (λ (s : UncountedState). s.strip.form) same ∙ passed.same_form;
    count = ap (λ (s : UncountedState). s.row) same ∙ passed.count;
  }
