-- What a function reads of damaged rows of a strip of unknown height is what is defined.
use Rattle.std.proofs.Common.{arith, ◌≡◌, ℕ, zero, suc, ◌+◌, ◌<◌, List, [], ◌∷◌, Bool, true, false, refl, ap, sym}
use Rattle.std.proofs.Common.{◌∙◌, subst, inl, inr, Option, Some, None}
use Rattle.std.specs.Prelude.{if◌then◌else◌, ◌⊎◌}
use Rattle.fax_bits.specs.declared.Colour.{Colour}
use Rattle.fax_rows.proofs.StepReadLemmas.{is_false}
use Rattle.fax_page.specs.declared.RowsEnd.{RowsEnd}
use Rattle.fax_page.specs.declared.RowsEnd.TheVariants.{DataEnd, Fault, Marked, TooMany}
use Rattle.fax_page.specs.declared.StripFault.{StripFault}
use Rattle.fax_page.specs.declared.StripFault.TheVariants.{MissingEol}
use Rattle.fax_page.specs.declared.StripForm.{StripForm}
use Rattle.fax_page.specs.Lines.{white_row}
use Rattle.fax_page.specs.Uncounted.{rows_end}
use Rattle.fax_page.specs.Salvage.{IsReadFrom, SalvagedRow, found, lost, resync_point, resync_from, unended}
use Rattle.fax_page.specs.LeftUncounted.{AreLeftUncounted, ResumesUncounted, IsEndBefore, HasNextRow}
use Rattle.fax_page.specs.Lines.{read_start}
use Rattle.fax_page.specs.reads.Salvage.{is_unterminated, read_over}
use Rattle.fax_page.specs.reads.Salvage.{RowsAndEnd, before_rows, end_or_row, salvage_uncounted}
use Rattle.fax_page.specs.reads.Salvage.{uncounted_after_lost, uncounted_from_eol, uncounted_row}
use Rattle.fax_bits.specs.Reading.{read, failed}
use Rattle.fax_page.proofs.EndGraph.{is_end}
use Rattle.fax_page.proofs.SalvageGraph.{IsOver, Line, lacks, lacks_where, lost_of, over_is, over_of}

abbrev More : Type 0
More = Option StripFault → List Colour → List Bool → RowsAndEnd

-- these are the rows from row i on, and their end
abbrev Are : StripForm → ℕ → Option StripFault → List Colour → List Bool → RowsAndEnd → Type 0
Are form i before reference b remaining = AreLeftUncounted form i before reference b remaining.0 remaining.1

abbrev GoesOn : StripForm → ℕ → List Bool → StripFault → RowsAndEnd → Type 0
GoesOn form i b fault remaining =
    ResumesUncounted form i b fault
    (λ upcoming. AreLeftUncounted form (i + 1) (Some fault) (white_row form.width) upcoming remaining.0 remaining.1)
    remaining.0
    remaining.1

-- what follows a lost row
module _ (n : ℕ) (form : StripForm) (i : ℕ) (b : List Bool) (more : More) (upcoming : i + suc n ≡ form.rows)
    (are : (before : Option StripFault) (row : List Colour) (rest : List Bool)
    → 0 < n → Are form (i + 1) before row rest (more before row rest)) where
  goes_on : (fault : StripFault) → GoesOn form i b fault (uncounted_after_lost n form i b more fault)
  goes_on fault = at_upcoming n upcoming are (resync_point form.coding from) refl
    where
      from : List Bool
      from = resync_from b (read_start form.coding i b)

      at_upcoming : (m : ℕ) → i + suc m ≡ form.rows
          → ((before : Option StripFault) (row : List Colour) (rest : List Bool)
          → 0 < m → Are form (i + 1) before row rest (more before row rest))
          → (o : Option (List Bool)) → resync_point form.coding from ≡ o
          → GoesOn form i b fault (uncounted_from_eol m form more fault o)
      at_upcoming zero count are None is = (from, refl, inl (inl is, refl, refl))
      at_upcoming zero count are (Some at) is =
          (from, refl, inl (inr (omega (arith, count)), refl, refl))
      at_upcoming (suc m) count are None is = (from, refl, inl (inl is, refl, refl))
      at_upcoming (suc m) count are (Some at) is = (
        from,
        refl,
        inr (at, is, omega (arith, count), are (Some fault) (white_row form.width) at (omega arith)),
      )

-- a row and those after it
module _ (n : ℕ) (form : StripForm) (i : ℕ) (before : Option StripFault) (reference : List Colour) (b : List Bool)
    (more : More) (count : i + suc n ≡ form.rows) (upcoming : HasNextRow form i b)
    (are : (before : Option StripFault) (row : List Colour) (rest : List Bool)
    → Are form (i + 1) before row rest (more before row rest)) where
  after : (fault : StripFault) → GoesOn form i b fault (uncounted_after_lost n form i b more fault)
  after fault = goes_on n form i b more count (λ before row rest some. are before row rest) fault

  by_end : (row : List Colour) (rest : List Bool) → IsReadFrom form i before reference b row rest → (missing : Bool)
      → is_unterminated form i rest ≡ missing
      → Are form i before reference b
      (if missing then (before_rows (unended row) (uncounted_after_lost n form i b more MissingEol)) else
      (before_rows (found row) (more None row rest)))
  by_end row rest over true at =
      let missing = lacks_where form i rest at in
      (rest, upcoming, over, missing.0, missing.1, after MissingEol)
  by_end row rest over false at = (
    rest,
    upcoming,
    over,
    (λ eol below. let missing = lacks form i rest eol below in absurd (cc (at, missing))),
    are None row rest,
  )

  by_line : (r : Line) → IsOver form i before reference b r
      → Are form i before reference b (uncounted_row n form i b more r)
  by_line (read row rest) over = by_end row rest over (is_unterminated form i rest) refl
  by_line (failed fault) cause = (upcoming, cause, after fault)

-- where none is in the way, rows do not end with a fault
no_fault : (form : StripForm) (i : ℕ) (b : List Bool) (fault : StripFault)
    → rows_end form.coding i b None ≡ Fault fault → ⊥
no_fault form i b fault ends =
    let none : None ≡ Some fault = (is_end form.coding i b None (Fault fault) ends).2 in cc none

-- the rows end, or one is expected
by_end_before : (form : StripForm) (i : ℕ) (before : Option StripFault) (reference : List Colour) (b : List Bool)
    (row : RowsAndEnd) (end : RowsEnd) → rows_end form.coding i b None ≡ end → i < form.rows
    → (HasNextRow form i b → Are form i before reference b row) → Are form i before reference b (end_or_row end row)
by_end_before form i before reference b row Marked ends low later = (ends, λ many. cc)
by_end_before form i before reference b row DataEnd ends low later = (ends, λ many. cc)
by_end_before form i before reference b row (Fault fault) ends low later = absurd (no_fault form i b fault ends)
by_end_before form i before reference b row TooMany ends low later = later (low, ends)

pub left_are : (n : ℕ) (form : StripForm) (i : ℕ) (before : Option StripFault) (reference : List Colour)
    (b : List Bool) → i + n ≡ form.rows
    → Are form i before reference b (salvage_uncounted n form i before reference b)
left_are zero form i before reference b count = (refl, λ many. omega (arith, count))
left_are (suc n) form i before reference b count =
    by_end_before form i before reference b _ (rows_end form.coding i b None) refl
    (omega (arith, count))
    (λ upcoming. by_line n form i before reference b
    (λ before row rest. salvage_uncounted n form (i + 1) before row rest) count upcoming
    (λ before row rest. left_are n form (i + 1) before row rest (omega (arith, count)))
    (read_over form i before reference b) (over_is form i before reference b))

-- and what is defined is read
ended_of : (form : StripForm) (i : ℕ) (b : List Bool) (row : RowsAndEnd) (end : RowsEnd) → i < form.rows
    → IsEndBefore form i b end → end_or_row end row ≡ ([], end)
ended_of form i b row Marked low ended = refl
ended_of form i b row DataEnd low ended = refl
ended_of form i b row (Fault fault) low ended = absurd (no_fault form i b fault ended.0)
ended_of form i b row TooMany low ended = absurd (omega (arith, low, ended.1 refl))

-- what follows a lost row
after_of : (n : ℕ) (form : StripForm) (i : ℕ) (b : List Bool) (fault : StripFault) (rows : List SalvagedRow)
    (end : RowsEnd) → i + suc n ≡ form.rows
    → ((upcoming : List Bool) → AreLeftUncounted form (i + 1) (Some fault) (white_row form.width) upcoming rows end
    → salvage_uncounted n form (i + 1) (Some fault) (white_row form.width) upcoming ≡ (rows, end))
    → GoesOn form i b fault (rows, end)
    → uncounted_after_lost n form i b (λ before row rest. salvage_uncounted n form (i + 1) before row rest) fault
    ≡ (rows, end)
after_of n form i b fault rows end count later (from, sought, after) =
    ap (λ (f : List Bool). uncounted_from_eol n form (more n) fault (resync_point form.coding f))
    sought ∙ by n count later (resync_point form.coding from) refl after
  where
    more : ℕ → More
    more m before row rest = salvage_uncounted m form (i + 1) before row rest

    by : (m : ℕ) → i + suc m ≡ form.rows
        → ((upcoming : List Bool) → AreLeftUncounted form (i + 1) (Some fault) (white_row form.width) upcoming rows end
        → salvage_uncounted m form (i + 1) (Some fault) (white_row form.width) upcoming ≡ (rows, end))
        → (o : Option (List Bool)) → resync_point form.coding from ≡ o
        → ((((resync_point form.coding from ≡ None) ⊎ (i + 1 ≡ form.rows)) × (rows ≡ []) × (end ≡ Fault fault))
        ⊎ ((upcoming : List Bool) × (resync_point form.coding from ≡ Some upcoming) × (i + 1 < form.rows)
        × AreLeftUncounted form (i + 1) (Some fault) (white_row form.width) upcoming rows end))
        → uncounted_from_eol m form (more m) fault o ≡ (rows, end)
    by zero count later o at (inl (_, none, ends)) = cc (none, ends)
    by zero count later o at (inr (upcoming, some, low, are)) = absurd (omega (arith, count, low))
    by (suc m) count later None at (inl (_, none, ends)) = cc (none, ends)
    by (suc m) count later (Some upcoming) at (inl (inl no_upcoming, none, ends)) = absurd (cc (at, no_upcoming))
    by (suc m) count later (Some upcoming) at (inl (inr last, none, ends)) = absurd (omega (arith, count, last))
    by (suc m) count later None at (inr (upcoming, some, low, are)) = absurd (cc (at, some))
    by (suc m) count later (Some other) at (inr (upcoming, some, low, are)) =
        let same : Some upcoming ≡ Some other = sym some ∙ at in
        let is : upcoming ≡ other = cc same in
        later other (subst (λ d. AreLeftUncounted form (i + 1) (Some fault) (white_row form.width) d rows
        end) is are)

-- the next row is read
upcoming_of : (n : ℕ) (form : StripForm) (i : ℕ) (before : Option StripFault) (reference : List Colour) (b : List Bool)
    (r : Line) → HasNextRow form i b → read_over form i before reference b ≡ r
    → salvage_uncounted (suc n) form i before reference b
    ≡ uncounted_row n form i b (λ before row rest. salvage_uncounted n form (i + 1) before row rest) r
upcoming_of n form i before reference b r upcoming is =
    let more : More = λ before row rest. salvage_uncounted n form (i + 1) before row rest in
    ap (λ end. end_or_row end (uncounted_row n form i b more (read_over form i before reference b)))
    upcoming.1
    ∙ ap (uncounted_row n form i b more) is

pub left_of : (n : ℕ) (form : StripForm) (i : ℕ) (before : Option StripFault) (reference : List Colour)
    (b : List Bool) (rows : List SalvagedRow) (end : RowsEnd) → i + n ≡ form.rows
    → AreLeftUncounted form i before reference b rows end
    → salvage_uncounted n form i before reference b ≡ (rows, end)
left_of zero form i before reference b [] end count are =
    ap (λ ends. ([], ends)) are.0
left_of zero form i before reference b (found row ∷ rows) end count are = absurd (omega (arith, count, are.1.0))
left_of zero form i before reference b (lost fault ∷ rows) end count are = absurd (omega (arith, count, are.0.0))
left_of zero form i before reference b (unended row ∷ rows) end count are = absurd (omega (arith, count, are.1.0))
left_of (suc n) form i before reference b [] end count are =
    let more : More = λ before row rest. salvage_uncounted n form (i + 1) before row rest in
    let row = uncounted_row n form i b more (read_over form i before reference b) in
    ap (λ ends. end_or_row ends row) are.0
    ∙ ended_of form i b row end (omega (arith, count)) are
left_of (suc n) form i before reference b (found row ∷ rows) end count (rest, upcoming, over, ended, are) =
    let more : More = λ before row rest. salvage_uncounted n form (i + 1) before row rest in
    let none = is_false (is_unterminated form i rest) (λ is. let missing = lacks_where form i rest is in
    ended missing.0 missing.1) in
    upcoming_of n form i before reference b (read row rest) upcoming (over_of form i before reference b row rest over)
    ∙ ap (λ missing. if missing then before_rows (unended row) (uncounted_after_lost n form i b more MissingEol)
    else before_rows (found row) (more None row rest)) none
    ∙ ap (before_rows (found row)) (left_of n form (i + 1) None row rest rows end (omega (arith, count)) are)
left_of (suc n) form i before reference b (lost fault ∷ rows) end count (upcoming, is, after) =
    upcoming_of n form i before reference b (failed fault) upcoming (lost_of form i before reference b fault is)
    ∙ ap (before_rows (lost fault)) (after_of n form i b fault rows end count
    (λ at are. left_of n form (i + 1) (Some fault) (white_row form.width) at rows end (omega (arith, count)) are)
    after)
left_of (suc n) form i before reference b (unended row ∷ rows) end count (rest, upcoming, over, eol, below, after) =
    let more : More = λ before row rest. salvage_uncounted n form (i + 1) before row rest in
    upcoming_of n form i before reference b (read row rest) upcoming (over_of form i before reference b row rest over)
    ∙ ap (λ missing. if missing then before_rows (unended row) (uncounted_after_lost n form i b more MissingEol)
    else before_rows (found row) (more None row rest)) (lacks form i rest eol below)
    ∙ ap (before_rows (unended row)) (after_of n form i b MissingEol rows end count
    (λ at are. left_of n form (i + 1) (Some MissingEol) (white_row form.width) at rows end (omega (arith, count)) are)
    after)
