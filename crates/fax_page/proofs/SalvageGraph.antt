-- What functions read of damaged strips is what is defined.
use Rattle.fax_page.specs.code.Starts.{BeginsBelowEleven}
use Rattle.fax_page.proofs.StartLaws.{IsStart}
use Rattle.std.proofs.Common.{arith, ◌≡◌, ◌≢◌, ℕ, zero, suc, ◌+◌, ◌-◌, ◌<◌, List, [], ◌∷◌, Bool, true, false, refl}
use Rattle.std.proofs.Common.{sym, ap, ◌∙◌, inl, inr, Option, Some, None, replicate}
use Rattle.std.specs.Prelude.{MatchOption, nat_lt, if◌then◌else◌, ◌&&◌}
use Rattle.std.proofs.lemmas.Bool.Decides.{nat_tests}
use Rattle.fax_bits.specs.declared.Colour.{Colour}
use Rattle.fax_bits.specs.Reading.{Read, read, failed}
use Rattle.fax_rows.proofs.StepReadLemmas.{is_false}
use Rattle.fax_page.specs.declared.Coding.{Coding}
use Rattle.fax_page.specs.declared.Coding.TheVariants.{Mh, Mr, Mmr}
use Rattle.fax_page.specs.declared.Dimension.{Dimension}
use Rattle.fax_page.specs.declared.Dimension.TheVariants.{OneDimensional, TwoDimensional}
use Rattle.fax_page.specs.declared.StripFault.{StripFault}
use Rattle.fax_page.specs.declared.StripFault.TheVariants.{MissingEol}
use Rattle.fax_page.specs.declared.StripForm.{StripForm}
use Rattle.fax_page.specs.Lines.{NextOne}
use Rattle.fax_page.specs.Lines.{ends_line, in_code, next_one, not_there, read_start}
use Rattle.fax_page.specs.Lines.{white_row}
use Rattle.fax_page.specs.Salvage.{AreSalvaged, IsTwoDimensionalNext, ResumesAfter, NeedsEol, IsLostBecause, IsReadFrom}
use Rattle.fax_page.specs.Salvage.{resync_from, SalvagedRow, found, lost, resync_point, unended}
use Rattle.fax_page.specs.Lines.{read_line}
use Rattle.fax_page.specs.reads.Salvage.{after_lost, is_in_code, cause_over, from_eol, has_eols, is_unterminated}
use Rattle.fax_page.specs.reads.Salvage.{read_over, row_and_more, salvage_rows, unless}

abbrev pub Start : Type 0
Start = Read Dimension StripFault

abbrev pub Line : Type 0
Line = Read (List Colour) StripFault

-- whether an EOL is missing after a row
begins_where : (b : List Bool) (one : NextOne) → next_one 0 b ≡ one → is_in_code one ≡ true → BeginsBelowEleven b
begins_where b in_code at is = at
begins_where b (ends_line rest) at is = absurd (cc is)
begins_where b not_there at is = absurd (cc is)

eols : (coding : Coding) → coding ≢ Mmr → has_eols coding ≡ true
eols Mh other = refl
eols Mr other = refl
eols Mmr other = absurd (other refl)

eols_where : (coding : Coding) → has_eols coding ≡ true → coding ≢ Mmr
eols_where Mh is = λ mmr. cc
eols_where Mr is = λ mmr. cc
eols_where Mmr is = absurd (cc is)

all_three : (first second third : Bool) → first ≡ true → second ≡ true → third ≡ true
    → ((first && second) && third) ≡ true
all_three first second third one two three = rw (one, two, three) refl

each_of : (first second third : Bool) → ((first && second) && third) ≡ true
    → (first ≡ true) × (second ≡ true) × (third ≡ true)
each_of false second third is = absurd (cc is)
each_of true false third is = absurd (cc is)
each_of true true third is = (refl, refl, is)

pub lacks : (form : StripForm) (i : ℕ) (rest : List Bool) → NeedsEol form i → BeginsBelowEleven rest
    → is_unterminated form i rest ≡ true
lacks form i rest upcoming below =
    let more : nat_lt (i + 1) form.rows ≡ true = grind (arith, nat_tests, upcoming.1) in
    all_three (has_eols form.coding) (nat_lt (i + 1) form.rows) (is_in_code (next_one 0 rest))
    (eols form.coding upcoming.0) more (ap is_in_code below)

pub lacks_where : (form : StripForm) (i : ℕ) (rest : List Bool) → is_unterminated form i rest ≡ true
    → NeedsEol form i × BeginsBelowEleven rest
lacks_where form i rest is =
    let each = each_of (has_eols form.coding) (nat_lt (i + 1) form.rows)
    (is_in_code (next_one 0 rest)) is in
    let more : i + 1 < form.rows = grind (arith, nat_tests, each.1) in (
      (eols_where form.coding each.0, more),
      begins_where rest (next_one 0 rest) refl each.2,
    )

-- a row that is read, or lost
abbrev pub IsOver : StripForm → ℕ → Option StripFault → List Colour → List Bool → Line → Type 0
IsOver form i before reference b (read row rest) = IsReadFrom form i before reference b row rest
IsOver form i before reference b (failed fault) = IsLostBecause form i before reference b fault

-- by how it begins
pub by_start : (form : StripForm) (i : ℕ) (before : Option StripFault) (reference : List Colour) (b : List Bool)
    (start : Start) → IsStart form.coding i b start → (r : Line) → read_line form i reference b ≡ r
    → IsOver form i before reference b (unless (cause_over before start) r)
by_start form i None reference b start same (read row rest) line =
    record { line = line; alone = λ some. absurd (some refl) }
by_start form i None reference b start same (failed fault) cause = inr (inl refl, cause)
by_start form i (Some before) reference b (read TwoDimensional codes) same r line = inl (refl, (codes, same))
by_start form i (Some before) reference b (read OneDimensional codes) same (read row rest) line =
    record { line = line; alone = λ some two. let origin = two.1 in cc (same, origin) }
by_start form i (Some before) reference b (read OneDimensional codes) same (failed fault) cause =
    let no_two : IsTwoDimensionalNext form.coding i b → ⊥ = λ two. let origin = two.1 in absurd (cc (same, origin)) in
    inr (inr no_two, cause)
by_start form i (Some before) reference b (failed stop) same (read row rest) line =
    record { line = line; alone = λ some two. let origin = two.1 in cc (same, origin) }
by_start form i (Some before) reference b (failed stop) same (failed fault) cause =
    let no_two : IsTwoDimensionalNext form.coding i b → ⊥ = λ two. let origin = two.1 in absurd (cc (same, origin)) in
    inr (inr no_two, cause)

abbrev More : Type 0
More = Option StripFault → List Colour → List Bool → List SalvagedRow

-- the rows after a lost one
by_upcoming : (n : ℕ) (form : StripForm) (i : ℕ) (more : More) (fault : StripFault) (at : Option (List Bool))
    → n ≡ form.rows - (i + 1)
    → ((upcoming : List Bool) → AreSalvaged form (i + 1) (Some fault) (white_row form.width) upcoming
    (more (Some fault) (white_row form.width) upcoming))
    → MatchOption at (from_eol n form more fault at ≡ replicate (form.rows - (i + 1)) (lost fault))
    (λ upcoming. AreSalvaged form (i + 1) (Some fault) (white_row form.width) upcoming (from_eol n form more fault at))
by_upcoming n form i more fault None count are = ap (λ k. replicate k (lost fault)) count
by_upcoming n form i more fault (Some upcoming) count are = are upcoming

goes_on : (n : ℕ) (form : StripForm) (i : ℕ) (b : List Bool) (more : More) (fault : StripFault)
    → n ≡ form.rows - (i + 1)
    → ((upcoming : List Bool) → AreSalvaged form (i + 1) (Some fault) (white_row form.width) upcoming
    (more (Some fault) (white_row form.width) upcoming))
    → ResumesAfter form i b fault
    (λ upcoming. AreSalvaged form (i + 1) (Some fault) (white_row form.width) upcoming (after_lost n form i b more
    fault))
    (after_lost n form i b more fault)
goes_on n form i b more fault count are = (
  resync_from b (read_start form.coding i b),
  refl,
  by_upcoming n form i more fault (resync_point form.coding (resync_from b (read_start form.coding i b))) count are,
)

-- a row and those after it
module _ (n : ℕ) (form : StripForm) (i : ℕ) (before : Option StripFault) (reference : List Colour) (b : List Bool)
    (more : More) (upcoming : i + suc n ≡ form.rows)
    (are : (lost : Option StripFault) (row : List Colour) (rest : List Bool)
    → AreSalvaged form (i + 1) lost row rest (more lost row rest)) where
  by_end : (row : List Colour) (rest : List Bool) → IsReadFrom form i before reference b row rest → (missing : Bool)
      → is_unterminated form i rest ≡ missing
      → AreSalvaged form i before reference b
      (if missing then (unended row ∷ after_lost n form i b more MissingEol) else (found row ∷ more None row rest))
  by_end row rest over true at =
      let missing = lacks_where form i rest at in (
        rest,
        over,
        missing.0,
        missing.1,
        goes_on n form i b more MissingEol (omega (arith, upcoming))
            (λ next. are (Some MissingEol) (white_row form.width) next),
      )
  by_end row rest over false at = (
    rest,
    omega (arith, upcoming),
    over,
    (λ eol below. let missing = lacks form i rest eol below in absurd (cc (at, missing))),
    are None row rest,
  )

  by_line : (r : Line) → IsOver form i before reference b r
      → AreSalvaged form i before reference b (row_and_more n form i b more r)
  by_line (read row rest) over = by_end row rest over (is_unterminated form i rest) refl
  by_line (failed fault) cause = (
    omega (arith, upcoming),
    cause,
    goes_on n form i b more fault (omega (arith, upcoming)) (λ next. are (Some fault) (white_row form.width) next),
  )

-- a row that is read, or lost, is defined so
pub over_is : (form : StripForm) (i : ℕ) (before : Option StripFault) (reference : List Colour) (b : List Bool)
    → IsOver form i before reference b (read_over form i before reference b)
over_is form i before reference b =
    by_start form i before reference b (read_start form.coding i b) refl (read_line form i reference b) refl

no_cause : (form : StripForm) (i : ℕ) (before : StripFault) (b : List Bool) (start : Start)
    → IsStart form.coding i b start → (IsTwoDimensionalNext form.coding i b → ⊥)
    → cause_over (Some before) start ≡ None
no_cause form i before b (failed fault) is not_two = refl
no_cause form i before b (read OneDimensional codes) is not_two = refl
no_cause form i before b (read TwoDimensional codes) is not_two = absurd (not_two (codes, is))

-- and what is defined is read
pub over_of : (form : StripForm) (i : ℕ) (before : Option StripFault) (reference : List Colour) (b : List Bool)
    (row : List Colour) (rest : List Bool) → IsReadFrom form i before reference b row rest
    → read_over form i before reference b ≡ read row rest
over_of form i None reference b row rest over = over.line
over_of form i (Some before) reference b row rest over =
    ap (λ cause. unless cause (read_line form i reference b))
    (no_cause form i before b (read_start form.coding i b) refl (over.alone (λ none. cc (none))))
    ∙ over.line

pub lost_of : (form : StripForm) (i : ℕ) (before : Option StripFault) (reference : List Colour) (b : List Bool)
    (fault : StripFault) → IsLostBecause form i before reference b fault
    → read_over form i before reference b ≡ failed fault
lost_of form i before reference b fault (inl (is, (codes, two))) =
    ap (λ cause. unless (cause_over cause (read_start form.coding i b)) (read_line form i reference b)) is
    ∙ ap (λ start. unless (cause_over (Some fault) start) (read_line form i reference b))
    two
lost_of form i None reference b fault (inr (_, cause)) = cause
lost_of form i (Some before) reference b fault (inr (inl none, cause)) = absurd (cc none)
lost_of form i (Some before) reference b fault (inr (inr not_two, cause)) =
    ap (λ over. unless over (read_line form i reference b))
    (no_cause form i before b (read_start form.coding i b) refl not_two)
    ∙ cause

pub rows_are : (n : ℕ) (form : StripForm) (i : ℕ) (before : Option StripFault) (reference : List Colour)
    (b : List Bool) → i + n ≡ form.rows
    → AreSalvaged form i before reference b (salvage_rows n form i before reference b)
rows_are zero form i before reference b upcoming = omega (arith, upcoming)
rows_are (suc n) form i before reference b upcoming =
    by_line n form i before reference b (λ before row rest. salvage_rows n form (i + 1) before row rest) upcoming
    (λ before row rest. rows_are n form (i + 1) before row rest (omega (arith, upcoming)))
    (read_over form i before reference b) (over_is form i before reference b)

-- what follows a lost row
after_of : (n : ℕ) (form : StripForm) (i : ℕ) (b : List Bool) (fault : StripFault) (rows : List SalvagedRow)
    → i + suc n ≡ form.rows
    → ((upcoming : List Bool) → AreSalvaged form (i + 1) (Some fault) (white_row form.width) upcoming rows
    → salvage_rows n form (i + 1) (Some fault) (white_row form.width) upcoming ≡ rows)
    → ResumesAfter form i b fault (λ upcoming. AreSalvaged form (i + 1) (Some fault) (white_row form.width) upcoming
    rows) rows
    → after_lost n form i b (λ before row rest. salvage_rows n form (i + 1) before row rest) fault ≡ rows
after_of n form i b fault rows count later (from, sought, after) =
    ap (λ f. from_eol n form more fault (resync_point form.coding f)) sought
    ∙ at_upcoming (resync_point form.coding from) after
  where
    more : More
    more before row rest = salvage_rows n form (i + 1) before row rest

    at_upcoming : (o : Option (List Bool)) → MatchOption o (rows ≡ replicate (form.rows - (i + 1)) (lost fault))
        (λ upcoming. AreSalvaged form (i + 1) (Some fault) (white_row form.width) upcoming rows)
        → from_eol n form more fault o ≡ rows
    at_upcoming None all =
        let many : n ≡ form.rows - (i + 1) = omega (arith, count) in
        ap (λ k. replicate k (lost fault)) many ∙ sym all
    at_upcoming (Some upcoming) are = later upcoming are

pub rows_of : (n : ℕ) (form : StripForm) (i : ℕ) (before : Option StripFault) (reference : List Colour)
    (b : List Bool) (rows : List SalvagedRow) → i + n ≡ form.rows → AreSalvaged form i before reference b rows
    → salvage_rows n form i before reference b ≡ rows
rows_of zero form i before reference b [] count are = refl
rows_of zero form i before reference b (found row ∷ rows) count are = absurd (omega (arith, count, are.1))
rows_of zero form i before reference b (lost fault ∷ rows) count are = absurd (omega (arith, count, are.0))
rows_of zero form i before reference b (unended row ∷ rows) count are = absurd (omega (arith, count, are.2.1))
rows_of (suc n) form i before reference b [] count are = absurd (omega (arith, count, are))
rows_of (suc n) form i before reference b (found row ∷ rows) count (rest, low, over, ended, are) =
    let more : More = λ before row rest. salvage_rows n form (i + 1) before row rest in
    let none = is_false (is_unterminated form i rest) (λ is. let missing = lacks_where form i rest is in
    ended missing.0 missing.1) in
    ap (row_and_more n form i b more) (over_of form i before reference b row rest over)
    ∙ ap (λ missing. if missing then unended row ∷ after_lost n form i b more MissingEol
    else found row ∷ more None row rest) none
    ∙ ap (λ all. found row ∷ all) (rows_of n form (i + 1) None row rest rows (omega (arith, count)) are)
rows_of (suc n) form i before reference b (lost fault ∷ rows) count (low, is, after) =
    let more : More = λ before row rest. salvage_rows n form (i + 1) before row rest in
    ap (row_and_more n form i b more) (lost_of form i before reference b fault is)
    ∙ ap (λ all. lost fault ∷ all) (after_of n form i b fault rows count
    (λ upcoming are. rows_of n form (i + 1) (Some fault) (white_row form.width) upcoming rows (omega (arith, count))
    are) after)
rows_of (suc n) form i before reference b (unended row ∷ rows) count (rest, over, upcoming, below, after) =
    let more : More = λ before row rest. salvage_rows n form (i + 1) before row rest in
    ap (row_and_more n form i b more) (over_of form i before reference b row rest over)
    ∙ ap (λ missing. if missing then unended row ∷ after_lost n form i b more MissingEol
    else found row ∷ more None row rest) (lacks form i rest upcoming below)
    ∙ ap (λ all. unended row ∷ all) (after_of n form i b MissingEol rows count
    (λ upcoming are. rows_of n form (i + 1) (Some MissingEol) (white_row form.width) upcoming rows (omega (
      arith,
      count,
    )) are)
    after)
