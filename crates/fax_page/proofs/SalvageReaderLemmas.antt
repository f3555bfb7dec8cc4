-- A damaged strip that is gone through row by row.
use Rattle.fax_page.specs.code.Starts.{BeginsBelowEleven}
use Rattle.std.proofs.Common.{◌≡◌, ℕ, ◌+◌, ◌<◌, List, Bool, true, false, Option, Some, None, Err, ap}
use Rattle.std.proofs.Common.{arith, inl, inr}
use Rattle.std.specs.Prelude.{◌⊎◌, MatchOption}
use Rattle.fax_bits.specs.declared.Colour.{Colour}
use Rattle.fax_page.specs.Lines.{StripForm, StripFault, IsLine}
use Rattle.fax_page.specs.Lines.{white_row}
use Rattle.fax_page.specs.Salvage.{IsTwoDimensionalNext, IsReadFrom, NeedsEol, IsLostBecause, resync_point}
use Rattle.fax_page.specs.views.Reader.{StripState, bits_left, ReadsRow, IsAdvance}
use Rattle.fax_page.specs.views.Salvage.{SalvageState, IsAfterLost, FindsRow}
use Rattle.fax_page.specs.code.Salvage.{PassesLost, SaysUnended, IsOverLost, salvaging}

-- a row that is coded over no lost one
read_over : (form : StripForm) (i : ℕ) (before : Option StripFault) (reference : List Colour) (b : List Bool)
    (row : List Colour) (rest : List Bool)
    → (before ≡ None) ⊎ (IsTwoDimensionalNext form.coding i b → ⊥) → IsLine form i reference b row rest
    → IsReadFrom form i before reference b row rest
read_over form i before reference b row rest over line = record {
  line = line;
  alone = λ lost two. elim over [ inl none ↦ lost none | inr not_two ↦ not_two two ];
}

module _ (old : StripState) (before : Option StripFault) (over : IsOverLost (salvaging old before) None) where
  abbrev state : SalvageState
  state = salvaging old before

  alone : old.row < old.form.rows → (before ≡ None) ⊎ (IsTwoDimensionalNext old.form.coding old.row (bits_left old) → ⊥)
  alone upcoming = over (λ all. omega (arith, upcoming, all))

  -- the row is read
  pub row_over : (new : StripState) → ReadsRow old new
      → IsReadFrom old.form old.row before old.reference (bits_left old) new.reference (bits_left new)
  row_over new reads =
      read_over old.form old.row before old.reference (bits_left old) new.reference (bits_left new) (alone
      reads.upcoming)
      reads.line

  pub finds_row : (new : StripState) → ReadsRow old new → SaysUnended new.form new.row (bits_left new) false
      → FindsRow state (salvaging new None)
  finds_row new reads ended =
      let rows : new.form.rows ≡ old.form.rows = ap (λ (f : StripForm). f.rows) reads.same_form in
      record {
        upcoming = reads.upcoming;
        read = row_over new reads;
        ended = λ upcoming below. ended (rw reads.same_form upcoming.0) (λ all. omega (
          arith,
          upcoming.1,
          all,
          reads.next_row,
          rows,
        ))
            below;
        new_is = grind (arith, reads.next_row, reads.same_form);
      }

  -- the row cannot be read
  pub lost_for : (fault : StripFault) (new : StripState) → old.fault ≡ None → IsAdvance old (Err fault) new
      → (old.row < old.form.rows) × IsLostBecause old.form old.row before old.reference (bits_left old) fault
  lost_for fault new none (inl again) = absurd (grind (arith, none, again))
  lost_for fault new none (inr meets) = (meets.upcoming, inr (alone meets.upcoming, meets.cause))

-- an EOL is expected after the row that was read, and something else follows it
pub is_unended : (old new : StripState) → ReadsRow old new → SaysUnended new.form new.row (bits_left new) true
    → NeedsEol old.form old.row × BeginsBelowEleven (bits_left new)
is_unended old new reads says = grind (arith, reads, says)

-- a fault leaves the form and the bytes as they were
pub kept_by : (old new : StripState) (fault : StripFault) → IsAdvance old (Err fault) new
    → (new.form ≡ old.form) × (new.bytes ≡ old.bytes)
kept_by old new fault h = grind arith

weaker : {A : Type 0} (o : Option A) (P R : Type 0) (Q S : A → Type 0) → (P → R) → ((x : A) → Q x → S x)
    → MatchOption o P Q → MatchOption o R S
weaker None P R Q S none some h = none h
weaker (Some x) P R Q S none some h = some x h

-- before the next row, or at the strip's end
abbrev pub Goes : StripForm → ℕ → StripFault → ℕ → StripState → List Bool → Type 0
Goes form i fault rows new upcoming =
    (rows ≡ 1) × (salvaging new (Some fault) ≡ record {
      form = form;
      row = i + 1;
      upcoming = upcoming;
      reference = white_row form.width;
      before = Some fault;
    })

upcoming_next : (form : StripForm) (i : ℕ) (fault : StripFault) (rows : ℕ) (new : StripState) (upcoming : List Bool)
    → new.form ≡ form
    → (rows ≡ 1) × (new.row ≡ i + 1) × (new.reference ≡ white_row form.width) × (bits_left new ≡ upcoming)
    → Goes form i fault rows new upcoming
upcoming_next form i fault rows new upcoming same_form h = grind arith

-- rows are lost from the next one on
pub after_lost : (old middle new : StripState) (before : Option StripFault) (fault : StripFault) (rows : ℕ)
    → (middle.form ≡ old.form) × (middle.bytes ≡ old.bytes) → PassesLost middle old.row old.place rows new
    → IsAfterLost (salvaging old before) fault rows (salvaging new (Some fault))
after_lost old middle new before fault rows same passed =
    let moved : PassesLost (record middle { form = old.form; bytes = old.bytes }) old.row old.place rows new =
    rw (same.0, same.1) at passed in (
      moved.0,
      moved.1,
      weaker (resync_point old.form.coding moved.0) _ _ _ _ (λ all. (all.0, moved.2, all.1))
          (λ upcoming is. upcoming_next old.form old.row fault rows new upcoming moved.2 is) moved.4,
    )
