-- What is left of rows of a strip of unknown height is found and lost in one way.
use Rattle.std.proofs.Common.{◌≡◌, ℕ, ◌+◌, ◌-◌, ◌<◌, ◌≤◌, List, [], ◌∷◌, ◌++◌, replicate, Bool}
use Rattle.std.proofs.Common.{Option, Some, None, refl, ap, sym, subst, arith, inl, inr}
use Rattle.std.specs.Prelude.{MatchOption}
use Rattle.fax_bits.specs.declared.Colour.{Colour}
use Rattle.fax_page.specs.declared.StripFault.TheVariants.{MissingEol}
use Rattle.fax_page.specs.Lines.{StripFault, StripForm, white_row}
use Rattle.fax_page.specs.Uncounted.{RowsEnd}
use Rattle.fax_page.specs.Salvage.{AreSalvaged, ResumesAfter, IsSalvagedStrip}
use Rattle.fax_page.specs.Salvage.{SalvagedRow, found, lost, resync_point, unended}
use Rattle.fax_page.specs.LeftUncounted.{AreLeftUncounted, ResumesUncounted, IsLeftUncounted}
use Rattle.fax_page.specs.laws.LeftUncounted.{AreUncountedOneWay}
use Rattle.fax_page.specs.laws.Salvage.{SalvagesStripsOneWay}
use Rattle.fax_page.specs.laws.StripGraphs.{DamagedStripsAreReadByFunctions}
use Rattle.fax_page.specs.reads.Salvage.{RowsAndEnd, salvage_uncounted}
use Rattle.fax_page.proofs.LeftUncountedGraph.{left_are, left_of}
use Rattle.fax_page.proofs.SalvageGraph.{rows_are, rows_of}

pub left_one_way : (form : StripForm) (i : ℕ) (before : Option StripFault)
    (reference : List Colour) (b : List Bool) → i ≤ form.rows → AreUncountedOneWay form i before reference b
left_one_way form i before reference b within =
    let upcoming : i + (form.rows - i) ≡ form.rows = omega (arith, within) in
    let remaining = salvage_uncounted (form.rows - i) form i before reference b in
    record {
      rows = remaining.0;
      end = remaining.1;
      are = left_are (form.rows - i) form i before reference b upcoming;
      one = λ others other are.
          let same = sym (left_of (form.rows - i) form i before reference b others other upcoming are) in
          (ap (λ (l : RowsAndEnd). l.0) same, ap (λ (l : RowsAndEnd). l.1) same);
    }

-- functions read what is left of strips, counted or not
pub damaged_graph : DamagedStripsAreReadByFunctions
damaged_graph = record {
  strip = λ form b rows. (
    λ is. rows_of form.rows form 0 None (white_row form.width) b rows (omega arith) is,
    λ same. subst (IsSalvagedStrip form b) same
        (rows_are form.rows form 0 None (white_row form.width) b (omega arith)),
  );
  uncounted = λ form b rows end. (
    λ is. left_of form.rows form 0 None (white_row form.width) b rows end (omega arith) is,
    λ same. subst (λ (remaining : RowsAndEnd). IsLeftUncounted form b remaining.0 remaining.1) same
        (left_are form.rows form 0 None (white_row form.width) b (omega arith)),
  );
}

-- ---- they are the first of a strip with as many as there may be

module _ (salvages : SalvagesStripsOneWay) where
  abbrev IsFirst : StripForm → ℕ → Option StripFault → List Colour → List Bool → List SalvagedRow → Type 0
  IsFirst form i before reference b rows =
      (others : List SalvagedRow) × AreSalvaged form i before reference b (rows ++ others)

  after_lost : (form : StripForm) (i : ℕ) (b : List Bool) (fault : StripFault) (rows : List SalvagedRow) (end : RowsEnd)
      → i < form.rows
      → ((upcoming : List Bool) → AreLeftUncounted form (i + 1) (Some fault) (white_row form.width) upcoming rows end
      → IsFirst form (i + 1) (Some fault) (white_row form.width) upcoming rows)
      → ResumesUncounted form i b fault
      (λ upcoming. AreLeftUncounted form (i + 1) (Some fault) (white_row form.width) upcoming rows end) rows end
      → (others : List SalvagedRow) × ResumesAfter form i b fault
      (λ upcoming. AreSalvaged form (i + 1) (Some fault) (white_row form.width) upcoming (rows ++ others)) (rows
      ++ others)
  after_lost form i b fault rows end low later (from, sought, inr (upcoming, some, more, are)) =
      let rest = later upcoming are in
      (rest.0, (from, sought, rw some rest.1))
  after_lost form i b fault rows end low later (from, sought, inl (none, is, ends)) =
      let rest = at_upcoming (resync_point form.coding from) in
      (rest.0, (from, sought, rw is rest.1))
    where
      at_upcoming : (o : Option (List Bool)) → (others : List SalvagedRow) × MatchOption o
          (others ≡ replicate (form.rows - (i + 1)) (lost fault))
          (λ upcoming. AreSalvaged form (i + 1) (Some fault) (white_row form.width) upcoming others)
      at_upcoming None = (replicate (form.rows - (i + 1)) (lost fault), refl)
      at_upcoming (Some upcoming) =
          let rest = salvages form (i + 1) (Some fault) (white_row form.width) upcoming (omega (arith, low)) in
          (rest.rows, rest.are)

  pub first_rows : (form : StripForm) (i : ℕ) (before : Option StripFault) (reference : List Colour) (b : List Bool)
      (rows : List SalvagedRow) (end : RowsEnd) → i ≤ form.rows → AreLeftUncounted form i before reference b rows end
      → IsFirst form i before reference b rows
  first_rows form i before reference b [] end within ended =
      let rest = salvages form i before reference b within in (rest.rows, rest.are)
  first_rows form i before reference b (found row ∷ rows) end within (rest, upcoming, over, ended, are) =
      let more = first_rows form (i + 1) None row rest rows end (omega (arith, upcoming.0)) are in
      (more.0, (rest, upcoming.0, over, ended, more.1))
  first_rows form i before reference b (lost fault ∷ rows) end within (upcoming, is, after) =
      let low : i + 1 ≤ form.rows = omega (arith, upcoming.0) in
      let more = after_lost form i b fault rows end upcoming.0
      (λ at are. first_rows form (i + 1) (Some fault) (white_row form.width) at rows end low are) after in
      (more.0, (upcoming.0, is, more.1))
  first_rows form i before reference b (unended row ∷ rows) end within (rest, upcoming, over, eol, below, after) =
      let low : i + 1 ≤ form.rows = omega (arith, upcoming.0) in
      let more = after_lost form i b MissingEol rows end upcoming.0
      (λ at are. first_rows form (i + 1) (Some MissingEol) (white_row form.width) at rows end low are) after in
      (more.0, (rest, over, eol, below, more.1))
