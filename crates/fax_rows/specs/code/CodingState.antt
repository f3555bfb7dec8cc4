-- How far a row is read in two-dimensional coding into its places of change.
use Rattle.std.specs.Prelude.{◌≡◌, ℕ, ◌+◌, ◌-◌, ◌≤◌, ◌<◌, Bool, List, None, IsTrue, length, take}
use Rattle.std.specs.Prelude.{slice_index}
use Rattle.fax_bits.specs.declared.Colour.TheVariants.{Black}
use Rattle.fax_rows.specs.declared.two_dimensional.steps.CodingState.{CodingState}
use Rattle.fax_rows.specs.Rows.{Position, beginning}
use Rattle.fax_rows.specs.code.CodingSteps.{IsHorizontalStep}
use Rattle.fax_rows.specs.code.CodingPosition.{position_pel, position_of}
use Rattle.fax_rows.specs.declared.change_list.ChangingElements.{ChangingElements}
use Rattle.fax_rows.specs.code.Chosen.{ReachesBySteps, ReachesByCanonicalSteps, IsCanonicalPair}
use Rattle.fax_rows.specs.code.ChangingElements.{element_pels, IsB1At}
use Rattle.fax_rows.specs.code.ChangeLists.{toggled, pels_of_changes, IsAscending}

-- the position on the row of the places that are put (T.4, section 4.2.1.3.1)
abbrev pub coding_position : ℕ → List ℕ → CodingState → Position
coding_position width changes at =
    position_of at.position (pels_of_changes width (take at.end changes))

-- the places that are put are those of the pels before a0, after which the row has a0's colour,
-- none just before the first pel, and the index is that of b1 while the row is not at its end
pub record IsCodingState (reference : ChangingElements) (changes : List ℕ) (at : CodingState) : Type
    0 where
  pub room : length changes ≡ reference.width + 4
  pub within : position_pel at.position ≤ reference.width
  pub started : at.position.a0 ≡ None → at.end ≡ 1
  pub ascending : IsAscending changes at.end
  pub last : slice_index changes (at.end - 1) ≤ position_pel at.position
  pub after : (i : ℕ) → position_pel at.position ≤ i
      → toggled Black (take at.end changes) i ≡ at.position.colour
  pub b1 : position_pel at.position < reference.width
      → IsB1At reference at.position.a0 at.position.colour at.b1

-- this is so, and the row is not at its end
pub record IsCodingStateInRow (reference : ChangingElements) (put : List ℕ) (at : CodingState) :
    Type 0 where
  pub so_far : IsCodingState reference put at
  pub unfinished : position_pel at.position < reference.width

-- the bits begin with steps over which the row is read on, where it is asked for those that T.4
-- chooses
pub record AreStepsRead (choice : Bool) (reference : ChangingElements) (old new : List ℕ)
    (at next : CodingState) (b rest : List Bool) : Type 0 where
  pub steps : ReachesBySteps (element_pels reference) (coding_position reference.width old at) b
      (coding_position reference.width new next) rest
  pub chosen : IsTrue choice → ReachesByCanonicalSteps (element_pels reference)
      (coding_position reference.width old at) b (coding_position reference.width new next) rest
  pub so_far : IsCodingState reference new next

-- and from the row's beginning on
pub record IsReadSoFar (choice : Bool) (reference : ChangingElements) (changes : List ℕ)
    (at : CodingState) (b rest : List Bool) : Type 0 where
  pub steps : ReachesBySteps (element_pels reference) beginning b
      (coding_position reference.width changes at) rest
  pub chosen : IsTrue choice → ReachesByCanonicalSteps (element_pels reference) beginning b
      (coding_position reference.width changes at) rest
  pub so_far : IsCodingState reference changes at

-- the bits begin with the two runs of a step in horizontal mode, where it is asked for as T.4
-- chooses it
pub record IsPairReadOn (choice : Bool) (reference : ChangingElements) (old new : List ℕ)
    (at next : CodingState) (b rest : List Bool) : Type 0 where
  pub step : IsHorizontalStep (element_pels reference) (coding_position reference.width old at) b
      (coding_position reference.width new next) rest
  pub chosen : IsTrue choice → IsCanonicalPair (element_pels reference)
      (coding_position reference.width old at) b (coding_position reference.width new next) rest
  pub so_far : IsCodingState reference new next
