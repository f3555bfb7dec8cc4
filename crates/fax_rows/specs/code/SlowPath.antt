-- Where a row in two-dimensional coding is to be read on.
use Rattle.std.specs.Prelude.{◌≡◌, ℕ, ◌+◌, ◌++◌, Bool, List, [], length}
use Rattle.fax_bits.specs.views.Source.{Source}
use Rattle.fax_rows.specs.declared.change_list.ChangingElements.{ChangingElements}
use Rattle.fax_rows.specs.declared.two_dimensional.slow_path.SlowPath.{SlowPath}
use Rattle.fax_rows.specs.declared.two_dimensional.steps.CodingState.{CodingState}
use Rattle.fax_rows.specs.Rows.{a0_number}
use Rattle.fax_rows.specs.code.NeedsTable.{IsNeededAt}
use Rattle.fax_rows.specs.code.CodingState.{IsReadSoFar}
use Rattle.fax_rows.specs.code.CodingPosition.{position_of}

-- the bits of the source begin with steps from the row's beginning on, and then this is expected
pub record IsSlowPath (choice : Bool) (reference : ChangingElements) (source : Source) (changes :
    List ℕ)
    (slow_path_at : SlowPath) : Type 0 where
  pub at : CodingState
  pub a0 : slow_path_at.a0 ≡ a0_number (position_of at.position [])
  pub end : slow_path_at.end ≡ at.end
  pub b1 : slow_path_at.b1 ≡ at.b1
  pub middle : List Bool
  pub read : IsReadSoFar choice reference changes at source.remaining middle
  pub front : List Bool
  pub rest : List Bool
  pub bits : source.remaining ≡ front ++ rest
  pub place : slow_path_at.place ≡ source.place + length front
  pub needed : IsNeededAt reference changes at middle slow_path_at.needed rest
