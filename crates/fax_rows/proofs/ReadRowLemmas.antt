-- A row in two-dimensional coding that is read from its beginning to its end.
use Rattle.std.proofs.Common.{◌≡◌, ℕ, List, take, Bool, None, refl, ap, sym, ◌∙◌, arith}
use Rattle.fax_bits.specs.declared.Colour.TheVariants.{White}
use Rattle.fax_rows.specs.declared.change_list.ChangingElements.{ChangingElements}
use Rattle.fax_rows.specs.declared.two_dimensional.steps.CodingState.{CodingState}
use Rattle.fax_rows.specs.Rows.{beginning}
use Rattle.fax_rows.specs.code.CodingState.{coding_position, AreStepsRead, IsReadSoFar}
use Rattle.fax_rows.specs.code.ChangingElements.{element_pels}
use Rattle.fax_rows.specs.code.CodingPosition.{position_pel}
use Rattle.fax_rows.specs.code.Put.{HasRoom}
use Rattle.fax_rows.specs.code.ReadRow.{IsReadRow}
use Rattle.fax_rows.specs.code.ChangeLists.{pels_of_changes}
use Rattle.fax_rows.proofs.ChangeLemmas.{first_of}
use Rattle.fax_rows.proofs.ChosenRowLemmas.{chosen_ends}
use Rattle.fax_rows.proofs.GoesOnLemmas.{chosen_further, chosen_so_far, goes_further, no_chosen_step, no_step}
use Rattle.fax_rows.proofs.PlacedB1Lemmas.{length-element_pels}
use Rattle.fax_rows.proofs.PlacedStepLemmas.{nothing_read, steps_done}
use Rattle.fax_rows.proofs.TurnLemmas.{length-pels_of_changes}

pub nothing_so_far : {choice : Bool} {reference : ChangingElements} {changes : List ℕ} (b : List Bool)
    → HasRoom reference.width changes
    → IsReadSoFar choice reference changes (record { position = record { a0 = None; colour = White }; end = 1; b1 = 1 })
    b b
nothing_so_far b room = record {
  steps = no_step _ beginning b;
  chosen = λ asked. no_chosen_step _ beginning b;
  so_far = nothing_read room;
}

pub read_further : {choice : Bool} {reference : ChangingElements} {old new : List ℕ} {at next : CodingState}
    {b mid rest : List Bool} → IsReadSoFar choice reference old at b mid
    → AreStepsRead choice reference old new at next mid rest → IsReadSoFar choice reference new next b rest
read_further so_far read = record {
  steps = goes_further so_far.steps read.steps;
  chosen = λ asked. chosen_further (so_far.chosen asked) (read.chosen asked);
  so_far = read.so_far;
}

pub row_done : {choice : Bool} {reference : ChangingElements} {b : List Bool} {changes : List ℕ} {at : CodingState}
    {rest : List Bool} → IsReadSoFar choice reference changes at b rest → position_pel at.position ≡ reference.width
    → IsReadRow choice reference b changes at.end rest
row_done {reference = reference} {b = b} {changes = changes} {at = at} {rest = rest} read done =
    let len = length-element_pels reference in
    let row = pels_of_changes reference.width (take at.end changes) in
    let row_len = length-pels_of_changes reference.width (take at.end changes) in
    let last = coding_position reference.width changes at in
    record {
      row = steps_done (element_pels reference) b at.position row rest reference.width read.steps
          reference.elements.some
          done row_len len;
      chosen = λ asked.
          chosen_ends (element_pels reference) row b last rest (chosen_so_far (element_pels reference) b last rest
          (read.chosen asked))
          (row_len ∙ sym len)
          (record {
            read = refl;
            coloured = λ a is inside. absurd (let first = ap first_of is in omega (arith, row_len));
          })
          (omega (arith, row_len));
      put = record {
        room = read.so_far.room;
        ascending = read.so_far.ascending;
        last = omega (arith, read.so_far.last, done);
        within =
            omega arith;
      };
    }
