-- Rows that are read over a white reference row.
use Rattle.std.proofs.Common.{◌≡◌, ℕ, pos, ◌+◌, ◌<◌, List, get_or, Bool, true, refl, ap, sym, ◌∙◌, subst, arith, inl}
use Rattle.std.proofs.lemmas.Grind.{common_steps}
use Rattle.std.proofs.lemmas.Int.{ints}
use Rattle.std.specs.Prelude.{Option, Some, IsTrue, unwrap_or}
use Rattle.fax_bits.specs.declared.Colour.TheVariants.{White}
use Rattle.fax_rows.specs.declared.change_list.ChangingElements.{ChangingElements}
use Rattle.fax_rows.specs.declared.two_dimensional.horizontal_runs.TwoRuns.{TwoRuns}
use Rattle.fax_rows.specs.declared.two_dimensional.over_white.OverWhiteState.{OverWhiteState}
use Rattle.fax_rows.specs.declared.two_dimensional.steps.CodingState.{CodingState}
use Rattle.fax_rows.specs.Rows.{b1, b2, is_right_of, first_pel}
use Rattle.fax_rows.specs.code.CodingSteps.{IsVerticalStep}
use Rattle.fax_rows.specs.code.NeedsTable.{AreReadRuns}
use Rattle.fax_rows.specs.code.OverWhite.{placed_over_white, HavePels}
use Rattle.fax_rows.specs.code.CodingState.{coding_position, IsCodingState, IsCodingStateInRow, IsPairReadOn}
use Rattle.fax_rows.specs.code.ChangingElements.{element_pels, IsB1At}
use Rattle.fax_rows.specs.code.CodingPosition.{position_pel}
use Rattle.fax_rows.specs.code.ChangeLists.{TogglesAt}
use Rattle.fax_rows.proofs.PlacedB1Lemmas.{b1_is, b2_is, length-element_pels}
use Rattle.fax_rows.proofs.PlacedStepLemmas.{pair_placed, horizontal_placed, horizontal_so_far}

-- the first pel that is not read
pub reached_over_white : (at : OverWhiteState) → position_pel (placed_over_white at).position ≡ at.first_pel
reached_over_white at = grind (arith, common_steps)

-- the row is not at its end
pub inside_over_white : {reference : ChangingElements} {changes : List ℕ} {at : OverWhiteState}
    → IsCodingState reference changes (placed_over_white at) → at.first_pel < reference.width
    → IsCodingStateInRow reference changes (placed_over_white at)
inside_over_white {at = at} so_far unfinished =
    record { so_far = so_far; unfinished = omega (arith, unfinished, reached_over_white at) }

-- a place over a white reference row
abbrev white_at : Option ℕ → ℕ → CodingState
white_at a0 end = record { position = record { a0 = a0; colour = White }; end = end; b1 = 1 }

placed_inside : (first_pel end : ℕ) → 0 < first_pel
    → placed_over_white (record { first_pel = first_pel; end = end }) ≡ white_at (Some first_pel) end
placed_inside first_pel end some = grind (arith, common_steps)

-- a pel after the first runs is right of a0
right_of_white : (at : OverWhiteState) (n : ℕ) → (0 < at.first_pel → 0 < n)
    → is_right_of (placed_over_white at).position.a0 (at.first_pel + n) ≡ true
right_of_white at n some = grind (arith, common_steps)

-- b1 and b2 are at the row's end
b1_at_end : (reference : ChangingElements) (a0 : Option ℕ) → reference.end ≡ 1 → IsB1At reference a0 White 1
b1_at_end reference a0 white = grind arith

b1_is_width : (reference : ChangingElements) (a0 : Option ℕ) → reference.end ≡ 1
    → b1 (element_pels reference) a0 White ≡ reference.width
b1_is_width reference a0 white =
    sym (b1_is reference (b1_at_end reference a0 white))
    ∙ subst (λ n. get_or reference.changes.now (n + 0) 0 ≡ reference.width) white
    (reference.elements.after 0 (omega arith))

b2_is_width : (reference : ChangingElements) (a0 : Option ℕ) → reference.end ≡ 1
    → b2 (element_pels reference) a0 White ≡ reference.width
b2_is_width reference a0 white =
    sym (b2_is reference (b1_at_end reference a0 white))
    ∙ subst (λ n. get_or reference.changes.now (n + 1) 0 ≡ reference.width) white
    (reference.elements.after 1 (omega arith))

-- the step to b1 ends the row
pub end_reached : (reference : ChangingElements) (old new : List ℕ) (at : OverWhiteState) (next : CodingState)
    → reference.end ≡ 1
    → IsVerticalStep (element_pels reference) (coding_position reference.width old (placed_over_white at)) (pos 0)
    (coding_position reference.width new next)
    → position_pel next.position ≡ reference.width
end_reached reference old new at next white step =
    let a0_is = ap first_pel step.new_is in
    omega (arith, ints, a0_is, step.a1_is, b1_is_width reference (placed_over_white at).position.a0 white)

-- two runs are read on after n pels
module _ {reference : ChangingElements} {changes : List ℕ} {a0 : Option ℕ} {n at_end : ℕ} (white : reference.end ≡ 1)
    (here : IsCodingStateInRow reference changes (white_at a0 at_end)) (from : unwrap_or a0 0 ≡ n) where
  two_runs_on : {choice : Bool} {b rest : List Bool} (runs : TwoRuns) {between new : List ℕ} {middle_end end : ℕ}
      → 0 < runs.second
      → is_right_of a0 (n + runs.first) ≡ true → (IsTrue choice → n + runs.first + 3 < reference.width)
      → TogglesAt changes between at_end middle_end (n + runs.first)
      → TogglesAt between new middle_end end (n + runs.first + runs.second)
      → AreReadRuns true White reference.width n b runs rest
      → IsPairReadOn choice reference changes new (white_at a0 at_end)
      (white_at (Some (n + runs.first + runs.second)) end) b rest
  two_runs_on runs some right far turns again read =
      let turns_there = rw (← from) at turns in
      let again_there = rw (← from) at again in
      let within = rw (← from) at read.within in
      record {
        step =
            rw (← from) (horizontal_placed here runs.first runs.second 1 read.found.first_run read.found.second_run
            within
            turns_there again_there);
        chosen = λ asked. record {
          first = runs.first;
          second = runs.second;
          within = omega (arith, length-element_pels reference, read.within, from);
          right = rw from right;
          some = λ h. some;
          left_hand = omega (arith, from, b2_is_width reference a0 white, read.within);
          far = inl (omega (arith, from, b1_is_width reference a0 white, far asked));
          bits = read.written refl;
          new_is = rw (← from) (pair_placed here runs.first runs.second 1 within turns_there again_there);
        };
        so_far =
            rw (← from) (horizontal_so_far here runs.first runs.second within turns_there again_there
            (λ h. b1_at_end reference _ white));
      }

pub two_runs_read : {choice : Bool} {reference : ChangingElements} {changes between new : List ℕ} {at : OverWhiteState}
    {b rest : List Bool}
    {middle_end end : ℕ} (runs : TwoRuns) → reference.end ≡ 1
    → IsCodingStateInRow reference changes (placed_over_white at)
    → HavePels at.first_pel runs → (IsTrue choice → at.first_pel + runs.first + 3 < reference.width)
    → TogglesAt changes between at.end middle_end (at.first_pel + runs.first)
    → TogglesAt between new middle_end end (at.first_pel + runs.first + runs.second)
    → AreReadRuns true White reference.width at.first_pel b runs rest
    → IsPairReadOn choice reference changes new (placed_over_white at)
    (placed_over_white (record { first_pel = at.first_pel + runs.first + runs.second; end = end })) b rest
two_runs_read {at = at} {end = end} runs white here pels far turns again read =
    rw (placed_inside (at.first_pel + runs.first + runs.second) end (omega (arith, pels.second)))
    (two_runs_on white here (reached_over_white at) runs pels.second (right_of_white at runs.first pels.first) far turns
    again read)
