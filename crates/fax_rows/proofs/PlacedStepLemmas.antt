-- Steps of two-dimensional coding over places of change.
use Rattle.std.proofs.Common.{rules, ◌≡◌, ℕ, ◌+◌, ◌-◌, ℤ, negsuc, ◌+ℤ◌, ◌≤ℤ◌, ◌<◌, ◌≤◌, List, [], ◌++◌, length, take}
use Rattle.std.proofs.Common.{get_or, replicate}
use Rattle.std.proofs.Common.{Bool, true, ap, sym, ◌∙◌, arith, pos}
use Rattle.std.proofs.lemmas.Grind.{common_steps}
use Rattle.std.specs.Prelude.{Option, Some, None, unwrap_or, ◌<ℤ◌, nat_abs}
use Rattle.fax_bits.specs.declared.Colour.{Colour}
use Rattle.fax_bits.specs.declared.Colour.TheVariants.{White, Black}
use Rattle.fax_rows.specs.declared.two_dimensional.steps.CodingPosition.{CodingPosition}
use Rattle.fax_rows.specs.declared.two_dimensional.steps.CodingState.{CodingState}
use Rattle.fax_rows.specs.Rows.{other, is_right_of, b2, Position, beginning, a0_number, coloured_up_to}
use Rattle.fax_rows.specs.code.CodingSteps.{IsInRow, IsVerticalStep, IsHorizontalStep}
use Rattle.fax_rows.specs.declared.RowFault.{RowFault}
use Rattle.fax_rows.specs.code.CodingSteps.{IsStepFault}
use Rattle.fax_bits.specs.Reading.{read, failed}
use Rattle.fax_rows.specs.ReadRows.{read_two_dimensional}
use Rattle.fax_rows.proofs.StepReadLemmas.{ended, stops, at_width}
use Rattle.fax_rows.proofs.StepLemmas.{unfinished_below}
use Rattle.std.proofs.lemmas.List.{take_all}
use Rattle.fax_rows.specs.code.CodingPosition.{position_pel, position_of}
use Rattle.fax_rows.specs.declared.change_list.ChangingElements.{ChangingElements}
use Rattle.fax_rows.specs.code.ChangingElements.{element_pels, IsB1At}
use Rattle.fax_rows.specs.code.Put.{AreChangesPut, HasRoom}
use Rattle.fax_rows.specs.code.ChangeLists.{toggled, pels_of_changes, IsToggledFrom, TogglesAt}
use Rattle.fax_rows.specs.code.CodingState.{coding_position, IsCodingState, IsCodingStateInRow}
use Rattle.fax_rows.specs.code.Chosen.{after_pair, ReachesBySteps}
use Rattle.fax_bits.specs.Codes.{IsRun}
use Rattle.fax_rows.proofs.PaintLemmas.{painted_front}
use Rattle.fax_rows.proofs.TurnLemmas.{length-pels_of_changes, pel-pels_of_changes}
use Rattle.fax_rows.proofs.PlacedRowLemmas.{end_within, toggled-first}
use Rattle.fax_rows.proofs.PlacedReadLemmas.{more_room}
use Rattle.fax_rows.proofs.PlacedB1Lemmas.{b1_is, b1_within, b1_at_most, b1_ahead, b2_at_most, b2_is}
use Rattle.fax_rows.proofs.PlacedB1Lemmas.{length-element_pels}

-- the pels up to `to` where those from `from` on have one colour
pub front_to : (width from to : ℕ) (old new : List ℕ) (colour : Colour) → from ≤ to → to ≤ width
    → ((i : ℕ) → i < to → toggled Black new i ≡ toggled Black old i) → ((i : ℕ) → from ≤ i → toggled Black old i
    ≡ colour)
    → take to (pels_of_changes width new) ≡ take from (pels_of_changes width old) ++ replicate (to - from) colour
front_to width from to old new colour order within same after =
    let sum : to ≡ from + (to - from) = omega arith in
    ap (λ n. take n (pels_of_changes width new)) sum
    ∙ painted_front (pels_of_changes width old) (pels_of_changes width new) from (to - from) colour
    (omega (arith, length-pels_of_changes width old)) (length-pels_of_changes width new
    ∙ sym (length-pels_of_changes width old))
    (λ k h. pel-pels_of_changes width new k (omega arith) ∙ same k (omega arith)
    ∙ sym (pel-pels_of_changes width old k (omega arith)))
    (λ k h l. pel-pels_of_changes width new k (omega arith) ∙ same k (omega arith) ∙ after k h)

-- the position at a pel up to which the row has a0's colour
pub coloured : (width : ℕ) (old new : List ℕ) (at : CodingPosition) (to : ℕ) → position_pel at ≤ to → to ≤ width
    → ((i : ℕ) → i < to → toggled Black new i ≡ toggled Black old i)
    → ((i : ℕ) → position_pel at ≤ i → toggled Black old i ≡ at.colour)
    → position_of (record { a0 = Some to; colour = at.colour }) (pels_of_changes width new)
    ≡ coloured_up_to (position_of at (pels_of_changes width old)) to
coloured width old new at to order within same after = grind (arith, front_to)

-- a0 is no less than just before the first pel
pub from_start : (at : CodingPosition) → negsuc 0 ≤ℤ a0_number (position_of at [])
from_start at = grind (arith, common_steps)

-- a0's number, just before the first pel and in the row
pub number_at_start : (at : CodingPosition) → at.a0 ≡ None → negsuc 0 ≡ a0_number (position_of at [])
number_at_start at is = search rules

pub number_inside : (at : CodingPosition) (column : ℕ) → at.a0 ≡ Some column → pos column
    ≡ a0_number (position_of at [])
number_inside at column is = search rules

-- a place right of a0's number is right of a0
pub number_right : (at : CodingPosition) (a1 : ℕ) → a0_number (position_of at []) <ℤ pos a1 → is_right_of at.a0 a1
    ≡ true
number_right at a1 h = grind (arith, common_steps)

pub right_after_first : (a0 : Option ℕ) (a1 : ℕ) → is_right_of a0 a1 ≡ true → unwrap_or a0 0 ≤ a1
right_after_first a0 a1 h = grind arith

module _ {reference : ChangingElements} {changes : List ℕ} {at : CodingState} (here : IsCodingStateInRow reference
    changes at) where
  pub b2_order : position_pel at.position ≤ get_or reference.changes.now (at.b1 + 1) 0
  b2_order = grind arith

  b2_within : get_or reference.changes.now (at.b1 + 1) 0 ≤ reference.width
  b2_within = let b1 = here.so_far.b1 here.unfinished in b2_at_most reference at.b1 b1.some b1.within

  pub pass_step : position_of (record {
    a0 = Some (get_or reference.changes.now (at.b1 + 1) 0);
    colour =
        at.position.colour;
  })
      (pels_of_changes reference.width (take at.end changes))
      ≡ coloured_up_to (coding_position reference.width changes at)
      (b2 (element_pels reference) at.position.a0 at.position.colour)
  pass_step = grind (arith, common_steps, coloured, b2_order, b2_within, b2_is)

  pub pass_so_far : IsCodingState reference changes
      (record {
        position = record {
          a0 = Some (get_or reference.changes.now
              (at.b1 + 1) 0);
          colour = at.position.colour;
        };
        end = at.end;
        b1 = at.b1 + 2;
      })
  pass_so_far = grind arith

  pub b1_in_room : at.b1 + 1 < length reference.changes.now
  b1_in_room =
      let b1 = here.so_far.b1 here.unfinished in
      let within = end_within reference.elements in
      omega (arith, b1.within, reference.elements.room, within)

  -- a place is put where the colour turns
  pub turned_so_far : {new : List ℕ} {next_end a1 next_b1 : ℕ} {colour : Colour} → position_pel at.position ≤ a1
      → a1 ≤ reference.width
      → TogglesAt changes new at.end next_end a1
      → (a1 < reference.width → IsB1At reference (Some a1) (other at.position.colour) next_b1)
      → colour ≡ other at.position.colour
      → IsCodingState reference new (record {
        position = record { a0 = Some a1; colour = colour };
        end = next_end;
        b1 =
            next_b1;
      })
  turned_so_far order within turns b1 is = grind (arith, common_steps)

  -- and up to it the pels have a0's colour
  pub turned_position : (new : List ℕ) (next_end a1 : ℕ) → position_pel at.position ≤ a1 → a1 ≤ reference.width
      → IsToggledFrom (take at.end changes) (take next_end new) a1
      → position_of (record { a0 = Some a1; colour = at.position.colour }) (pels_of_changes reference.width (take
      next_end new))
      ≡ coloured_up_to (coding_position reference.width changes at) a1
  turned_position new next_end a1 order within toggle_change = grind (arith, coloured)

  -- what is read is put
  pub read_put : AreChangesPut reference.width changes at.end (position_pel at.position)
  read_put = record {
    room = here.so_far.room;
    ascending = here.so_far.ascending;
    last = here.so_far.last;
    within =
        here.so_far.within;
  }

  -- there is room for a place
  pub room_left : at.end + 1 < length changes
  room_left = more_room read_put

  -- a step in vertical mode to a1, which is z as a signed number
  module _ (d z : ℤ) (z_is : z ≡ pos (get_or reference.changes.now at.b1 0) +ℤ d)
      (least : negsuc 0 ≤ℤ a0_number (position_of at.position []))
      (right : a0_number (position_of at.position []) <ℤ z) (inside : z ≤ℤ pos reference.width) where
    pub vertical_placed : (new : List ℕ) (next_end next_b1 : ℕ) (colour : Colour)
        → TogglesAt changes new at.end next_end (nat_abs z) → colour ≡ other at.position.colour
        → IsVerticalStep (element_pels reference) (coding_position reference.width changes at) d
        (coding_position reference.width new (record {
          position = record {
            a0 = Some
                (nat_abs z);
            colour = colour;
          };
          end = next_end;
          b1 = next_b1;
        }))
    vertical_placed new next_end next_b1 colour turns is =
        grind (arith, b1_is, length-element_pels, turned_position)

  -- where a1 is in the row, it is right of a0 and not after the width
  pub row_begins : (d : ℤ) → IsInRow (element_pels reference) (coding_position reference.width changes at) d
      → a0_number (position_of at.position []) <ℤ (pos (get_or reference.changes.now at.b1 0) +ℤ d)
  row_begins d in_row = grind (arith, b1_is)

  pub row_ends : (d : ℤ) → IsInRow (element_pels reference) (coding_position reference.width changes at) d
      → (pos (get_or reference.changes.now at.b1 0) +ℤ d) ≤ℤ pos reference.width
  row_ends d in_row = grind (arith, b1_is, length-element_pels)

  -- b1 is right of a0, and in the row
  pub under_right : a0_number (position_of at.position []) <ℤ pos (get_or reference.changes.now at.b1 0)
  under_right = grind (arith, common_steps, b1_within)

  pub under_ahead : position_pel at.position ≤ get_or reference.changes.now at.b1 0
  under_ahead = b1_ahead reference at.position.a0 (here.so_far.b1 here.unfinished) here.unfinished

  pub under_within : get_or reference.changes.now at.b1 0 ≤ reference.width
  under_within = let b1 = here.so_far.b1 here.unfinished in b1_at_most reference at.b1 b1.some b1.within

  -- two places are put where two runs end
  pub pair_placed : (first second : ℕ) {between new : List ℕ} {middle_end next_end : ℕ} (next_b1 : ℕ)
      → position_pel at.position + first + second ≤ reference.width
      → TogglesAt changes between at.end middle_end (position_pel at.position + first)
      → TogglesAt between new middle_end next_end (position_pel at.position + first + second)
      → coding_position reference.width new (record {
        position =
            record { a0 = Some (position_pel at.position + first + second); colour = at.position.colour };
        end = next_end;
        b1 = next_b1;
      })
      ≡ after_pair (coding_position reference.width changes at) first second
  pair_placed first second {between} {new} {middle_end} {next_end} next_b1 within turns again = ap position pels
    where
      position : List Colour → Position
      position pels = record {
        a0 = Some (position_pel at.position + first + second);
        colour = at.position.colour;
        pels =
            pels;
      }

      one : position_pel at.position + first - position_pel at.position ≡ first
      one = omega arith

      two : position_pel at.position + first + second - (position_pel at.position + first) ≡ second
      two = omega arith

      pels : take (position_pel at.position + first + second) (pels_of_changes reference.width (take next_end new))
          ≡ take (position_pel at.position) (pels_of_changes reference.width
          (take at.end changes)) ++ replicate first at.position.colour ++ replicate second
          (other at.position.colour)
      pels =
          front_to reference.width (position_pel at.position + first) (position_pel at.position + first + second)
          (take middle_end between)
          (take next_end new)
          (other at.position.colour) (omega arith) within again.toggled.left_hand
          (λ i h. turns.toggled.right i h ∙ ap other (here.so_far.after i (omega arith)))
          ∙ ap (λ n. take (position_pel at.position + first) (pels_of_changes reference.width (take middle_end between))
          ++ replicate n
          (other at.position.colour)) two
          ∙ ap (λ xs. xs ++ replicate second (other at.position.colour))
          (front_to reference.width (position_pel at.position) (position_pel at.position + first) (take at.end changes)
          (take middle_end between)
          at.position.colour (omega arith) (omega arith) turns.toggled.left_hand here.so_far.after
          ∙ ap (λ n. take (position_pel at.position) (pels_of_changes reference.width (take at.end changes))
          ++ replicate n at.position.colour) one)

  pub horizontal_placed : {b mid rest : List Bool} (first second : ℕ) {between new : List ℕ} {middle_end next_end : ℕ}
      (next_b1 : ℕ)
      → IsRun at.position.colour b first mid → IsRun (other at.position.colour) mid second rest
      → position_pel at.position + first + second ≤ reference.width
      → TogglesAt changes between at.end middle_end (position_pel at.position + first)
      → TogglesAt between new middle_end next_end (position_pel at.position + first + second)
      → IsHorizontalStep (element_pels reference) (coding_position reference.width changes at) b
      (coding_position reference.width new (record {
        position =
            record { a0 = Some (position_pel at.position + first + second); colour = at.position.colour };
        end = next_end;
        b1 = next_b1;
      })) rest
  horizontal_placed first second next_b1 run another within turns again =
      search (rules, length-element_pels, pair_placed)

  pub horizontal_so_far : (first second : ℕ) {between new : List ℕ} {middle_end next_end next_b1 : ℕ}
      → position_pel at.position + first + second ≤ reference.width
      → TogglesAt changes between at.end middle_end (position_pel at.position + first)
      → TogglesAt between new middle_end next_end (position_pel at.position + first + second)
      → (position_pel at.position + first + second < reference.width
      → IsB1At reference (Some (position_pel at.position + first + second)) at.position.colour next_b1)
      → IsCodingState reference new
      (record {
        position = record { a0 = Some (position_pel at.position + first + second); colour = at.position.colour };
        end = next_end;
        b1 =
            next_b1;
      })
  horizontal_so_far first second within turns again b1 = grind (arith, common_steps)

-- before the first pel
pub nothing_read : {reference : ChangingElements} {changes : List ℕ} → HasRoom reference.width changes
    → IsCodingState reference changes (record { position = record { a0 = None; colour = White }; end = 1; b1 = 1 })
nothing_read room = grind (arith, common_steps, toggled-first)

-- the row is read to its end
pub steps_done : (reference : List Colour) (b : List Bool) (at : CodingPosition) (row : List Colour) (rest : List Bool)
    (width : ℕ)
    → ReachesBySteps reference beginning b (position_of at row) rest → 0 < width → position_pel at ≡ width → length row
    ≡ width
    → length reference ≡ width
    → read_two_dimensional reference b ≡ read row rest
steps_done reference b at row rest width so_far some done len same =
    so_far.reads
    ∙ ended reference (position_of at row) rest
    (at_width at.a0 (length reference) (omega (arith, done, same)) (omega (arith, some, same)))
    ∙ ap (λ pels. read pels rest) (take_all (position_pel at) row (omega (arith, done, len)))

-- a step that is no part of the row
pub fault_here : (reference : List Colour) (b : List Bool) (at : CodingPosition) (row : List Colour) (mid : List Bool)
    → ReachesBySteps reference beginning b (position_of at row) mid → position_pel at < length reference
    → (fault : RowFault) → IsStepFault reference (position_of at row) mid fault
    → read_two_dimensional reference b ≡ failed fault
fault_here reference b at row mid so_far less fault step =
    so_far.reads ∙ stops reference (position_of at row) mid fault (unfinished_below reference at.a0 less) step
