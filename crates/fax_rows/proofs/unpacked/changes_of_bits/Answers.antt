use Rattle.std.proofs.Common.{◌+◌, ◌*◌, ◌/◌, take, get_or, false, ◌∙◌, sym, arith}
use Rattle.fax_rows.proofs.ColourLemmas.{same_is, other_is}
use Rattle.fax_bits.specs.declared.FillOrder.TheVariants.{MsbFirst}
use Rattle.fax_bits.specs.Bits.{bits}
use Rattle.fax_rows.specs.Coded.{colour_of_bit}
use Rattle.fax_rows.proofs.FirstOtherLemmas.{first_other_stands}
use Rattle.fax_rows.proofs.PackedLemmas.{unpacked_run, unpacked_turned, unpacked_at}
use Rattle.fax_rows.proofs.PlacedReadLemmas.{places_within}
use Rattle.fax_rows.proofs.UnpackedWordLemmas.{last_below}
use Rattle.fax_rows.proofs.TurnLemmas.{length-pels_of_changes, pel-pels_of_changes}
use Rattle.fax_rows.proofs.unpacked.changes_of_bits.Goals as goal

pub loop-at-init : goal.loop-at-init
loop-at-init c =
    let b = bits MsbFirst c.args.bytes.now in
    let words = c.changes_of_words-end.ensures in
    let from = 64 * (c.args.width / 64) in
    let first = first_other_stands c.args.bytes.now from c.first_other-at.result c.changes_of_words-end.result.1
    (rw c.from.ensures at c.first_other-at.ensures) in
    record {
      ascending = words.ascending;
      last = omega (
        arith,
        last_below _ _ (from + 1) words.ascending (λ h. omega (arith, words.left_hand h)) (omega arith),
        first.from,
      );
      below = last_below _ _ c.args.width words.ascending (λ h. omega (arith, words.left_hand h)) c.requires.some;
      unpacked = unpacked_run b _ from c.first_other-at.result c.changes_of_words-end.result.1 words.unpacked first.from
          (λ k l h. same_is (colour_of_bit (get_or b k false)) c.changes_of_words-end.result.1 (first.before k l h));
      turns = λ h. first.there (omega (arith, c.requires.whole));
    }

pub toggle_change-end-requires-clause-room : goal.toggle_change-end-requires-clause-room
toggle_change-end-requires-clause-room c =
    omega (
      arith,
      c.requires.room.len,
      places_within c.loop-at.changes c.loop-at.end c.loop-at.at c.loop-at.invariant.ascending
          c.loop-at.invariant.last,
    )

pub loop-at-preserved : goal.loop-at-preserved
loop-at-preserved c =
    let bytes = c.args.bytes.now in
    let b = bits MsbFirst bytes in
    let at = c.loop-at.at in
    let toggled = c.other-colour.result in
    let first = first_other_stands bytes (at + 1) c.first_other-at-in-loop-at.result toggled
    c.first_other-at-in-loop-at.ensures in
    let inside = c.loop-at.invariant.turns (omega arith) in
    let here = other_is (colour_of_bit (get_or b at false)) c.loop-at.colour inside in
    let so_far =
    unpacked_turned b (take c.loop-at.end c.loop-at.changes) (take c.toggle_change-end.result
    c.toggle_change-end.new.changes) at
    c.loop-at.colour toggled
    c.loop-at.invariant.unpacked c.other-colour.ensures (c.other-colour.ensures
    ∙ sym here) c.toggle_change-end.ensures.toggled in
    record {
      ascending = c.toggle_change-end.ensures.ascending;
      last = omega (arith, c.toggle_change-end.ensures.last, first.from);
      below = omega (arith, c.toggle_change-end.ensures.last);
      unpacked =
          unpacked_run b (take c.toggle_change-end.result c.toggle_change-end.new.changes) (at + 1)
          c.first_other-at-in-loop-at.result
          toggled so_far first.from
          (λ k l h. same_is (colour_of_bit (get_or b k false)) toggled (first.before k l h));
      turns = λ h. first.there (omega (arith, c.requires.whole));
    }

pub loop-at-smaller : goal.loop-at-smaller
loop-at-smaller c =
    let first =
    first_other_stands c.args.bytes.now (c.loop-at.at + 1) c.first_other-at-in-loop-at.result c.other-colour.result
    c.first_other-at-in-loop-at.ensures in
    omega (arith, first.from)

pub returns-clause-pels : goal.returns-clause-pels
returns-clause-pels c =
    unpacked_at c.bits_stand_by_index.ensures _ c.args.bytes.now c.args.width (length-pels_of_changes c.args.width _)
    c.requires.whole
    (λ k h. pel-pels_of_changes c.args.width _ k h ∙ c.loop-at.invariant.unpacked.before k (omega arith))
