use Rattle.std.proofs.Common.{◌≡◌, ◌+◌, ◌*◌, ◌<◌, ℕ, List, Bool, take, get_or, false, ap, ◌∙◌, subst, arith}
use Rattle.fax_bits.specs.declared.FillOrder.TheVariants.{MsbFirst}
use Rattle.fax_bits.specs.Bits.{bits}
use Rattle.fax_rows.specs.Coded.{colour_of_bit}
use Rattle.fax_rows.specs.code.PackedWord.{word_bit}
use Rattle.fax_rows.specs.code.Unpacked.{IsUnpackedTo}
use Rattle.fax_rows.proofs.PackedLemmas.{unpacked_none}
use Rattle.fax_rows.proofs.PlacedRowLemmas.{take-first}
use Rattle.fax_rows.proofs.WhiteWordLemmas.{white_after}
use Rattle.fax_rows.proofs.unpacked.changes_of_words.Goals as goal

-- the bits of one word more
word_after : (b : List Bool) (k before word : ℕ) (old new : List ℕ)
    → IsUnpackedTo b old (64 * k) (colour_of_bit (word_bit before 63))
    → ((i : ℕ) → i < 64 → word_bit word i ≡ get_or b (8 * (8 * k) + i) false)
    → (IsUnpackedTo b old (64 * k) (colour_of_bit (word_bit before 63))
    → ((i : ℕ) → i < 64 → word_bit word i ≡ get_or b (64 * k + i) false)
    → IsUnpackedTo b new (64 * k + 64) (colour_of_bit (word_bit word 63)))
    → IsUnpackedTo b new (64 * (k + 1)) (colour_of_bit (word_bit word 63))
word_after b k before word old new so_far bit put =
    let next : 64 * k + 64 ≡ 64 * (k + 1) = omega arith in
    subst (λ n. IsUnpackedTo b new n (colour_of_bit (word_bit word 63))) next
    (put so_far (λ i h.
    let column : 8 * (8 * k) + i ≡ 64 * k + i = omega arith in
    bit i h ∙ ap (λ n. get_or b n false) column))

pub loop-k-init : goal.loop-k-init
loop-k-init c =
    let b = bits MsbFirst c.args.bytes.now in
    record {
      within = c.past_white-k.ensures.within;
      ascending = record {
        started = omega arith;
        within = omega (arith, c.requires.room);
        first = c.requires.first;
        steps =
            λ i h l. absurd (omega arith);
      };
      left_hand = λ h. absurd (omega arith);
      unpacked =
          white_after b (take 1 c.args.changes.now) 0 0 c.past_white-k.result (omega arith) (omega arith)
          (unpacked_none b (take 1 c.args.changes.now)
          (take-first c.args.changes.now (omega (arith, c.requires.room)) c.requires.first))
          c.past_white-k.ensures.white;
    }

pub loop-k-preserved-then-word-eq0 : goal.loop-k-preserved-then-word-eq0
loop-k-preserved-then-word-eq0 c =
    let b = bits MsbFirst c.args.bytes.now in
    let changes = take c.put_word-end.result c.put_word-end.new.changes in
    record {
      within = c.past_white-k-then-word-eq0.ensures.within;
      ascending = c.put_word-end.ensures.ascending;
      left_hand = λ h. omega (arith, c.put_word-end.ensures.left_hand h, c.past_white-k-then-word-eq0.ensures.from);
      unpacked = white_after b changes _ (c.loop-k.k + 1) c.past_white-k-then-word-eq0.result c.if-word-eq0.true
          c.past_white-k-then-word-eq0.ensures.from
          (word_after b c.loop-k.k _ _ _ _ c.loop-k.invariant.unpacked c.word_at-word.ensures
          (c.put_word-end.ensures.unpacked b))
          c.past_white-k-then-word-eq0.ensures.white;
    }

pub loop-k-preserved : goal.loop-k-preserved
loop-k-preserved c = record {
  within = omega arith;
  ascending = c.put_word-end.ensures.ascending;
  left_hand = λ h. omega (arith, c.put_word-end.ensures.left_hand h);
  unpacked =
      word_after (bits MsbFirst c.args.bytes.now) c.loop-k.k _ _ _ _ c.loop-k.invariant.unpacked
      c.word_at-word.ensures
      (c.put_word-end.ensures.unpacked (bits MsbFirst c.args.bytes.now));
}
