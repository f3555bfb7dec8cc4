use Rattle.std.proofs.Common.{◌≡◌, ◌+◌, ◌*◌, ◌≤◌, ◌∙◌, length, get_or, ap, subst, sym, arith, rules, inl, inr}
use Rattle.std.proofs.lemmas.Bool.{cases_lt}
use Rattle.std.proofs.lemmas.List.{places}
use Rattle.fax_rows.specs.code.FirstOther.{plain_byte}
use Rattle.fax_rows.specs.code.PackedWord.{IsPackedByte}
use Rattle.fax_rows.specs.code.ChangingElements.{element_pels}
use Rattle.fax_rows.specs.code.ChangeLists.{HasPassed}
use Rattle.fax_rows.proofs.PackedWordLemmas.{word_done, byte_of_word}
use Rattle.fax_rows.proofs.PackingLemmas.{passed-lt, place_at_most, still_passed, whole_byte, part_written}
use Rattle.fax_rows.proofs.PlacedB1Lemmas.{length-element_pels}
use Rattle.fax_rows.proofs.packed.pack_words.Goals as goal

pub bounds-row-passed : goal.bounds-row-passed
bounds-row-passed c = passed-lt c.args.row.elements (64 * c.loop-k.k) c.loop-k.passed c.loop-k.invariant.so_far

pub loop-k-preserved-then-k-change : goal.loop-k-preserved-then-k-change
loop-k-preserved-then-k-change c =
    let at = 8 * c.loop-k.k in
    let so_far = c.loop-k.invariant.so_far in
    let most = place_at_most c.args.row.elements (64 * c.loop-k.k) c.loop-k.passed so_far in
    record {
      within = omega (arith, most, c.requires.within);
      done = λ i h. elim (cases_lt i at) [
        | inl less ↦
            subst (IsPackedByte (element_pels c.args.row) (8 * i)) (sym (c.fill.ensures.before i less))
            (c.loop-k.invariant.done i less)
        | inr more ↦
            subst (IsPackedByte (element_pels c.args.row) (8 * i))
            (sym (c.fill.ensures.filled i more h ∙ c.plain_byte.ensures ∙ ap plain_byte c.colour_after.ensures))
            (whole_byte c.args.row.elements (64 * c.loop-k.k) (8 * i) c.loop-k.passed so_far (omega arith) (omega
            arith))
      ];
      so_far = still_passed c.args.row.elements (64 * c.loop-k.k) _ c.loop-k.passed so_far (omega arith) (omega arith);
      len = c.fill.ensures.same_len ∙ c.loop-k.invariant.len;
    }

pub loop-k-preserved : goal.loop-k-preserved
loop-k-preserved c =
    let at = 8 * c.loop-k.k in
    let word = c.word_up_to-word.ensures in
    let wide = length-element_pels c.args.row in
    let next : 64 * c.loop-k.k + 64 ≡ 64 * (c.loop-k.k + 1) = omega arith in
    let room : at ≤ length c.loop-k.out = omega (arith, c.loop-k.invariant.len, c.requires.room) in
    let bytes = c.copy_from_slice.ensures.after ∙ c.to_be_bytes.ensures in
    let long : length c.copy_from_slice.new.self ≡ 8 = ap length bytes in
    let packed = word_done c.args.row word.word word.so_far (omega (arith, c.requires.within)) in
    record {
      within = omega arith;
      done = λ i h.
          part_written (λ j. IsPackedByte (element_pels c.args.row) (8 * j)) c.loop-k.out c.copy_from_slice.new.self at
          _
          room
          c.loop-k.invariant.done
          (λ j l.
          subst (IsPackedByte (element_pels c.args.row) (8 * (at + j))) (sym (ap (λ part. get_or part j 0) bytes))
          (byte_of_word _ (64 * c.loop-k.k) c.word_up_to-word.result.0 j (8 * (at + j)) packed (omega (arith, long))
          (omega arith)))
          i (omega (arith, long));
      so_far = subst (λ n. HasPassed c.args.row.changes.now c.args.row.end n c.word_up_to-word.result.1) next
          word.so_far;
      len = search (rules, places);
    }
