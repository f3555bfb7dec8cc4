use Rattle.std.proofs.Common.{◌≡◌, ◌+◌, ◌*◌, ◌-◌, ◌%◌, ◌^◌, ◌∙◌, sym, ap, get_or, arith}
use Rattle.fax_rows.specs.Coded.{is_black}
use Rattle.fax_rows.proofs.PackedWordLemmas.{word_started, white_word, black_word, word_turned}
use Rattle.fax_rows.proofs.PlacedRowLemmas.{end_within}
use Rattle.fax_rows.proofs.packed.word_up_to.Goals as goal
use Rattle.fax_rows.proofs.packed.word_up_to.Goals.{in-White, in-Black}

pub loop-after-init : goal.loop-after-init
loop-after-init c = record {
  word = elim c.match-colour_after.branch [
    | in-White w ↦ rw w.word-is (word_started c.args.row (64 * c.args.k) 0 c.args.passed c.requires.so_far
        (λ i. white_word i ∙ ap is_black (sym w.in-White.is ∙ c.colour_after.ensures)))
    | in-Black w ↦ rw w.word-is (word_started c.args.row (64 * c.args.k) (2 ^ 64 - 1) c.args.passed c.requires.so_far
        (λ i. black_word i ∙ ap is_black (sym w.in-Black.is ∙ c.colour_after.ensures)))
  ];
  left_hand = omega arith;
}

pub bounds-row-after : goal.bounds-row-after
bounds-row-after c = omega (
  arith,
  c.loop-after.invariant.word.within,
  c.args.row.elements.room,
  end_within
      c.args.row.elements,
)

pub bounds-row-after-in-loop-after : goal.bounds-row-after-in-loop-after
bounds-row-after-in-loop-after c = omega (
  arith,
  c.loop-after.invariant.word.within,
  c.args.row.elements.room,
  end_within
      c.args.row.elements,
)

pub loop-after-preserved : goal.loop-after-preserved
loop-after-preserved c =
    let same : c.loop-after.after + 1 - 1 ≡ c.loop-after.after = omega arith in
    record {
      word =
          word_turned c.args.row (64 * c.args.k) c.loop-after.word c.loop-after.after
          (get_or c.args.row.changes.now c.loop-after.after 0 % 64)
          c.loop-after.invariant.word (omega arith) (omega arith) (λ ahead. omega arith);
      left_hand = omega (arith, ap (λ m. get_or c.args.row.changes.now m 0) same);
    }
