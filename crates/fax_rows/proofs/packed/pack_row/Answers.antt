use Rattle.std.proofs.Common.{◌≡◌, ◌+◌, ◌-◌, ◌*◌, ◌/◌, ◌∙◌, length, get_or, ap, subst, sym, arith, rules}
use borrow.Rule.Slice.PartMut.{put_mid}
use Rattle.std.proofs.lemmas.List.{places, get_or-take}
use Rattle.fax_rows.specs.code.PackedWord.{IsPackedByte}
use Rattle.fax_rows.specs.code.ChangingElements.{element_pels}
use Rattle.fax_rows.proofs.PackedLemmas.{packed_at}
use Rattle.fax_rows.proofs.PackedWordLemmas.{byte_of_word}
use Rattle.fax_rows.proofs.PackingLemmas.{part_written}
use Rattle.fax_rows.proofs.PlacedB1Lemmas.{length-element_pels}
use Rattle.fax_rows.proofs.packed.pack_row.Goals as goal

pub returns-then-row-gt0 : goal.returns-then-row-gt0
returns-then-row-gt0 c =
    let row = element_pels c.args.row in
    let words = c.args.row.width / 64 in
    let out = c.pack_words-passed.new.out in
    let wide = length-element_pels c.args.row in
    let whole : length out ≡ (c.args.row.width + 7) / 8 = c.pack_words-passed.ensures.same_len ∙ c.requires in
    let long : length c.copy_from_slice.new.self ≡ length out - 8 * words =
    c.copy_from_slice.ensures.len ∙ search (rules, places) in
    let new = put_mid (8 * words) (length out - 8 * words) out c.copy_from_slice.new.self in
    let same : length new ≡ length out = search (rules, places) in
    packed_at c.bits_stand_by_index.ensures c.bits_are_packed_in_one_way.ensures row new
    (omega (arith, same, whole, wide)) (λ k. omega (arith, c.type_inv.out k))
    (λ i h.
    part_written (λ j. IsPackedByte row (8 * j)) out c.copy_from_slice.new.self (8 * words) _ (omega (arith, whole))
    c.pack_words-passed.ensures.written
    (λ j l.
    let byte = ap (λ part. get_or part j 0) c.copy_from_slice.ensures.after
    ∙ get_or-take _ c.to_be_bytes-bytes.result j 0 (omega (arith, long))
    ∙ ap (λ part. get_or part j 0) c.to_be_bytes-bytes.ensures in
    subst (IsPackedByte row (8 * (8 * words + j))) (sym byte)
    (byte_of_word row (64 * words) c.last_word.result j (8 * (8 * words + j)) c.last_word.ensures
    (omega (arith, long, whole)) (omega arith)))
    i (omega (arith, long, whole, same)))

pub returns-else-row-gt0 : goal.returns-else-row-gt0
returns-else-row-gt0 c =
    let whole : length c.pack_words-passed.new.out ≡ (c.args.row.width + 7) / 8 =
    c.pack_words-passed.ensures.same_len ∙ c.requires in
    packed_at c.bits_stand_by_index.ensures c.bits_are_packed_in_one_way.ensures (element_pels c.args.row)
    c.pack_words-passed.new.out
    (omega (arith, whole, length-element_pels c.args.row)) (λ k. omega (arith, c.type_inv.out k))
    (λ i h. c.pack_words-passed.ensures.written i (omega (arith, whole)))
