use Rattle.std.proofs.Common.{◌≡◌, ◌+◌, ◌-◌, ◌∙◌, ap, arith, take, drop}
use Rattle.std.specs.Int.{from_be_bytes, w64}
use Rattle.fax_rows.proofs.UnpackedWordLemmas.{bits_of_word}
use Rattle.fax_rows.proofs.unpacked.word_at.Goals as goal

pub returns : goal.returns
returns c =
    let eight : c.args.at + 8 - c.args.at ≡ 8 = omega arith in
    bits_of_word c.bits_stand_by_index.ensures c.args.bytes.now c.args.at c.from_be_bytes.result c.requires
    (λ i. omega (arith, c.type_inv.bytes i))
    (c.from_be_bytes.ensures ∙ ap (from_be_bytes w64) c.copy_from_slice.ensures.after
    ∙ ap (λ n. from_be_bytes w64 (take n (drop c.args.at c.args.bytes.now))) eight)
