-- White words of packed bytes.
use Rattle.std.proofs.lemmas.Grind.{common_steps}
use Rattle.std.proofs.Common.{◌≡◌, ℕ, ◌+◌, ◌-◌, ◌*◌, ◌<◌, ◌≤◌, List, Bool, false, get_or, ap, sym, ◌∙◌, arith}
use Rattle.fax_rows.specs.code.PackedWord.{word_bit}
use Rattle.fax_rows.specs.Coded.{colour_of_bit}
use Rattle.fax_rows.specs.code.Unpacked.{AreWhite, IsUnpackedTo}
use Rattle.fax_rows.proofs.PackedLemmas.{unpacked_run}
use Rattle.fax_rows.proofs.PackedWordLemmas.{white_word}

-- a word that is zero is white
pub white_bits : (b : List Bool) (at word : ℕ) → word ≡ 0
    → ((i : ℕ) → i < 64 → word_bit word i ≡ get_or b (8 * at + i) false)
    → AreWhite b (8 * at) (8 * at + 64)
white_bits b at word is bit i more less =
    let column : 8 * at + (i - 8 * at) ≡ i = omega arith in
    sym (bit (i - 8 * at) (omega arith) ∙ ap (λ n. get_or b n false) column)
    ∙ ap (λ w. word_bit w (i - 8 * at)) is ∙ white_word (i - 8 * at)

pub white_on : (b : List Bool) (from middle to : ℕ) → AreWhite b from middle → AreWhite b middle to
    → AreWhite b from to
white_on b from middle to before after i more less = grind (arith, common_steps)

-- after a white word more white words are no change
pub white_after : (b : List Bool) (changes : List ℕ) (word from to : ℕ) → word ≡ 0 → from ≤ to
    → IsUnpackedTo b changes (64 * from) (colour_of_bit (word_bit word 63)) → AreWhite b (64 * from) (64 * to)
    → IsUnpackedTo b changes (64 * to) (colour_of_bit (word_bit word 63))
white_after b changes word from to is order before white =
    unpacked_run b changes (64 * from) (64 * to) (colour_of_bit (word_bit word 63)) before (omega arith)
    (λ i more less. ap colour_of_bit (white i more less ∙ sym (ap (λ w. word_bit w 63) is ∙ white_word 63)))
