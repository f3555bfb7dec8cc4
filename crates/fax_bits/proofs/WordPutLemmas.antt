-- A word that is put after fewer bits than it has.
use Rattle.std.proofs.Common.{◌≡◌, ℕ, ◌+◌, ◌-◌, ◌*◌, ◌/◌, ◌%◌, ◌^◌, ◌<◌, ◌≤◌, List, ◌++◌, sym, subst, arith}
use Rattle.std.specs.Prelude.{bit_and}
use Rattle.fax_bits.specs.declared.FillOrder.{FillOrder}
use Rattle.fax_bits.specs.declared.FillOrder.TheVariants.{MsbFirst}
use Rattle.fax_bits.specs.Bits.{bits, code_bits}
use Rattle.fax_bits.specs.views.Sink.{Sink}
use Rattle.fax_bits.specs.code.Sink.{sink_of}
use Rattle.fax_bits.proofs.SinkLemmas.{first_part-lt, word_stored}

-- so many bits and a word after them, as one number
module _ (count pending : ℕ) (short : count + 32 ≤ 64) (fits : pending < 2 ^ (count + 32)) where
  left_are : count + 32 - 32 ≡ count
  left_are = omega arith

  pub high_word-lt : pending / 2 ^ count < 2 ^ 32
  high_word-lt = grind (arith, left_are, first_part-lt)

-- its first 32 bits are stored
pub word_put : (order : FillOrder) (bytes pushed : List ℕ) (count pending : ℕ) (sink : Sink) → count + 32 ≤ 64
    → pending < 2 ^ (count + 32)
    → sink_of order bytes (count + 32) pending ≡ sink → bits MsbFirst pushed
    ≡ bits MsbFirst bytes ++ code_bits 32 (pending / 2 ^ count)
    → sink_of order pushed count (bit_and pending (1 * 2 ^ count % 2 ^ 64 - 1)) ≡ sink
word_put order bytes pushed count pending sink short fits is pushed_is =
    let left_are : count + 32 - 32 ≡ count = omega arith in
    subst (λ n. sink_of order pushed n (bit_and pending (1 * 2 ^ n % 2 ^ 64 - 1)) ≡ sink) left_are
    (word_stored order bytes pushed (count + 32) pending sink (omega arith) short fits is
    (subst (λ n. bits MsbFirst pushed ≡ bits MsbFirst bytes ++ code_bits 32 (pending / 2 ^ n)) (sym left_are)
    pushed_is))
