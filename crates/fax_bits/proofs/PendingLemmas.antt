-- Bits that wait for a sink, and go to it word by word.
use Rattle.std.proofs.lemmas.Grind.{common_steps}
use Rattle.std.proofs.Common.{◌≡◌, ℕ, ◌+◌, ◌*◌, ◌%◌, ◌^◌, ◌<◌, List, ◌++◌, length, Bool, ap, sym, ◌∙◌, arith}
use Rattle.std.specs.Prelude.{bit_or}
use Rattle.fax_bits.specs.declared.Colour.{Colour}
use Rattle.fax_bits.specs.Bits.{code_bits}
use Rattle.fax_bits.specs.Written.{run_codes, run_bits}
use Rattle.fax_bits.specs.code.Sink.{AreWaiting}
use Rattle.fax_bits.specs.views.Sink.{Sink, Appends, AppendsPrefix, AppendsCodes}
use Rattle.fax_bits.proofs.CodeBitsLemmas.{length-code_bits}
use Rattle.fax_bits.proofs.SinkLemmas.{joined-lt, joined_bits}

-- how many bits wait
pub length-waiting : (count number : ℕ) (b : List Bool) → code_bits count number ≡ b → length b ≡ count
length-waiting count number b is = ap length (sym is) ∙ length-code_bits count number

-- bits that wait, and the next ones, as one number
module _ (count number next_count next_number : ℕ) (first : AreWaiting count number)
    (next : AreWaiting next_count next_number) where
  pub both-lt : bit_or (number * 2 ^ next_count % 2 ^ 64) next_number < 2 ^ (count + next_count)
  both-lt = joined-lt count number next_count next_number first.fits next.fits (omega (arith, first.few, next.few))

  pub both_bits : (b c : List Bool) → code_bits count number ≡ b → code_bits next_count next_number ≡ c
      → code_bits (count + next_count) (bit_or (number * 2 ^ next_count % 2 ^ 64) next_number) ≡ b ++ c
  both_bits b c b_is c_is = grind (arith, joined_bits)

pub prefix-second : (old mid new : Sink) (first second : List Bool) → Appends old first mid
    → AppendsPrefix mid second new
    → AppendsPrefix old (first ++ second) new
prefix-second old mid new first second one two = grind (arith, common_steps)

-- whole codes of a run are a part of its bits
pub bits_of_codes : (colour : Colour) (n : ℕ) (old new : Sink) → AppendsCodes old colour (run_codes n) new
    → AppendsPrefix old (run_bits colour n) new
unfolding run_bits
bits_of_codes colour n old new codes = grind (arith, common_steps)
