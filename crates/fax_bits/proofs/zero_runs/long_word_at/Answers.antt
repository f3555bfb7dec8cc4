use Rattle.std.proofs.Common.{◌≡◌, ◌+◌, ◌*◌, ◌%◌, ◌++◌, ap, sym, arith, ◌∙◌, drop}
use Rattle.fax_bits.specs.Bits.{bits, code_bits}
use Rattle.fax_bits.proofs.ZeroRunLemmas.{long_word}
use Rattle.fax_bits.proofs.zero_runs.long_word_at.Goals as goal

pub returns : goal.returns
returns c =
    let high = c.word_at-high.result in
    let low = c.word_at-low.result in
    let word : c.from.result * 4294967296 % 18446744073709551616 + c.from-2.result ≡ high * 4294967296 + low =
    omega (arith, c.from.ensures, c.from-2.ensures, c.word_at-high.type_inv) in
    long_word c.args.order c.args.bytes.now c.args.at high low c.word_at-low.type_inv c.word_at-high.ensures
    c.word_at-low.ensures
    ∙ ap (λ n. code_bits 64 n ++ bits c.args.order (drop (c.args.at + 8) c.args.bytes.now)) (sym word)
