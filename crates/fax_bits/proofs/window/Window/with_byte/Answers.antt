use Rattle.std.proofs.Common.{◌+◌, ◌<◌, ◌^◌, ◌++◌, drop, arith, ap, ◌∙◌, append_assoc}
use Rattle.fax_bits.specs.Bits.{bits, code_bits}
use Rattle.fax_bits.specs.code.Window.{first_bits}
use Rattle.fax_bits.proofs.WindowLemmas.{loaded_bits, loaded_zeros}
use Rattle.fax_bits.proofs.WordLemmas.{bits-next}
use Rattle.fax_bits.proofs.window.Window.with_byte.Goals as goal

pub invariant_of-result : goal.invariant_of-result
invariant_of-result c = grind (arith, loaded_zeros)

pub returns-clause-ahead : goal.returns-clause-ahead
returns-clause-ahead c =
    let w = c.args.self in
    let order = c.args.order in
    let bytes = c.args.bytes.now in
    let fits : c.from.result < 2 ^ 8 = omega (arith, c.from.ensures, c.byte_at-byte.type_inv) in
    ap (λ b. b ++ bits order (drop (w.at + 1) bytes)) (loaded_bits 8 w.count w.bits c.from.result
    (omega (arith, c.requires.room))
    w.zeros_after fits)
    ∙ append_assoc (first_bits w.count w.bits) (code_bits 8 c.from.result) (bits order (drop (w.at + 1) bytes))
    ∙ ap (λ b. first_bits w.count w.bits ++ (b ++ bits order (drop (w.at + 1) bytes)))
    (ap (code_bits 8) c.from.ensures ∙ c.byte_at-byte.ensures)
    ∙ ap (λ b. first_bits w.count w.bits ++ b) (bits-next 1 order bytes w.at)
