use Rattle.std.proofs.Common.{inl, inr, arith}
use Rattle.std.proofs.lemmas.Int.{ints}
use Rattle.fax_bits.proofs.ModeLemmas.{vertical_is_ahead}
use Rattle.fax_bits.proofs.mode_codes.find_vertical.Goals as goal

pub returns-then-shift-lt0 : goal.returns-then-shift-lt0
returns-then-shift-lt0 c =
    rw c.before.from.ensures
    (vertical_is_ahead c.args.bits c.requires (inr (omega (arith, ints, c.if-shift-lt0.true))))

pub returns-then-len-gt0 : goal.returns-then-len-gt0
returns-then-len-gt0 c =
    rw c.before.before.from.ensures (vertical_is_ahead c.args.bits c.requires (inl c.if-len-gt0.true))
