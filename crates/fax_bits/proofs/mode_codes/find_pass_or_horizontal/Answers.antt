use Rattle.std.proofs.Common.{◌≡◌, ◌/◌, ◌^◌, refl, arith}
use Rattle.fax_bits.specs.Tables.{modes}
use Rattle.fax_bits.specs.declared.mode_codes.ModeCode.TheVariants.{Pass, Horizontal}
use Rattle.fax_bits.proofs.ModeLemmas.{mode_begins}
use Rattle.fax_bits.proofs.mode_codes.find_pass_or_horizontal.Goals as goal

pub returns-in-1 : goal.returns-in-1
unfolding modes
returns-in-1 c = mode_begins c.args.bits 0 (record { code = 1; len = 4; meaning = Pass }) refl (omega arith) c.in-1.is

pub returns-in-2 : goal.returns-in-2
unfolding modes
returns-in-2 c =
    let is : c.args.bits / 2 ^ 10 ≡ 1 = omega (arith, c.in-2) in
    mode_begins c.args.bits 1 (record { code = 1; len = 3; meaning = Horizontal }) refl (omega arith) is
