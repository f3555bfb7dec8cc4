use Rattle.std.proofs.Common.{ap, sym, ◌∙◌}
use Rattle.fax_bits.specs.Bits.{code_bits}
use Rattle.fax_bits.specs.Tables.{modes}
use Rattle.fax_bits.specs.Written.{mode_bits}
use Rattle.fax_bits.proofs.put.mode_code.Goals as goal

pub returns-in-Pass : goal.returns-in-Pass
unfolding modes mode_bits code_bits
returns-in-Pass c = c.of.ensures ∙ ap mode_bits (sym c.in-Pass.is)

pub returns-in-Horizontal : goal.returns-in-Horizontal
unfolding modes mode_bits code_bits
returns-in-Horizontal c = c.of-in-Horizontal.ensures ∙ ap mode_bits (sym c.in-Horizontal.is)
