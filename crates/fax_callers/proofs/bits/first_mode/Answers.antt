use Rattle.std.proofs.Common.{ap, sym, ◌∙◌}
use Rattle.fax_bits.specs.Codes.{read_code}
use Rattle.fax_bits.specs.Tables.{modes}
use Rattle.fax_bits.specs.views.Source.{Source}
use Rattle.fax_callers.proofs.bits.first_mode.Goals as goal

pub returns : goal.returns
returns c = (
  _,
  ap (λ (source : Source). read_code modes source.remaining) (sym c.new-source.ensures) ∙ c.read_code.ensures.read,
)
