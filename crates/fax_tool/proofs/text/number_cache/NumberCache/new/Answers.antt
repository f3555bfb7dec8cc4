use Rattle.std.proofs.Common.{◌+◌, ◌*◌, refl}
use Rattle.fax_tool.specs.declared.text.number_cache.TheConstants.{NOT_MADE}
use Rattle.fax_tool.proofs.RememberedLemmas.{none_made}
use Rattle.fax_tool.proofs.text.number_cache.NumberCache.new.Goals as goal

pub invariant_of-result : goal.invariant_of-result
invariant_of-result c = (
  λ number kept made. absurd (none_made 2048 number NOT_MADE kept refl made),
  λ first second kept small made. absurd (none_made 4096 (64 * first + second) NOT_MADE kept refl made),
)
