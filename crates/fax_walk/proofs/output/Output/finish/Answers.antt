use Rattle.std.proofs.Common.{refl, [], subst, append-nil, List}
use Rattle.fax_walk.specs.Converted.{SourcePage, IsTooLarge, target_bytes}
use Rattle.fax_walk.proofs.output.Output.finish.Goals as goal

pub returns-clause-err : goal.returns-clause-err
returns-clause-err c = (
  refl,
  λ at written.
      let large = rw c.in-TooLarge.is at written in
      subst (λ (pages : List SourcePage). IsTooLarge at.options.target pages
      (target_bytes at.options.target at.options pages)) (append-nil at.pages) (large []),
)
