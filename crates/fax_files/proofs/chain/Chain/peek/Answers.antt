use Rattle.std.proofs.Common.{◌∙◌, sym}
use Rattle.std.proofs.lemmas.Result.{err_from_is_err_and}
use Rattle.fax_files.proofs.ChainReadingLemmas.{none_left, turned, outside, found}
use Rattle.fax_files.proofs.ChainSearchLemmas.{turned_here, not_here}
use Rattle.fax_files.proofs.chain.Chain.peek.Goals as goal

pub returns-then-self-eq0-clause-answer : goal.returns-then-self-eq0-clause-answer
returns-then-self-eq0-clause-answer c =
    rw (← c.self.view_is) (none_left _ _ _ c.self.invariant.offset c.if-self-eq0.true)

pub returns-then-is_cycle_start-clause-answer : goal.returns-then-is_cycle_start-clause-answer
returns-then-is_cycle_start-clause-answer c = rw (← c.self.view_is) (turned _ _ _ c.self.invariant.offset
    (turned_here c.self.inside.tiff _ _ c.self.invariant.search_is (sym c.is_cycle_start.ensures
    ∙ c.if-is_cycle_start.true)))

pub returns-in_err-directory-clause-answer : goal.returns-in_err-directory-clause-answer
returns-in_err-directory-clause-answer c =
    let p = err_from_is_err_and c.from_residual.result c.from_residual.ensures.1 in
    rw (p.1, p.2, c.in_err-directory.ensures.fault, ← c.self.view_is) (outside _ _ _ c.self.invariant.offset
    c.if-self-eq0.false c.in_err-directory.ensures.outside)

pub returns-clause-answer : goal.returns-clause-answer
returns-clause-answer c = rw (← c.self.view_is) (found _ _ _ c.self.invariant.offset _
    c.in_ok-directory.ensures.directory c.if-self-eq0.false c.in_ok-directory.ensures.whole
    (not_here c.self.inside.tiff _ _ c.self.invariant.search_is (sym c.is_cycle_start.ensures
    ∙ c.if-is_cycle_start.false)))
