use Rattle.std.proofs.Common.{arith}
use Rattle.fax_page.proofs.EndLemmas.{one_taken}
use Rattle.fax_page.proofs.MarkLemmas.{all_there, may_go_on, never_goes_on}
use Rattle.fax_page.proofs.uncounted.may_be_return_to_control.Goals as goal

pub returns-in-Cut-clause-may : goal.returns-in-Cut-clause-may
returns-in-Cut-clause-may c = λ _.
    may_go_on _ c.requires.with_eols _ _ _ c.loop-eol.invariant c.loop-eol-test.true c.skip_rtc_eol.new.source.remaining
    c.in-Cut.ensures

pub returns-in-Other-clause-never : goal.returns-in-Other-clause-never
returns-in-Other-clause-never c = λ _ may.
    never_goes_on _ c.requires.with_eols _ _ _ c.loop-eol.invariant c.loop-eol-test.true
    c.skip_rtc_eol.new.source.remaining c.in-Other.ensures may

pub loop-eol-preserved : goal.loop-eol-preserved
loop-eol-preserved c = one_taken _ _ _ _ c.loop-eol.invariant _ c.in-Whole.ensures

pub returns-clause-may : goal.returns-clause-may
returns-clause-may c = λ _. all_there _ c.requires.with_eols _ _ _ c.loop-eol.invariant (omega arith)
