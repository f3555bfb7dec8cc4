use Rattle.std.proofs.Common.{arith}
use Rattle.std.proofs.lemmas.Bool.Decides.{nat_tests}
use Rattle.fax_page.proofs.StartLaws.{code_at}
use Rattle.fax_page.proofs.SalvageLemmas.{not_below, not_below_zeros}
use Rattle.fax_page.proofs.lines.begins_below_eleven.Goals as goal

pub returns-in-Some-clause-no : goal.returns-in-Some-clause-no
returns-in-Some-clause-no c = λ enough below. not_below _ _ c.in-Some.ensures enough below

pub returns-in-None-clause-no : goal.returns-in-None-clause-no
returns-in-None-clause-no c = λ _ below. not_below_zeros _ c.in-None.ensures below

pub returns-in-Some-clause-yes : goal.returns-in-Some-clause-yes
returns-in-Some-clause-yes c = λ few.
    code_at _ c.in-Some.ensures.0 _ (grind (arith, nat_tests, few)) c.in-Some.ensures.1
