use Rattle.std.proofs.Common.{sym, arith}
use Rattle.fax_rows.proofs.StepReadLemmas.{is_false}
use Rattle.fax_page.proofs.EndGraph.{data_end_of, is_data_end}
use Rattle.fax_page.proofs.UncountedLaws.{one_is_not_zeros}
use Rattle.fax_page.proofs.uncounted.has_data_end.Goals as goal

pub returns-then-rows-eq0 : goal.returns-then-rows-eq0
returns-then-rows-eq0 c =
    sym (is_false _ (λ is.
    let has = is_data_end c.args.rows c.args.source.now.remaining is in omega (arith, has.0)))

pub returns-in-Some : goal.returns-in-Some
returns-in-Some c =
    sym (is_false _ (λ is.
    let has = is_data_end c.args.rows c.args.source.now.remaining is in
    one_is_not_zeros c.args.source.now.remaining _ c.in-Some.ensures has.1))

pub returns-in-None : goal.returns-in-None
returns-in-None c =
    sym (data_end_of c.args.rows c.args.source.now.remaining (omega arith, c.in-None.ensures))
