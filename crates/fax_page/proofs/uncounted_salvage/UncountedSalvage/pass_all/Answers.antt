use Rattle.fax_page.proofs.LeftUncountedLemmas.{all_passed, passed_more}
use Rattle.fax_page.proofs.uncounted_salvage.UncountedSalvage.pass_all.Goals as goal

pub returns-in-Err : goal.returns-in-Err
returns-in-Err c = all_passed _ _ _ c.rows.invariant _ c.in-Err.ensures

pub rows-preserved : goal.rows-preserved
rows-preserved c = passed_more _ _ _ c.rows.invariant _ c.in_default.ensures
