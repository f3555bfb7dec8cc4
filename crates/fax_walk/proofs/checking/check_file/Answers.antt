use Rattle.std.proofs.Common.{refl}
use Rattle.fax_walk.proofs.PageCheckLemmas.{header_report}
use Rattle.fax_walk.proofs.checking.check_file.Goals as goal

pub returns-in-Err : goal.returns-in-Err
returns-in-Err c = header_report _ _ _ _ c.in-Err.ensures.fault c.new.ensures.items refl refl refl
