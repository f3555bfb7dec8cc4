use Rattle.fax_page.proofs.EndLemmas.{no_return_eol, tag_taken}
use Rattle.fax_page.proofs.notes.skip_return_eol.Goals as goal

pub returns-in-Err : goal.returns-in-Err
returns-in-Err c = λ after eol. no_return_eol _ _ _ _ c.in-Err.ensures.err eol

pub returns-in-Mr : goal.returns-in-Mr
returns-in-Mr c = tag_taken _ _ _ _ _ c.in-Mr.is c.in_default.ensures.ok c.take.ensures.taken
