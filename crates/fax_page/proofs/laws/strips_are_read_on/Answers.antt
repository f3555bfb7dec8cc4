use Rattle.fax_page.proofs.ReaderLemmas.{read_on}
use Rattle.fax_page.proofs.laws.strips_are_read_on.Goals as goal

pub returns : goal.returns
returns c = read_on
