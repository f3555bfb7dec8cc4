use Rattle.fax_files.proofs.FormLemmas.{forms_are_whole}
use Rattle.fax_files.proofs.laws.forms_are_whole.Goals as goal

pub returns : goal.returns
returns c = forms_are_whole
