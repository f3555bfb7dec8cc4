use Rattle.fax_walk.proofs.LeftLemmas.{forms_left_go_on}
use Rattle.fax_walk.proofs.laws.pages_go_on.Goals as goal

pub returns-clause-forms : goal.returns-clause-forms
returns-clause-forms c = forms_left_go_on c.form_tails_are_one.ensures.one
