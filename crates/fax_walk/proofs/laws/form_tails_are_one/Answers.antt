use Rattle.fax_walk.proofs.PageLawLemmas.{one_forms, one_form_tail, form_tail_of_page, form_tail_of_start}
use Rattle.fax_walk.proofs.PageLawLemmas.{form_tails_go_on}
use Rattle.fax_walk.proofs.PageLawLemmas.{forms_stand_by_number}
use Rattle.fax_walk.proofs.laws.form_tails_are_one.Goals as goal

pub returns : goal.returns
returns c = record {
  all = one_forms c.files_have_one_chain.ensures;
  one = one_form_tail c.files_have_one_chain.ensures;
  first = form_tail_of_page;
  start = form_tail_of_start;
  after = form_tails_go_on;
  numbers = forms_stand_by_number;
}
