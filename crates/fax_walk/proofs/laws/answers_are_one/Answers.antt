use Rattle.fax_walk.proofs.AnswerLemmas.{bytes_are_converted_in_one_way, files_have_one_report}
use Rattle.fax_walk.proofs.laws.answers_are_one.Goals as goal

pub returns : goal.returns
returns c =
    let items = c.tails_go_on.ensures.files in
    record {
      conversions = bytes_are_converted_in_one_way c.images_are_read_in_one_way.ensures c.form_tails_are_one.ensures.all
          items;
      reports = files_have_one_report items;
    }
