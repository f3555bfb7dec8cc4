use Rattle.fax_tool.proofs.TextLawLemmas.{texts_are_one}
use Rattle.fax_tool.proofs.laws.texts_are_one.Goals as goal

pub returns : goal.returns
returns c =
    texts_are_one c.beginnings_have_one_tail.ensures c.form_tails_are_one.ensures.one
    c.answers_are_one.ensures.conversions c.answers_are_one.ensures.reports
    c.files_are_salvaged_in_one_way.ensures c.salvaged_files_are_one.ensures c.tails_go_on.ensures.files
