use Rattle.fax_tool.proofs.WordAnswerLemmas.{words_have_one_answer}
use Rattle.fax_tool.proofs.laws.words_have_one_answer.Goals as goal

pub returns : goal.returns
returns c = words_have_one_answer c.cursors_are_named.ensures.one
