use Rattle.fax_tool.proofs.WordExampleLemmas.{are_not_taken, are_read}
use Rattle.fax_tool.proofs.laws.examples_of_words.Goals as goal

pub returns : goal.returns
returns c = record { read = are_read; not_taken = are_not_taken }
