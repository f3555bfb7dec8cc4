use Rattle.fax_bits.proofs.WrittenRunLemmas.{short_written, long_written, most_written}
use Rattle.fax_bits.proofs.laws.chosen_codes_are_written.Goals as goal

pub returns : goal.returns
returns c = record { short = short_written; long = long_written; longest = most_written }
