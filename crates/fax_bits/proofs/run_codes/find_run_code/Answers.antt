use Rattle.std.proofs.Common.{arith}
use Rattle.std.proofs.lemmas.Grind.{common_steps}
use Rattle.fax_bits.proofs.IndexLemmas.{white_short_index, black_short_index}
use Rattle.fax_bits.proofs.TableIndexLemmas.{found_at_index}
use Rattle.fax_bits.proofs.run_codes.find_run_code.Goals as goal
use Rattle.fax_bits.proofs.run_codes.find_run_code.Goals.{then-index-ge-EXTENSION+else-index-ge-EXTENSION-2}
use Rattle.fax_bits.proofs.run_codes.find_run_code.Goals.{else-index-ge-EXTENSION}
use Rattle.fax_bits.proofs.run_codes.find_run_code.Goals.{in-White, in-Black}

pub returns : goal.returns
returns c = grind (arith, common_steps, white_short_index, black_short_index, found_at_index)
