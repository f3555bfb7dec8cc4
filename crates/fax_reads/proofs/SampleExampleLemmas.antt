-- The samples, computed.
use Rattle.std.proofs.Common.{refl}
use Rattle.fax_bits.specs.Reading.{steps}
use Rattle.fax_bits.specs.Bits.{bits, byte_bits, code_bits}
use Rattle.fax_bits.specs.Tables.{modes, white_runs, black_runs, white_terminating, black_terminating, white_make_up}
use Rattle.fax_bits.specs.Tables.{black_make_up, common_make_up}
use Rattle.fax_rows.specs.Rows.{first_index, next_change, b1}
use Rattle.fax_files.specs.Directory.{entries_at, has_integers, header, number_at, read_chain, read_chain_from, scalar}
use Rattle.fax_files.specs.Directory.{value_at, values_offset}
use Rattle.fax_walk.specs.Pages.{read_page}
use Rattle.fax_files.specs.Page.{rational_of, form_in, page, strip_bytes}
use Rattle.fax_files.specs.Layout.{field_bytes}
use Rattle.fax_reads.specs.laws.Files.{FilesAreReadByFunctions}
use Rattle.fax_reads.specs.laws.SampleExamples.{AreSamplesRead}
use Rattle.fax_reads.proofs.FileExampleLemmas.{has}

pub samples : FilesAreReadByFunctions → AreSamplesRead
unfolding steps bits byte_bits code_bits modes white_runs black_runs white_terminating black_terminating white_make_up
    black_make_up common_make_up first_index next_change b1 number_at header read_chain_from read_chain read_page
    entries_at values_offset value_at has_integers scalar rational_of form_in page strip_bytes field_bytes
samples read = record {
  run_of_64 = has read _ _ _ refl refl;
  control = has read _ _ _ refl refl;
  black = has read _ _ _ refl refl;
  missing = has read _ _ _ refl refl;
  mmr_rows = has read _ _ _ refl refl;
  pages = has read _ _ _ refl refl;
  damaged = has read _ _ _ refl refl;
}
