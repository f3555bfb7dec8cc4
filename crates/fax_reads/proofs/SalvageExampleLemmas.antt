-- The worked runs of salvage, computed.
use Rattle.std.proofs.Common.{◌≡◌, ℕ, List, refl}
use Rattle.fax_bits.specs.Reading.{steps}
use Rattle.fax_bits.specs.Bits.{bits, byte_bits, code_bits}
use Rattle.fax_bits.specs.Tables.{modes, white_runs, black_runs, white_terminating, black_terminating, white_make_up}
use Rattle.fax_bits.specs.Tables.{black_make_up, common_make_up}
use Rattle.fax_rows.specs.Rows.{first_index, next_change, b1}
use Rattle.fax_files.specs.Directory.{entries_at, has_integers, header, number_at, read_chain, read_chain_from, scalar}
use Rattle.fax_files.specs.Directory.{value_at, values_offset}
use Rattle.fax_walk.specs.Pages.{read_page}
use Rattle.fax_files.specs.BytesInside.{bytes_inside}
use Rattle.fax_files.specs.Page.{rational_of, form_in, page, strip_bytes}
use Rattle.fax_files.specs.Layout.{field_bytes}
use Rattle.fax_walk.specs.Salvaged.{SalvagedItem}
use Rattle.fax_bits.specs.declared.FillOrder.TheVariants.{MsbFirst}
use Rattle.fax_page.specs.declared.Coding.{Coding}
use Rattle.fax_page.specs.declared.RowsEnd.{RowsEnd}
use Rattle.fax_page.specs.Salvage.{SalvagedRow}
use Rattle.fax_page.specs.laws.StripGraphs.{DamagedStripsAreReadByFunctions}
use Rattle.fax_page.specs.Strip.{most_rows}
use Rattle.fax_page.specs.reads.Salvage.{salvage_rows_and_end}
use Rattle.fax_reads.specs.FileSalvage.{salvage_file}
use Rattle.fax_reads.specs.laws.Examples.{form}
use Rattle.fax_reads.specs.laws.FileSalvage.{SalvagesAreReadByFunctions}
use Rattle.fax_reads.specs.laws.SalvageExamples.{AreSalvagesRead, HasLeft, HasLeftUncounted}

has : SalvagesAreReadByFunctions → (file : List ℕ) (items : List SalvagedItem) → salvage_file file ≡ items
    → HasLeft file items
has read file items same = record { are = (read file items).1 same }

has_uncounted : DamagedStripsAreReadByFunctions → (coding : Coding) (bytes : List ℕ) (rows : List SalvagedRow)
    (end : RowsEnd)
    → salvage_rows_and_end (form coding 8 most_rows) (bits MsbFirst bytes) ≡ (rows, end)
    → HasLeftUncounted coding bytes rows end
has_uncounted read coding bytes rows end same =
    record { are = (read.uncounted (form coding 8 most_rows) (bits MsbFirst bytes) rows end).1 same }

pub salvages : SalvagesAreReadByFunctions → DamagedStripsAreReadByFunctions → AreSalvagesRead
unfolding steps bits byte_bits code_bits modes white_runs black_runs white_terminating black_terminating white_make_up
    black_make_up common_make_up first_index next_change b1 number_at header read_chain_from read_chain read_page
    entries_at values_offset value_at has_integers scalar rational_of form_in page strip_bytes bytes_inside field_bytes
salvages read strips = record {
  whole = has read _ _ refl;
  raw_pbm_by_another_name_is = has read _ _ refl;
  mh_bad_code_between_two_rows_is = has read _ _ refl;
  mh_extension_between_two_rows_is = has read _ _ refl;
  mh_run_too_long_between_two_rows_is = has read _ _ refl;
  mh_bad_first_row_without_eol_is = has read _ _ refl;
  mh_two_rows_without_the_eol_between_is = has read _ _ refl;
  mh_one_eol_more_than_rows_is = has read _ _ refl;
  mh_ones_after_a_row_is = has read _ _ refl;
  mh_a_code_more_after_a_row_is = has read _ _ refl;
  mh_fill_after_a_row_is = has read _ _ refl;
  mh_codes_after_the_last_row_is = has read _ _ refl;
  mh_return_to_control_after_one_row_of_four_is = has read _ _ refl;
  mr_first_of_two_rows_without_eol_is = has read _ _ refl;
  mr_a_row_over_a_lost_one_is = has read _ _ refl;
  mmr_extension_in_the_first_of_two_strips_is = has read _ _ refl;
  mh_lost_around_the_border_of_two_strips_is = has read _ _ refl;
  mh_strip_cut_in_its_third_row_is = has read _ _ refl;
  page_of_width_0_between_two_is = has read _ _ refl;
  uncounted = record {
    bad_code_between_two_rows = has_uncounted strips _ _ _ _ refl;
    codes_after_the_last_row = has_uncounted strips _ _ _ _ refl;
    return_to_control_after_a_row = has_uncounted strips _ _ _ _ refl;
    row_over_a_lost_one = has_uncounted strips _ _ _ _ refl;
    end_of_a_block = has_uncounted strips _ _ _ _ refl;
  };
}
