-- The worked files, computed.
use Rattle.std.proofs.Common.{◌≡◌, ℕ, List, [], map, refl}
use Rattle.fax_bits.specs.Reading.{steps}
use Rattle.fax_bits.specs.declared.Colour.{Colour}
use Rattle.fax_bits.specs.Bits.{bits, byte_bits, code_bits}
use Rattle.fax_bits.specs.Tables.{modes, white_runs, black_runs, white_terminating, black_terminating, white_make_up}
use Rattle.fax_bits.specs.Tables.{black_make_up, common_make_up}
use Rattle.fax_rows.specs.Rows.{first_index, next_change, b1}
use Rattle.fax_files.specs.Directory.{entries_at, has_integers, header, number_at, read_chain, read_chain_from, scalar}
use Rattle.fax_files.specs.Directory.{value_at, values_offset}
use Rattle.fax_walk.specs.Pages.{read_page}
use Rattle.fax_files.specs.Page.{rational_of, form_in, page, strip_bytes}
use Rattle.fax_files.specs.Layout.{field_bytes}
use Rattle.fax_files.specs.declared.FileFault.{FileFault}
use Rattle.fax_walk.specs.declared.end.End.{End}
use Rattle.fax_walk.specs.declared.end.End.TheVariants.{Fault}
use Rattle.fax_walk.specs.Pages.{FormItem, File}
use Rattle.fax_reads.specs.Files.{read_rows, read_forms}
use Rattle.fax_reads.specs.laws.Files.{FilesAreReadByFunctions}
use Rattle.fax_reads.specs.laws.FileExamples.{AreFaultsOfHeaders, AreFaultsOfChains, AreFaultsOfFields}
use Rattle.fax_reads.specs.laws.FileExamples.{AreFaultsOfStrips}
use Rattle.fax_reads.specs.laws.FileExamples.{AreWholeFiles, IsSampleRead, AreFilesRead, HasForms, HasRows}
use Rattle.fax_reads.specs.laws.FileExamples.{IsFileRefused}
use Rattle.fax_reads.specs.laws.FileExamples.{row_and_place}

module _ (read : FilesAreReadByFunctions) where
  refused : (file : List ℕ) (fault : FileFault) → read_rows file ≡ record { items = []; end = Fault 0 0 (File fault) }
      → read_forms file ≡ record { items = []; end = Fault 0 0 (File fault) } → IsFileRefused file fault
  refused file fault rows forms = record {
    rows = (read.rows file [] (Fault 0 0 (File fault))).1 rows;
    forms = (read.forms file [] (Fault 0 0 (File fault))).1 forms;
  }

  pub has : (file : List ℕ) (rows : List (ℕ × ℕ × List Colour)) (end : End)
      → map row_and_place (read_rows file).items ≡ rows → (read_rows file).end ≡ end → HasRows file rows end
  has file rows end rows_are end_is = record {
    items = (read_rows file).items;
    are = rw (← end_is) ((read.rows file (read_rows file).items (read_rows file).end).1 refl);
    rows_are = rows_are;
  }

  has_forms : (file : List ℕ) (forms : List FormItem) (end : End)
      → read_forms file ≡ record { items = forms; end = end } → HasForms file forms end
  has_forms file forms end are = record { are = (read.forms file forms end).1 are }

  headers : AreFaultsOfHeaders
  unfolding steps bits byte_bits code_bits modes white_runs black_runs white_terminating black_terminating white_make_up
      black_make_up common_make_up first_index next_change b1 number_at header read_chain_from read_chain read_page
      entries_at values_offset value_at has_integers scalar rational_of form_in page strip_bytes field_bytes
  headers = record {
    no_bytes = refused _ _ refl refl;
    seven_bytes = refused _ _ refl refl;
    no_order = refused _ _ refl refl;
    mixed_order = refused _ _ refl refl;
    bigtiff = refused _ _ refl refl;
    other_order = refused _ _ refl refl;
    no_directory = refused _ _ refl refl;
  }

  chains : AreFaultsOfChains
  unfolding steps bits byte_bits code_bits modes white_runs black_runs white_terminating black_terminating white_make_up
      black_make_up common_make_up first_index next_change b1 number_at header read_chain_from read_chain read_page
      entries_at values_offset value_at has_integers scalar rational_of form_in page strip_bytes field_bytes
  chains = record {
    directory_at_the_end = refused _ _ refl refl;
    directory_past_the_end = refused _ _ refl refl;
    count_is_cut = refused _ _ refl refl;
    entries_are_cut = refused _ _ refl refl;
    next_offset_is_cut = refused _ _ refl refl;
    next_is_outside = has _ _ _ refl refl;
    loop = has _ _ _ refl refl;
    loop_of_two = has _ _ _ refl refl;
  }

  fields : AreFaultsOfFields
  unfolding steps bits byte_bits code_bits modes white_runs black_runs white_terminating black_terminating white_make_up
      black_make_up common_make_up first_index next_change b1 number_at header read_chain_from read_chain read_page
      entries_at values_offset value_at has_integers scalar rational_of form_in page strip_bytes field_bytes
  fields = record {
    no_fields = refused _ _ refl refl;
    no_width = refused _ _ refl refl;
    no_length = refused _ _ refl refl;
    no_compression = refused _ _ refl refl;
    no_interpretation = refused _ _ refl refl;
    no_offsets = refused _ _ refl refl;
    no_byte_counts = refused _ _ refl refl;
    width_of_another_type = refused _ _ refl refl;
    width_without_a_value = refused _ _ refl refl;
    lengths_outside = refused _ _ refl refl;
    strips_of_no_rows = refused _ _ refl refl;
    bits_of_another_type = refused _ _ refl refl;
    compression_of_another_type = refused _ _ refl refl;
    interpretation_of_another_type = refused _ _ refl refl;
    order_of_another_type = refused _ _ refl refl;
    samples_of_another_type = refused _ _ refl refl;
    options_of_another_type = refused _ _ refl refl;
    too_few_offsets = refused _ _ refl refl;
    byte_counts_of_another_type = refused _ _ refl refl;
    grey = refused _ _ refl refl;
    not_compressed = refused _ _ refl refl;
    lzw = refused _ _ refl refl;
    rgb = refused _ _ refl refl;
    order_of_0 = refused _ _ refl refl;
    third_order = refused _ _ refl refl;
    three_samples = refused _ _ refl refl;
    no_pels = refused _ _ refl refl;
    too_wide = refused _ _ refl refl;
    no_rows = refused _ _ refl refl;
    too_long = refused _ _ refl refl;
    first_fault = refused _ _ refl refl;
  }

  strips : AreFaultsOfStrips
  unfolding steps bits byte_bits code_bits modes white_runs black_runs white_terminating black_terminating white_make_up
      black_make_up common_make_up first_index next_change b1 number_at header read_chain_from read_chain read_page
      entries_at values_offset value_at has_integers scalar rational_of form_in page strip_bytes field_bytes
  strips = record {
    strip_at_the_end = has _ _ _ refl refl;
    strip_is_cut = has _ _ _ refl refl;
    second_strip_is_outside = has _ _ _ refl refl;
    no_bytes = has _ _ _ refl refl;
    second_row = has _ _ _ refl refl;
    no_code = has _ _ _ refl refl;
  }

  whole : AreWholeFiles
  unfolding steps bits byte_bits code_bits modes white_runs black_runs white_terminating black_terminating white_make_up
      black_make_up common_make_up first_index next_change b1 number_at header read_chain_from read_chain read_page
      entries_at values_offset value_at has_integers scalar rational_of form_in page strip_bytes field_bytes
  whole = record {
    page = has _ _ _ refl refl;
    highest_byte_first = has _ _ _ refl refl;
    two_pages = has _ _ _ refl refl;
    strips = has _ _ _ refl refl;
    exchanged = has _ _ _ refl refl;
    lowest_bit_first = has _ _ _ refl refl;
    one_dimensional = has _ _ _ refl refl;
    two_dimensional = has _ _ _ refl refl;
    first_entry_counts = has _ _ _ refl refl;
  }

  sample : IsSampleRead
  unfolding steps bits byte_bits code_bits modes white_runs black_runs white_terminating black_terminating white_make_up
      black_make_up common_make_up first_index next_change b1 number_at header read_chain_from read_chain read_page
      entries_at values_offset value_at has_integers scalar rational_of form_in page strip_bytes field_bytes
  sample = record {
    bytes = refl;
    rows = has _ _ _ refl refl;
    forms = has_forms _ _ _ refl;
  }

  pub files_read : AreFilesRead
  files_read = record {
    headers = headers;
    chains = chains;
    fields = fields;
    strips = strips;
    whole = whole;
    sample =
        sample;
  }
