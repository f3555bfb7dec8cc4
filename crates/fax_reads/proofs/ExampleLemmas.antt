-- The examples, computed.
use Rattle.std.proofs.Common.{refl}
use Rattle.fax_bits.specs.Reading.{steps}
use Rattle.fax_bits.specs.Bits.{bits, byte_bits, code_bits}
use Rattle.fax_bits.specs.Tables.{modes, white_runs, black_runs, white_terminating, black_terminating, white_make_up}
use Rattle.fax_bits.specs.Tables.{black_make_up, common_make_up}
use Rattle.fax_rows.specs.Rows.{first_index, next_change, b1}
use Rattle.fax_reads.specs.laws.Examples.{AreStripsRead}

pub are_read : AreStripsRead
unfolding steps bits byte_bits code_bits modes white_runs black_runs white_terminating black_terminating white_make_up
    black_make_up common_make_up first_index next_change b1
are_read = record {
  faults_of_mh = record {
    no_bits = refl;
    no_second_row = refl;
    code_is_cut = refl;
    run_is_cut = refl;
    ten_zeros_after_eol = refl;
    no_code = refl;
    no_black_code = refl;
    extension = refl;
    black_extension = refl;
    nine_white = refl;
    black_past_the_width = refl;
    make_up_code_past_the_width = refl;
    second_row_without_eol = refl;
    ten_zeros_and_a_one = refl;
    two_eols = refl;
    eleven_zeros_after_eol = refl;
  };
  faults_of_mr = record {
    no_one = refl;
    no_tag_bit = refl;
    no_first_code = refl;
    no_second_run = refl;
    no_run = refl;
    no_mode = refl;
    extension_of_runs = refl;
    extension_of_modes = refl;
    nine_white = refl;
    nine_white_in_horizontal_mode = refl;
    right_of_the_row = refl;
    first_row_without_eol = refl;
    two_eols = refl;
    two_eols_in_two_dimensions = refl;
  };
  faults_of_mmr = record {
    no_bits = refl;
    ten_zeros = refl;
    mode_is_cut = refl;
    no_second_run = refl;
    no_mode = refl;
    no_white_run = refl;
    extension_of_modes = refl;
    extension_of_runs = refl;
    nine_white = refl;
    second_run_past_the_width = refl;
    right_of_the_row = refl;
    left_of_the_row = refl;
    at_a0_again = refl;
    two_eols = refl;
    eleven_zeros = refl;
    block_after_a_row = refl;
  };
  mh = record {
    eol = refl;
    no_first_eol = refl;
    begins_black = refl;
    fill = refl;
    fill_at_the_beginning = refl;
    run_of_0_inside = refl;
    return_to_control_is_left = refl;
    no_rows = refl;
    highest_bit_first = refl;
    lowest_bit_first = refl;
  };
  long_runs = record {
    white_63 = refl;
    white_64 = refl;
    white_72 = refl;
    white_128 = refl;
    two_make_up_codes = refl;
    shorter_one_first = refl;
    black_64 = refl;
    black_128 = refl;
  };
  mr = record {
    both_tag_bits = refl;
    first_row_in_two_dimensions = refl;
    fill = refl;
    return_to_control_is_left = refl;
  };
  mmr = record {
    vertical_modes = refl;
    pass_mode = refl;
    pass_mode_to_the_width = refl;
    pass_mode_in_black = refl;
    horizontal_mode_in_black = refl;
    first_pel_is_a_change = refl;
    two_runs_of_0 = refl;
    end_of_block_is_left = refl;
    lowest_bit_first = refl;
  };
  ends = record {
    mh_return_to_control = refl;
    mh_return_with_fill = refl;
    mh_five_eols = refl;
    mr_return_to_control = refl;
    mr_return_with_a_tag_of_0 = refl;
    mmr_end_of_block = refl;
    mmr_block_without_rows = refl;
    mmr_block_after_fill = refl;
    mh_data_end = refl;
    mr_data_end = refl;
    mmr_data_end = refl;
    no_row_before_the_data_end = refl;
    row_is_cut = refl;
    no_code = refl;
    extension = refl;
    no_eol = refl;
    too_many = refl;
    marked_after_most_rows = refl;
  };
}
