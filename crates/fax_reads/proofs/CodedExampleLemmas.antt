-- The worked codes, computed.
use Rattle.std.proofs.Common.{refl}
use Rattle.fax_bits.specs.Bits.{code_bits}
use Rattle.fax_bits.specs.Tables.{modes, white_runs, black_runs, white_terminating, black_terminating, white_make_up}
use Rattle.fax_bits.specs.Tables.{black_make_up, common_make_up}
use Rattle.fax_bits.specs.Written.{run_code_bits, mode_bits, run_bits}
use Rattle.fax_rows.specs.Coded.{alternating_bits, step_bits}
use Rattle.fax_rows.specs.Rows.{first_index, next_change, b1, runs_after}
use Rattle.fax_reads.specs.laws.CodedExamples.{AreChosenSo}

pub chosen : AreChosenSo
unfolding code_bits modes white_runs black_runs white_terminating black_terminating white_make_up black_make_up
    common_make_up run_code_bits mode_bits run_bits alternating_bits step_bits
    first_index next_change b1 runs_after
chosen = record {
  make_up_alone = refl;
  longest_terminating = refl;
  two_make_ups = refl;
  make_up_twice = refl;
  three_runs = refl;
  begins_black = refl;
  pass = refl;
  no_pass_where_b2_is_a1 = refl;
  first_pel = refl;
  horizontal = refl;
}
