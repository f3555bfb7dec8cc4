-- The worked reports, computed.
use Rattle.std.proofs.Common.{◌≡◌, ℕ, true, false, List, refl, ◌∙◌, sym}
use Rattle.fax_bits.specs.Reading.{steps}
use Rattle.fax_bits.specs.Bits.{bits, byte_bits, code_bits}
use Rattle.fax_bits.specs.Tables.{modes, white_runs, black_runs, white_terminating, black_terminating, white_make_up}
use Rattle.fax_bits.specs.Tables.{black_make_up, common_make_up}
use Rattle.fax_bits.specs.Written.{run_code_bits, mode_bits, run_bits}
use Rattle.fax_rows.specs.Coded.{alternating_bits, step_bits}
use Rattle.fax_rows.specs.Rows.{first_index, next_change, b1, runs_after}
use Rattle.fax_files.specs.Directory.{entries_at, has_integers, header, number_at, read_chain, read_chain_from, scalar}
use Rattle.fax_files.specs.Directory.{value_at, values_offset}
use Rattle.fax_walk.specs.Pages.{read_page}
use Rattle.fax_files.specs.BadRows.{received}
use Rattle.fax_files.specs.Page.{rational_of, form_in, page, strip_bytes}
use Rattle.fax_files.specs.Layout.{field_bytes}
use Rattle.fax_reads.specs.Reports.{ReportRead, read_report}
use Rattle.fax_reads.specs.laws.Reports.{ReportsAreReadByAFunction}
use Rattle.fax_reads.specs.laws.ReportExamples.{AreReportsRead, HasReport, HasReportWithReceived}

module _ (reads : ReportsAreReadByAFunction) where
  has : (file : List ℕ) (read : ReportRead) → read_report false file ≡ read → HasReport file read
  has file read e report =
      (λ is. sym e ∙ (reads false file report).0 is, λ same. (reads false file report).1 (e ∙ same))

  has_with : (file : List ℕ) (read : ReportRead) → read_report true file ≡ read → HasReportWithReceived file read
  has_with file read e report =
      (λ is. sym e ∙ (reads true file report).0 is, λ same. (reads true file report).1 (e ∙ same))

  pub reports_read : AreReportsRead
  unfolding steps bits byte_bits code_bits modes white_runs black_runs white_terminating black_terminating white_make_up
      black_make_up common_make_up first_index next_change b1 number_at header read_chain_from read_chain read_page
      entries_at values_offset value_at has_integers run_code_bits mode_bits run_bits alternating_bits step_bits
      runs_after scalar rational_of form_in page strip_bytes field_bytes received
  reports_read = record {
    row_alone = has _ _ refl;
    end_of_block = has _ _ refl;
    no_end_of_block = has _ _ refl;
    six_eols = has _ _ refl;
    one_after_the_row = has _ _ refl;
    row_in_parts = has _ _ refl;
    last_field_first = has _ _ refl;
    two_notes = has _ _ refl;
    bad_row = has_with _ _ refl;
    not_asked_for = has _ _ refl;
    clean = has_with _ _ refl;
    data_not_clean = has_with _ _ refl;
    loop = has _ _ refl;
    strip_outside = has _ _ refl;
  }
