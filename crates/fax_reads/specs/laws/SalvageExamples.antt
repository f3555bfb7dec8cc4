-- The worked runs of salvage: the files of tests/runs/damaged, and what is left of them. Each
-- answer was worked out by T.4 and T.6, so a wrong definition is an example that does not hold.
use Rattle.std.specs.Prelude.{ℕ, List, [], ◌∷◌, ◌++◌, codes}
use Rattle.fax_bits.specs.Bits.{bits}
use Rattle.fax_bits.specs.declared.FillOrder.TheVariants.{MsbFirst}
use Rattle.fax_page.specs.declared.Coding.{Coding}
use Rattle.fax_page.specs.declared.Coding.TheVariants.{Mh, Mr, Mmr}
use Rattle.fax_page.specs.declared.RowsEnd.{RowsEnd}
use Rattle.fax_page.specs.declared.RowsEnd.TheVariants.{DataEnd, Fault, Marked}
use Rattle.fax_page.specs.declared.StripFault.TheVariants.{BadCode, EndMarker, Extension}
use Rattle.fax_page.specs.declared.StripFault.TheVariants.{MissingEol, RunTooLong}
use Rattle.fax_page.specs.LeftUncounted.{IsLeftUncounted}
use Rattle.fax_page.specs.Salvage.{SalvagedRow, found, lost, unended}
use Rattle.fax_page.specs.Strip.{most_rows}
use Rattle.fax_files.specs.declared.FileFault.TheVariants.{OutOfLimits, StripOutside}
use Rattle.fax_walk.specs.Pages.{File, Strip}
use Rattle.fax_walk.specs.Salvaged.{IsSalvaged, SalvagedItem, page_refused, row_found, rows_lost}
use Rattle.fax_reads.specs.laws.Examples.{form, pels}
use Rattle.fax_reads.specs.laws.FileExamples.{sample, spelled_bytes}

-- row r of page p is found, with pels that a text spells
abbrev pub row_left : ℕ → ℕ → List ℕ → SalvagedItem
row_left p r text = row_found p r (pels text)

-- of this file these are left
pub record HasLeft (file : List ℕ) (items : List SalvagedItem) : Type 0 where
  pub are : IsSalvaged file items

-- the file tests/runs/damaged/raw-pbm-by-another-name.tif
abbrev pub raw_pbm_by_another_name : List ℕ
raw_pbm_by_another_name =
    spelled_bytes (codes "5034 2038 2031 0a00")

-- the file tests/runs/damaged/mh-bad-code-between-two-rows.tif
abbrev pub mh_bad_code_between_two_rows : List ℕ
mh_bad_code_between_two_rows =
    spelled_bytes (codes "4949 2a00 1000 0000 0019 8008 0380 0c70 1000 fe00 0400 0100 0000 0200"
    ++ codes " 0000 0001 0400 0100 0000 0800 0000 0101 0400 0100 0000 0300 0000 0201"
    ++ codes " 0300 0100 0000 0100 0000 0301 0300 0100 0000 0300 0000 0601 0300 0100"
    ++ codes " 0000 0000 0000 0a01 0300 0100 0000 0100 0000 1101 0400 0100 0000 0800"
    ++ codes " 0000 1501 0300 0100 0000 0100 0000 1601 0400 0100 0000 0300 0000 1701"
    ++ codes " 0400 0100 0000 0800 0000 1a01 0500 0100 0000 d600 0000 1b01 0500 0100"
    ++ codes " 0000 de00 0000 2401 0400 0100 0000 0000 0000 2801 0300 0100 0000 0200"
    ++ codes " 0000 2901 0300 0200 0000 0000 0100 0000 0000 cc00 0000 0100 0000 c400"
    ++ codes " 0000 0100 0000")

-- the file tests/runs/damaged/mh-extension-between-two-rows.tif
abbrev pub mh_extension_between_two_rows : List ℕ
mh_extension_between_two_rows =
    spelled_bytes (codes "4949 2a00 1000 0000 0019 8008 0400 0c70 1000 fe00 0400 0100 0000 0200"
    ++ codes " 0000 0001 0400 0100 0000 0800 0000 0101 0400 0100 0000 0300 0000 0201"
    ++ codes " 0300 0100 0000 0100 0000 0301 0300 0100 0000 0300 0000 0601 0300 0100"
    ++ codes " 0000 0000 0000 0a01 0300 0100 0000 0100 0000 1101 0400 0100 0000 0800"
    ++ codes " 0000 1501 0300 0100 0000 0100 0000 1601 0400 0100 0000 0300 0000 1701"
    ++ codes " 0400 0100 0000 0800 0000 1a01 0500 0100 0000 d600 0000 1b01 0500 0100"
    ++ codes " 0000 de00 0000 2401 0400 0100 0000 0000 0000 2801 0300 0100 0000 0200"
    ++ codes " 0000 2901 0300 0200 0000 0000 0100 0000 0000 cc00 0000 0100 0000 c400"
    ++ codes " 0000 0100 0000")

-- the file tests/runs/damaged/mh-run-too-long-between-two-rows.tif
abbrev pub mh_run_too_long_between_two_rows : List ℕ
mh_run_too_long_between_two_rows =
    spelled_bytes (codes "4949 2a00 1000 0000 0018 e000 6800 36c0 1000 fe00 0400 0100 0000 0200"
    ++ codes " 0000 0001 0400 0100 0000 0800 0000 0101 0400 0100 0000 0300 0000 0201"
    ++ codes " 0300 0100 0000 0100 0000 0301 0300 0100 0000 0300 0000 0601 0300 0100"
    ++ codes " 0000 0000 0000 0a01 0300 0100 0000 0100 0000 1101 0400 0100 0000 0800"
    ++ codes " 0000 1501 0300 0100 0000 0100 0000 1601 0400 0100 0000 0300 0000 1701"
    ++ codes " 0400 0100 0000 0800 0000 1a01 0500 0100 0000 d600 0000 1b01 0500 0100"
    ++ codes " 0000 de00 0000 2401 0400 0100 0000 0000 0000 2801 0300 0100 0000 0200"
    ++ codes " 0000 2901 0300 0200 0000 0000 0100 0000 0000 cc00 0000 0100 0000 c400"
    ++ codes " 0000 0100 0000")

-- the file tests/runs/damaged/mh-bad-first-row-without-eol.tif
abbrev pub mh_bad_first_row_without_eol : List ℕ
mh_bad_first_row_without_eol =
    spelled_bytes (codes "4949 2a00 0e00 0000 0070 018e 0000 1000 fe00 0400 0100 0000 0200 0000"
    ++ codes " 0001 0400 0100 0000 0800 0000 0101 0400 0100 0000 0200 0000 0201 0300"
    ++ codes " 0100 0000 0100 0000 0301 0300 0100 0000 0300 0000 0601 0300 0100 0000"
    ++ codes " 0000 0000 0a01 0300 0100 0000 0100 0000 1101 0400 0100 0000 0800 0000"
    ++ codes " 1501 0300 0100 0000 0100 0000 1601 0400 0100 0000 0200 0000 1701 0400"
    ++ codes " 0100 0000 0500 0000 1a01 0500 0100 0000 d400 0000 1b01 0500 0100 0000"
    ++ codes " dc00 0000 2401 0400 0100 0000 0000 0000 2801 0300 0100 0000 0200 0000"
    ++ codes " 2901 0300 0200 0000 0000 0100 0000 0000 cc00 0000 0100 0000 c400 0000"
    ++ codes " 0100 0000")

-- the file tests/runs/damaged/mh-two-rows-without-the-eol-between.tif
abbrev pub mh_two_rows_without_the_eol_between : List ℕ
mh_two_rows_without_the_eol_between =
    spelled_bytes (codes "4949 2a00 1600 0000 0018 e000 6d82 0cc0 04d4 5001 8e00 1000 fe00 0400"
    ++ codes " 0100 0000 0200 0000 0001 0400 0100 0000 0800 0000 0101 0400 0100 0000"
    ++ codes " 0400 0000 0201 0300 0100 0000 0100 0000 0301 0300 0100 0000 0300 0000"
    ++ codes " 0601 0300 0100 0000 0000 0000 0a01 0300 0100 0000 0100 0000 1101 0400"
    ++ codes " 0100 0000 0800 0000 1501 0300 0100 0000 0100 0000 1601 0400 0100 0000"
    ++ codes " 0400 0000 1701 0400 0100 0000 0e00 0000 1a01 0500 0100 0000 dc00 0000"
    ++ codes " 1b01 0500 0100 0000 e400 0000 2401 0400 0100 0000 0000 0000 2801 0300"
    ++ codes " 0100 0000 0200 0000 2901 0300 0200 0000 0000 0100 0000 0000 cc00 0000"
    ++ codes " 0100 0000 c400 0000 0100 0000")

-- the file tests/runs/damaged/mh-one-eol-more-than-rows.tif
abbrev pub mh_one_eol_more_than_rows : List ℕ
mh_one_eol_more_than_rows =
    spelled_bytes (codes "4949 2a00 1200 0000 0018 e000 4006 d800 9a8a 1000 fe00 0400 0100 0000"
    ++ codes " 0200 0000 0001 0400 0100 0000 0800 0000 0101 0400 0100 0000 0300 0000"
    ++ codes " 0201 0300 0100 0000 0100 0000 0301 0300 0100 0000 0300 0000 0601 0300"
    ++ codes " 0100 0000 0000 0000 0a01 0300 0100 0000 0100 0000 1101 0400 0100 0000"
    ++ codes " 0800 0000 1501 0300 0100 0000 0100 0000 1601 0400 0100 0000 0300 0000"
    ++ codes " 1701 0400 0100 0000 0a00 0000 1a01 0500 0100 0000 d800 0000 1b01 0500"
    ++ codes " 0100 0000 e000 0000 2401 0400 0100 0000 0000 0000 2801 0300 0100 0000"
    ++ codes " 0200 0000 2901 0300 0200 0000 0000 0100 0000 0000 cc00 0000 0100 0000"
    ++ codes " c400 0000 0100 0000")

-- the file tests/runs/damaged/mh-ones-after-a-row.tif
abbrev pub mh_ones_after_a_row : List ℕ
mh_ones_after_a_row =
    spelled_bytes (codes "4949 2a00 1200 0000 0018 e000 6df0 0135 1400 1000 fe00 0400 0100 0000"
    ++ codes " 0200 0000 0001 0400 0100 0000 0800 0000 0101 0400 0100 0000 0300 0000"
    ++ codes " 0201 0300 0100 0000 0100 0000 0301 0300 0100 0000 0300 0000 0601 0300"
    ++ codes " 0100 0000 0000 0000 0a01 0300 0100 0000 0100 0000 1101 0400 0100 0000"
    ++ codes " 0800 0000 1501 0300 0100 0000 0100 0000 1601 0400 0100 0000 0300 0000"
    ++ codes " 1701 0400 0100 0000 0900 0000 1a01 0500 0100 0000 d800 0000 1b01 0500"
    ++ codes " 0100 0000 e000 0000 2401 0400 0100 0000 0000 0000 2801 0300 0100 0000"
    ++ codes " 0200 0000 2901 0300 0200 0000 0000 0100 0000 0000 cc00 0000 0100 0000"
    ++ codes " c400 0000 0100 0000")

-- the file tests/runs/damaged/mh-a-code-more-after-a-row.tif
abbrev pub mh_a_code_more_after_a_row : List ℕ
mh_a_code_more_after_a_row =
    spelled_bytes (codes "4949 2a00 1000 0000 0018 e000 66c0 06d8 1000 fe00 0400 0100 0000 0200"
    ++ codes " 0000 0001 0400 0100 0000 0800 0000 0101 0400 0100 0000 0300 0000 0201"
    ++ codes " 0300 0100 0000 0100 0000 0301 0300 0100 0000 0300 0000 0601 0300 0100"
    ++ codes " 0000 0000 0000 0a01 0300 0100 0000 0100 0000 1101 0400 0100 0000 0800"
    ++ codes " 0000 1501 0300 0100 0000 0100 0000 1601 0400 0100 0000 0300 0000 1701"
    ++ codes " 0400 0100 0000 0800 0000 1a01 0500 0100 0000 d600 0000 1b01 0500 0100"
    ++ codes " 0000 de00 0000 2401 0400 0100 0000 0000 0000 2801 0300 0100 0000 0200"
    ++ codes " 0000 2901 0300 0200 0000 0000 0100 0000 0000 cc00 0000 0100 0000 c400"
    ++ codes " 0000 0100 0000")

-- the file tests/runs/damaged/mh-fill-after-a-row.tif
abbrev pub mh_fill_after_a_row : List ℕ
mh_fill_after_a_row =
    spelled_bytes (codes "4949 2a00 1000 0000 0018 e000 0000 0db0 1000 fe00 0400 0100 0000 0200"
    ++ codes " 0000 0001 0400 0100 0000 0800 0000 0101 0400 0100 0000 0200 0000 0201"
    ++ codes " 0300 0100 0000 0100 0000 0301 0300 0100 0000 0300 0000 0601 0300 0100"
    ++ codes " 0000 0000 0000 0a01 0300 0100 0000 0100 0000 1101 0400 0100 0000 0800"
    ++ codes " 0000 1501 0300 0100 0000 0100 0000 1601 0400 0100 0000 0200 0000 1701"
    ++ codes " 0400 0100 0000 0800 0000 1a01 0500 0100 0000 d600 0000 1b01 0500 0100"
    ++ codes " 0000 de00 0000 2401 0400 0100 0000 0000 0000 2801 0300 0100 0000 0200"
    ++ codes " 0000 2901 0300 0200 0000 0000 0100 0000 0000 cc00 0000 0100 0000 c400"
    ++ codes " 0000 0100 0000")

-- the file tests/runs/damaged/mh-codes-after-the-last-row.tif
abbrev pub mh_codes_after_the_last_row : List ℕ
mh_codes_after_the_last_row =
    spelled_bytes (codes "4949 2a00 0e00 0000 0018 e000 6dd4 1000 fe00 0400 0100 0000 0200 0000"
    ++ codes " 0001 0400 0100 0000 0800 0000 0101 0400 0100 0000 0200 0000 0201 0300"
    ++ codes " 0100 0000 0100 0000 0301 0300 0100 0000 0300 0000 0601 0300 0100 0000"
    ++ codes " 0000 0000 0a01 0300 0100 0000 0100 0000 1101 0400 0100 0000 0800 0000"
    ++ codes " 1501 0300 0100 0000 0100 0000 1601 0400 0100 0000 0200 0000 1701 0400"
    ++ codes " 0100 0000 0600 0000 1a01 0500 0100 0000 d400 0000 1b01 0500 0100 0000"
    ++ codes " dc00 0000 2401 0400 0100 0000 0000 0000 2801 0300 0100 0000 0200 0000"
    ++ codes " 2901 0300 0200 0000 0000 0100 0000 0000 cc00 0000 0100 0000 c400 0000"
    ++ codes " 0100 0000")

-- the file tests/runs/damaged/mh-return-to-control-after-one-row-of-four.tif
abbrev pub mh_return_to_control_after_one_row_of_four : List ℕ
mh_return_to_control_after_one_row_of_four =
    spelled_bytes (codes "4949 2a00 1400 0000 0018 e000 4004 0040 0400 4004 1000 fe00 0400 0100"
    ++ codes " 0000 0200 0000 0001 0400 0100 0000 0800 0000 0101 0400 0100 0000 0400"
    ++ codes " 0000 0201 0300 0100 0000 0100 0000 0301 0300 0100 0000 0300 0000 0601"
    ++ codes " 0300 0100 0000 0000 0000 0a01 0300 0100 0000 0100 0000 1101 0400 0100"
    ++ codes " 0000 0800 0000 1501 0300 0100 0000 0100 0000 1601 0400 0100 0000 0400"
    ++ codes " 0000 1701 0400 0100 0000 0c00 0000 1a01 0500 0100 0000 da00 0000 1b01"
    ++ codes " 0500 0100 0000 e200 0000 2401 0400 0100 0000 0000 0000 2801 0300 0100"
    ++ codes " 0000 0200 0000 2901 0300 0200 0000 0000 0100 0000 0000 cc00 0000 0100"
    ++ codes " 0000 c400 0000 0100 0000")

-- the file tests/runs/damaged/mr-first-of-two-rows-without-eol.tif
abbrev pub mr_first_of_two_rows_without_eol : List ℕ
mr_first_of_two_rows_without_eol =
    spelled_bytes (codes "4949 2a00 0c00 0000 c700 03b6 1000 fe00 0400 0100 0000 0200 0000 0001"
    ++ codes " 0400 0100 0000 0800 0000 0101 0400 0100 0000 0200 0000 0201 0300 0100"
    ++ codes " 0000 0100 0000 0301 0300 0100 0000 0300 0000 0601 0300 0100 0000 0000"
    ++ codes " 0000 0a01 0300 0100 0000 0100 0000 1101 0400 0100 0000 0800 0000 1501"
    ++ codes " 0300 0100 0000 0100 0000 1601 0400 0100 0000 0200 0000 1701 0400 0100"
    ++ codes " 0000 0400 0000 1a01 0500 0100 0000 d200 0000 1b01 0500 0100 0000 da00"
    ++ codes " 0000 2401 0400 0100 0000 0100 0000 2801 0300 0100 0000 0200 0000 2901"
    ++ codes " 0300 0200 0000 0000 0100 0000 0000 cc00 0000 0100 0000 c400 0000 0100"
    ++ codes " 0000")

-- the file tests/runs/damaged/mr-a-row-over-a-lost-one.tif
abbrev pub mr_a_row_over_a_lost_one : List ℕ
mr_a_row_over_a_lost_one =
    spelled_bytes (codes "4949 2a00 1600 0000 001c 7000 2007 0017 001d b001 6000 1000 fe00 0400"
    ++ codes " 0100 0000 0200 0000 0001 0400 0100 0000 0800 0000 0101 0400 0100 0000"
    ++ codes " 0500 0000 0201 0300 0100 0000 0100 0000 0301 0300 0100 0000 0300 0000"
    ++ codes " 0601 0300 0100 0000 0000 0000 0a01 0300 0100 0000 0100 0000 1101 0400"
    ++ codes " 0100 0000 0800 0000 1501 0300 0100 0000 0100 0000 1601 0400 0100 0000"
    ++ codes " 0500 0000 1701 0400 0100 0000 0d00 0000 1a01 0500 0100 0000 dc00 0000"
    ++ codes " 1b01 0500 0100 0000 e400 0000 2401 0400 0100 0000 0100 0000 2801 0300"
    ++ codes " 0100 0000 0200 0000 2901 0300 0200 0000 0000 0100 0000 0000 cc00 0000"
    ++ codes " 0100 0000 c400 0000 0100 0000")

-- the file tests/runs/damaged/mmr-extension-in-the-first-of-two-strips.tif
abbrev pub mmr_extension_in_the_first_of_two_strips : List ℕ
mmr_extension_in_the_first_of_two_strips =
    spelled_bytes (codes "4949 2a00 0e00 0000 81e0 c004 0040 1000 fe00 0400 0100 0000 0200 0000"
    ++ codes " 0001 0400 0100 0000 0800 0000 0101 0400 0100 0000 0400 0000 0201 0300"
    ++ codes " 0100 0000 0100 0000 0301 0300 0100 0000 0400 0000 0601 0300 0100 0000"
    ++ codes " 0000 0000 0a01 0300 0100 0000 0100 0000 1101 0400 0200 0000 e400 0000"
    ++ codes " 1501 0300 0100 0000 0100 0000 1601 0400 0100 0000 0200 0000 1701 0400"
    ++ codes " 0200 0000 ec00 0000 1a01 0500 0100 0000 d400 0000 1b01 0500 0100 0000"
    ++ codes " dc00 0000 2501 0400 0100 0000 0000 0000 2801 0300 0100 0000 0200 0000"
    ++ codes " 2901 0300 0200 0000 0000 0100 0000 0000 cc00 0000 0100 0000 c400 0000"
    ++ codes " 0100 0000 0800 0000 0a00 0000 0200 0000 0400 0000")

-- the file tests/runs/damaged/mh-lost-around-the-border-of-two-strips.tif
abbrev pub mh_lost_around_the_border_of_two_strips : List ℕ
mh_lost_around_the_border_of_two_strips =
    spelled_bytes (codes "4949 2a00 1400 0000 0018 e000 401c 0010 0700 1b60 1000 fe00 0400 0100"
    ++ codes " 0000 0200 0000 0001 0400 0100 0000 0800 0000 0101 0400 0100 0000 0400"
    ++ codes " 0000 0201 0300 0100 0000 0100 0000 0301 0300 0100 0000 0300 0000 0601"
    ++ codes " 0300 0100 0000 0000 0000 0a01 0300 0100 0000 0100 0000 1101 0400 0200"
    ++ codes " 0000 ea00 0000 1501 0300 0100 0000 0100 0000 1601 0400 0100 0000 0200"
    ++ codes " 0000 1701 0400 0200 0000 f200 0000 1a01 0500 0100 0000 da00 0000 1b01"
    ++ codes " 0500 0100 0000 e200 0000 2401 0400 0100 0000 0000 0000 2801 0300 0100"
    ++ codes " 0000 0200 0000 2901 0300 0200 0000 0000 0100 0000 0000 cc00 0000 0100"
    ++ codes " 0000 c400 0000 0100 0000 0800 0000 0e00 0000 0600 0000 0600 0000")

-- the file tests/runs/damaged/mh-strip-cut-in-its-third-row.tif
abbrev pub mh_strip_cut_in_its_third_row : List ℕ
mh_strip_cut_in_its_third_row =
    spelled_bytes (codes "4949 2a00 1200 0000 0018 e000 6d80 09a8 a000 1000 fe00 0400 0100 0000"
    ++ codes " 0200 0000 0001 0400 0100 0000 0800 0000 0101 0400 0100 0000 0300 0000"
    ++ codes " 0201 0300 0100 0000 0100 0000 0301 0300 0100 0000 0300 0000 0601 0300"
    ++ codes " 0100 0000 0000 0000 0a01 0300 0100 0000 0100 0000 1101 0400 0100 0000"
    ++ codes " e800 0000 1501 0300 0100 0000 0100 0000 1601 0400 0100 0000 0300 0000"
    ++ codes " 1701 0400 0100 0000 0900 0000 1a01 0500 0100 0000 d800 0000 1b01 0500"
    ++ codes " 0100 0000 e000 0000 2401 0400 0100 0000 0000 0000 2801 0300 0100 0000"
    ++ codes " 0200 0000 2901 0300 0200 0000 0000 0100 0000 0000 cc00 0000 0100 0000"
    ++ codes " c400 0000 0100 0000 0018 e000 6d80 09")

-- the file tests/runs/damaged/page-of-width-0-between-two.tif
abbrev pub page_of_width_0_between_two : List ℕ
page_of_width_0_between_two =
    spelled_bytes (codes "4949 2a00 0c00 0000 0018 e000 1000 fe00 0400 0100 0000 0200 0000 0001"
    ++ codes " 0400 0100 0000 0800 0000 0101 0400 0100 0000 0100 0000 0201 0300 0100"
    ++ codes " 0000 0100 0000 0301 0300 0100 0000 0300 0000 0601 0300 0100 0000 0000"
    ++ codes " 0000 0a01 0300 0100 0000 0100 0000 1101 0400 0100 0000 0800 0000 1501"
    ++ codes " 0300 0100 0000 0100 0000 1601 0400 0100 0000 0100 0000 1701 0400 0100"
    ++ codes " 0000 0300 0000 1a01 0500 0100 0000 d200 0000 1b01 0500 0100 0000 da00"
    ++ codes " 0000 2401 0400 0100 0000 0000 0000 2801 0300 0100 0000 0200 0000 2901"
    ++ codes " 0300 0200 0000 0000 0300 e600 0000 cc00 0000 0100 0000 c400 0000 0100"
    ++ codes " 0000 0018 e000 1000 fe00 0400 0100 0000 0200 0000 0001 0400 0100 0000"
    ++ codes " 0000 0000 0101 0400 0100 0000 0100 0000 0201 0300 0100 0000 0100 0000"
    ++ codes " 0301 0300 0100 0000 0300 0000 0601 0300 0100 0000 0000 0000 0a01 0300"
    ++ codes " 0100 0000 0100 0000 1101 0400 0100 0000 e200 0000 1501 0300 0100 0000"
    ++ codes " 0100 0000 1601 0400 0100 0000 0100 0000 1701 0400 0100 0000 0300 0000"
    ++ codes " 1a01 0500 0100 0000 ac01 0000 1b01 0500 0100 0000 b401 0000 2401 0400"
    ++ codes " 0100 0000 0000 0000 2801 0300 0100 0000 0200 0000 2901 0300 0200 0000"
    ++ codes " 0100 0300 c001 0000 cc00 0000 0100 0000 c400 0000 0100 0000 001b 6000"
    ++ codes " 1000 fe00 0400 0100 0000 0200 0000 0001 0400 0100 0000 0800 0000 0101"
    ++ codes " 0400 0100 0000 0100 0000 0201 0300 0100 0000 0100 0000 0301 0300 0100"
    ++ codes " 0000 0300 0000 0601 0300 0100 0000 0000 0000 0a01 0300 0100 0000 0100"
    ++ codes " 0000 1101 0400 0100 0000 bc01 0000 1501 0300 0100 0000 0100 0000 1601"
    ++ codes " 0400 0100 0000 0100 0000 1701 0400 0100 0000 0300 0000 1a01 0500 0100"
    ++ codes " 0000 8602 0000 1b01 0500 0100 0000 8e02 0000 2401 0400 0100 0000 0000"
    ++ codes " 0000 2801 0300 0100 0000 0200 0000 2901 0300 0200 0000 0200 0300 0000"
    ++ codes " 0000 cc00 0000 0100 0000 c400 0000 0100 0000")

-- rows of eight pels of unknown number, in these bytes, are left so, and end so
pub record HasLeftUncounted (coding : Coding) (bytes : List ℕ) (rows : List SalvagedRow)
    (end : RowsEnd) : Type 0 where
  pub are : IsLeftUncounted (form coding 8 most_rows) (bits MsbFirst bytes) rows end

-- worked rows of a strip of unknown height
pub record AreUncountedLeft : Type 0 where
  pub bad_code_between_two_rows : HasLeftUncounted Mh (spelled_bytes (codes "0019 8008 0380 0c70"))
      (found (pels (codes "WWWWWWWW")) ∷ lost BadCode ∷ found (pels (codes "WWWBBWWW")) ∷ [])
      DataEnd
  pub codes_after_the_last_row : HasLeftUncounted Mh (spelled_bytes (codes "0018 e000 6dd4"))
      (found (pels (codes "WWWBBWWW")) ∷ unended (pels (codes "WWWWBBBB")) ∷ [])
      (Fault MissingEol)
  pub return_to_control_after_a_row : HasLeftUncounted Mh
      (spelled_bytes (codes "0018 e000 4004 0040 0400 4004"))
      (found (pels (codes "WWWBBWWW")) ∷ []) Marked
  pub row_over_a_lost_one : HasLeftUncounted Mr
      (spelled_bytes (codes "001c 7000 2007 0017 001d b001 60"))
      (found (pels (codes "WWWBBWWW")) ∷ lost BadCode ∷ lost BadCode
      ∷ found (pels (codes "WWWWBBBB")) ∷ found (pels (codes "WWWWBBBB")) ∷ [])
      DataEnd
  pub end_of_a_block : HasLeftUncounted Mmr (spelled_bytes (codes "8008 0080"))
      (found (pels (codes "WWWWWWWW")) ∷ []) Marked

-- what is left of each of them
pub record AreSalvagesRead : Type 0 where
  pub whole : HasLeft sample (row_left 0 0 (codes "WWWBBWWW") ∷ [])
  pub raw_pbm_by_another_name_is : HasLeft raw_pbm_by_another_name []
  pub mh_bad_code_between_two_rows_is : HasLeft mh_bad_code_between_two_rows
      (row_left 0 0 (codes "WWWWWWWW") ∷ rows_lost 0 1 1 (Strip BadCode)
      ∷ row_left 0 2 (codes "WWWBBWWW") ∷ [])
  pub mh_extension_between_two_rows_is : HasLeft mh_extension_between_two_rows
      (row_left 0 0 (codes "WWWWWWWW") ∷ rows_lost 0 1 1 (Strip Extension)
      ∷ row_left 0 2 (codes "WWWBBWWW") ∷ [])
  pub mh_run_too_long_between_two_rows_is : HasLeft mh_run_too_long_between_two_rows
      (row_left 0 0 (codes "WWWBBWWW") ∷ rows_lost 0 1 1 (Strip RunTooLong)
      ∷ row_left 0 2 (codes "WWWWBBBB") ∷ [])
  pub mh_bad_first_row_without_eol_is : HasLeft mh_bad_first_row_without_eol
      (rows_lost 0 0 1 (Strip BadCode) ∷ row_left 0 1 (codes "WWWBBWWW") ∷ [])
  pub mh_two_rows_without_the_eol_between_is : HasLeft mh_two_rows_without_the_eol_between
      (row_left 0 0 (codes "WWWBBWWW") ∷ rows_lost 0 1 1 (Strip MissingEol)
      ∷ row_left 0 2 (codes "BBBBBBBB") ∷ row_left 0 3 (codes "WWWBBWWW") ∷ [])
  pub mh_one_eol_more_than_rows_is : HasLeft mh_one_eol_more_than_rows
      (row_left 0 0 (codes "WWWBBWWW") ∷ rows_lost 0 1 1 (Strip EndMarker)
      ∷ row_left 0 2 (codes "WWWWBBBB") ∷ [])
  pub mh_ones_after_a_row_is : HasLeft mh_ones_after_a_row
      (row_left 0 0 (codes "WWWBBWWW") ∷ rows_lost 0 1 1 (Strip MissingEol)
      ∷ row_left 0 2 (codes "BBBBBBBB") ∷ [])
  pub mh_a_code_more_after_a_row_is : HasLeft mh_a_code_more_after_a_row
      (row_left 0 0 (codes "WWWBBWWW") ∷ rows_lost 0 1 1 (Strip MissingEol)
      ∷ row_left 0 2 (codes "WWWWBBBB") ∷ [])
  pub mh_fill_after_a_row_is : HasLeft mh_fill_after_a_row
      (row_left 0 0 (codes "WWWBBWWW") ∷ row_left 0 1 (codes "WWWWBBBB") ∷ [])
  pub mh_codes_after_the_last_row_is : HasLeft mh_codes_after_the_last_row
      (row_left 0 0 (codes "WWWBBWWW") ∷ row_left 0 1 (codes "WWWWBBBB") ∷ [])
  pub mh_return_to_control_after_one_row_of_four_is : HasLeft
      mh_return_to_control_after_one_row_of_four
      (row_left 0 0 (codes "WWWBBWWW") ∷ rows_lost 0 1 3 (Strip EndMarker) ∷ [])
  pub mr_first_of_two_rows_without_eol_is : HasLeft mr_first_of_two_rows_without_eol
      (rows_lost 0 0 1 (Strip MissingEol) ∷ row_left 0 1 (codes "WWWWBBBB") ∷ [])
  pub mr_a_row_over_a_lost_one_is : HasLeft mr_a_row_over_a_lost_one
      (row_left 0 0 (codes "WWWBBWWW") ∷ rows_lost 0 1 2 (Strip BadCode)
      ∷ row_left 0 3 (codes "WWWWBBBB") ∷ row_left 0 4 (codes "WWWWBBBB") ∷ [])
  pub mmr_extension_in_the_first_of_two_strips_is : HasLeft
      mmr_extension_in_the_first_of_two_strips
      (row_left 0 0 (codes "WWWWWWWW") ∷ rows_lost 0 1 1 (Strip Extension)
      ∷ row_left 0 2 (codes "WWWWWWWW") ∷ row_left 0 3 (codes "WWWWWWWW") ∷ [])
  pub mh_lost_around_the_border_of_two_strips_is : HasLeft mh_lost_around_the_border_of_two_strips
      (row_left 0 0 (codes "WWWBBWWW") ∷ rows_lost 0 1 2 (Strip BadCode)
      ∷ row_left 0 3 (codes "WWWWBBBB") ∷ [])
  pub mh_strip_cut_in_its_third_row_is : HasLeft mh_strip_cut_in_its_third_row
      (row_left 0 0 (codes "WWWBBWWW") ∷ row_left 0 1 (codes "WWWWBBBB")
      ∷ rows_lost 0 2 1 (File StripOutside) ∷ [])
  pub page_of_width_0_between_two_is : HasLeft page_of_width_0_between_two
      (row_left 0 0 (codes "WWWBBWWW") ∷ page_refused 1 (OutOfLimits 256)
      ∷ row_left 2 0 (codes "WWWWBBBB") ∷ [])
  pub uncounted : AreUncountedLeft
