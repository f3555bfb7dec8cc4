-- The worked cursors and places, computed.
use Rattle.std.proofs.Common.{◌≡◌, ℕ, List, map, refl}
use Rattle.fax_bits.specs.Reading.{steps}
use Rattle.fax_bits.specs.declared.Colour.{Colour}
use Rattle.fax_bits.specs.Bits.{bits, byte_bits, code_bits}
use Rattle.fax_bits.specs.Tables.{modes}
use Rattle.fax_rows.specs.Rows.{first_index, next_change, b1, runs_after}
use Rattle.fax_files.specs.Directory.{entries_at, has_integers, header, number_at, read_chain, read_chain_from, scalar}
use Rattle.fax_files.specs.Directory.{value_at, values_offset}
use Rattle.fax_walk.specs.Pages.{read_page}
use Rattle.fax_files.specs.Page.{rational_of, form_in, page, strip_bytes}
use Rattle.fax_files.specs.Layout.{field_bytes}
use Rattle.fax_walk.specs.declared.walk_start.WalkStart.{WalkStart}
use Rattle.fax_walk.specs.declared.cursor.Cursor.{Cursor}
use Rattle.fax_walk.specs.declared.end.End.{End}
use Rattle.fax_reads.specs.TailReading.{read_tail, read_form_tail}
use Rattle.fax_reads.specs.laws.Files.{TailsAreReadByFunctions}
use Rattle.fax_reads.specs.laws.FileExamples.{row_and_place}
use Rattle.fax_reads.specs.laws.TailExamples.{AreTailsOfCursors, AreTailsOfPlaces, AreTailsOfForms, AreTailsRead}
use Rattle.fax_reads.specs.laws.TailExamples.{HasFormTail, HasTail}

module _ (read : TailsAreReadByFunctions) where
  has : (file : List ℕ) (origin : WalkStart) (rows : List (ℕ × ℕ × List Colour)) (end : End)
      → map row_and_place (read_tail file origin).items ≡ rows → (read_tail file origin).end ≡ end
      → HasTail file origin rows end
  has file origin rows end rows_are end_is =
      let tail = read_tail file origin in
      record {
        items = tail.items;
        are = rw (← end_is) ((read.rows file origin tail.items tail.end).1 refl);
        rows_are = rows_are;
      }

  has_forms : (file : List ℕ) (at : Cursor) (pages : List ℕ) (end : End)
      → map (λ item. item.page) (read_form_tail file at).items ≡ pages → (read_form_tail file at).end ≡ end
      → HasFormTail file at pages end
  has_forms file at pages end pages_are end_is =
      let tail = read_form_tail file at in
      record {
        forms = tail.items;
        are = rw (← end_is) ((read.forms file at tail.items tail.end).1 refl);
        pages_are = pages_are;
      }

  cursors : AreTailsOfCursors
  unfolding steps bits byte_bits code_bits modes first_index next_change b1 number_at header read_chain_from read_chain
      read_page entries_at values_offset value_at has_integers scalar rational_of form_in page strip_bytes field_bytes
      runs_after
  cursors = record {
    first_page = has _ _ _ _ refl refl;
    after_a_page = has _ _ _ _ refl refl;
    second_page = has _ _ _ _ refl refl;
    after_the_last_row = has _ _ _ _ refl refl;
    after_the_last_page = has _ _ _ _ refl refl;
    row_of_no_page = has _ _ _ _ refl refl;
    page_after_that = has _ _ _ _ refl refl;
    no_such_row = has _ _ _ _ refl refl;
    within_a_strip = has _ _ _ _ refl refl;
    second_strip = has _ _ _ _ refl refl;
    fault_before_the_row = has _ _ _ _ refl refl;
    fault_of_the_chain = has _ _ _ _ refl refl;
    page_after_the_fault = has _ _ _ _ refl refl;
    fault_of_the_header = has _ _ _ _ refl refl;
  }

  places : AreTailsOfPlaces
  unfolding steps bits byte_bits code_bits modes first_index next_change b1 number_at header read_chain_from read_chain
      read_page entries_at values_offset value_at has_integers scalar rational_of form_in page strip_bytes field_bytes
      runs_after
  places = record {
    second_row = has _ _ _ _ refl refl;
    over_its_runs = has _ _ _ _ refl refl;
    after_no_bits = has _ _ _ _ refl refl;
    after_all_bits = has _ _ _ _ refl refl;
    narrower = has _ _ _ _ refl refl;
    not_the_longest_runs = has _ _ _ _ refl refl;
    first_row_of_a_strip = has _ _ _ _ refl refl;
    after_the_last_row = has _ _ _ _ refl refl;
  }

  forms : AreTailsOfForms
  unfolding steps bits byte_bits code_bits modes first_index next_change b1 number_at header read_chain_from read_chain
      read_page entries_at values_offset value_at has_integers scalar rational_of form_in page strip_bytes field_bytes
      runs_after
  forms = record {
    first_page = has_forms _ _ _ _ refl refl;
    row_of_a_page = has_forms _ _ _ _ refl refl;
    after_the_last_row = has_forms _ _ _ _ refl refl;
    after_the_last_page = has_forms _ _ _ _ refl refl;
    no_such_row = has_forms _ _ _ _ refl refl;
    row_of_no_page = has_forms _ _ _ _ refl refl;
    loop = has_forms _ _ _ _ refl refl;
  }

  pub tails_read : AreTailsRead
  tails_read = record { cursors = cursors; places = places; forms = forms }
