-- Worked cursors and places inside a strip, and what the relations say is returned from there on.
-- The files are those of the worked files. All answers are by this project's profile.
use Rattle.std.specs.Prelude.{◌≡◌, ℕ, List, [], ◌∷◌, ◌++◌, map, codes}
use Rattle.fax_bits.specs.declared.Colour.{Colour}
use Rattle.fax_page.specs.declared.StripFault.TheVariants.{BadCode}
use Rattle.fax_files.specs.declared.FileFault.TheVariants.{ShortHeader, DirectoryLoop}
use Rattle.fax_walk.specs.declared.walk_start.WalkStart.{WalkStart}
use Rattle.fax_walk.specs.declared.walk_start.WalkStart.TheVariants.{AtCursor, AtLongCursor}
use Rattle.fax_walk.specs.declared.cursor.Cursor.{Cursor}
use Rattle.fax_walk.specs.declared.end.End.{End}
use Rattle.fax_walk.specs.declared.end.End.TheVariants.{EndOfPages, Fault, Outside}
use Rattle.fax_walk.specs.Pages.{File, FormItem, IsFormTail, Strip}
use Rattle.fax_walk.specs.Items.{IsTailFrom, RowItem}
use Rattle.fax_reads.specs.laws.FileExamples.{directory, worked_file, page_before, page_fields}
use Rattle.fax_reads.specs.laws.FileExamples.{spelled_row}
use Rattle.fax_reads.specs.laws.FileExamples.{short, row_and_place, two_strips, white_at, with}

-- two pages of one row, and a page of two rows in one strip of a byte
abbrev pub two_pages : List ℕ
two_pages = page_before 87 ++ directory page_fields 0

abbrev pub two_rows : ℕ → List ℕ
two_rows byte = worked_file (with (short 257 2) page_fields) (byte ∷ [])

-- the cursor `1:P:R`, and the place inside a strip `2:P:R:B:n,n,..`
abbrev pub cursor : ℕ → ℕ → Cursor
cursor p r = record { page = p; row = r }

abbrev pub at : ℕ → ℕ → WalkStart
at p r = AtCursor (cursor p r)

abbrev pub inside : ℕ → ℕ → ℕ → List ℕ → WalkStart
inside p r bits runs = AtLongCursor (record { at = cursor p r; bits = bits; runs = runs })

-- a walk that begins so returns these rows, and then this end
pub record HasTail (file : List ℕ) (origin : WalkStart) (rows : List (ℕ × ℕ
    × List Colour)) (end : End)
    : Type 0 where
  pub items : List RowItem
  pub are : IsTailFrom file origin items end
  pub rows_are : map row_and_place items ≡ rows

-- a reader of pages that begins at a cursor returns the forms of these pages, and then this end
pub record HasFormTail (file : List ℕ) (at : Cursor) (pages : List ℕ) (end : End) : Type 0 where
  pub forms : List FormItem
  pub are : IsFormTail file at forms end
  pub pages_are : map (λ item. item.page) forms ≡ pages

-- rows from a cursor on
pub record AreTailsOfCursors : Type 0 where
  pub first_page : HasTail two_pages (at 0 0) (white_at 0 0 ∷ white_at 1 0 ∷ []) EndOfPages
  pub after_a_page : HasTail two_pages (at 0 1) (white_at 1 0 ∷ []) EndOfPages
  pub second_page : HasTail two_pages (at 1 0) (white_at 1 0 ∷ []) EndOfPages
  pub after_the_last_row : HasTail two_pages (at 1 1) [] EndOfPages
  pub after_the_last_page : HasTail two_pages (at 2 0) [] EndOfPages
  pub row_of_no_page : HasTail two_pages (at 2 1) [] Outside
  pub page_after_that : HasTail two_pages (at 3 0) [] Outside
  pub no_such_row : HasTail two_pages (at 0 2) [] Outside
  pub within_a_strip : HasTail (two_rows 0xc0) (at 0 1) (white_at 0 1 ∷ []) EndOfPages
  pub second_strip : HasTail (two_strips 98) (at 0 1) (white_at 0 1 ∷ []) EndOfPages
  pub fault_before_the_row : HasTail (two_rows 0x01) (at 0 1) [] (Fault 0 0 (Strip BadCode))
  pub fault_of_the_chain : HasTail (page_before 8) (at 1 0) [] (Fault 1 0 (File DirectoryLoop))
  pub page_after_the_fault : HasTail (page_before 8) (at 5 7) [] (Fault 1 0 (File DirectoryLoop))
  pub fault_of_the_header : HasTail [] (at 5 7) [] (Fault 0 0 (File ShortHeader))

-- rows from a place inside a strip on, over the row that its runs make
pub record AreTailsOfPlaces : Type 0 where
  pub second_row : HasTail (two_rows 0xc0) (inside 0 1 1 (8 ∷ [])) (white_at 0 1 ∷ []) EndOfPages
  pub over_its_runs : HasTail (two_rows 0xf0) (inside 0 1 1 (3 ∷ 2 ∷ 3 ∷ []))
      (spelled_row 0 1 (codes "WWWBBWWW") ∷ []) EndOfPages
  pub after_no_bits : HasTail (two_rows 0x01) (inside 0 1 0 (8 ∷ [])) []
      (Fault 0 1 (Strip BadCode))
  pub after_all_bits : HasTail (two_rows 0xc0) (inside 0 1 9 (8 ∷ [])) [] Outside
  pub narrower : HasTail (two_rows 0xc0) (inside 0 1 1 (7 ∷ [])) [] Outside
  pub not_the_longest_runs : HasTail (two_rows 0xc0) (inside 0 1 1 (3 ∷ 0 ∷ 5 ∷ [])) [] Outside
  pub first_row_of_a_strip : HasTail (two_rows 0xc0) (inside 0 0 0 (8 ∷ [])) [] Outside
  pub after_the_last_row : HasTail (two_rows 0xc0) (inside 0 2 2 (8 ∷ [])) [] Outside

-- forms from a cursor on
pub record AreTailsOfForms : Type 0 where
  pub first_page : HasFormTail two_pages (cursor 0 0) (0 ∷ 1 ∷ []) EndOfPages
  pub row_of_a_page : HasFormTail two_pages (cursor 0 1) (1 ∷ []) EndOfPages
  pub after_the_last_row : HasFormTail two_pages (cursor 1 1) [] EndOfPages
  pub after_the_last_page : HasFormTail two_pages (cursor 2 0) [] EndOfPages
  pub no_such_row : HasFormTail two_pages (cursor 0 2) [] Outside
  pub row_of_no_page : HasFormTail two_pages (cursor 2 1) [] Outside
  pub loop : HasFormTail (page_before 8) (cursor 0 0) (0 ∷ []) (Fault 1 0 (File DirectoryLoop))

-- all of them
pub record AreTailsRead : Type 0 where
  pub cursors : AreTailsOfCursors
  pub places : AreTailsOfPlaces
  pub forms : AreTailsOfForms
