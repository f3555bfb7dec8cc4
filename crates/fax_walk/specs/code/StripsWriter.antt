-- The strips of a page that is being written.
use Rattle.std.specs.Prelude.{◌≡◌, ℕ, ◌+◌, ◌*◌, ◌<◌, ◌≤◌, min, List, [], ◌∷◌, ◌++◌, length, drop}
use Rattle.std.specs.Prelude.{Option, Some, None, map, take, replicate, Vec}
use Rattle.std.specs.List.{range_with_len}
use Rattle.std.specs.declared.alloc.Global.{Global}
use Rattle.fax_bits.specs.declared.Colour.{Colour}
use Rattle.fax_page.specs.Lines.{white_row}
use Rattle.fax_page.specs.Strip.{coded_strip}
use Rattle.fax_page.specs.declared.StripForm.{StripForm}
use Rattle.fax_page.specs.views.Writer.{FinishesAs, WriterState, writer_beginning}
use Rattle.fax_page.specs.laws.Writer.{HasPut}
use Rattle.fax_files.specs.declared.PageForm.{PageForm}
use Rattle.fax_files.specs.views.Page.{IsPageForm}
use Rattle.fax_files.specs.Page.{strip_form}
use Rattle.fax_files.specs.views.Writing.{contents}
use Rattle.fax_walk.specs.declared.open_strips.StripsWriter.{StripsWriter}

-- the rows of strip s of a page, and the strip as it is written
abbrev pub rows_of_strip : PageForm → List (List Colour) → ℕ → List (List Colour)
rows_of_strip form rows s = take form.rows_per_strip (drop (s * form.rows_per_strip) rows)

abbrev pub coded_of : PageForm → ℕ → List (List Colour) → ℕ → List ℕ
coded_of form k rows s = coded_strip (strip_form form s) k (rows_of_strip form rows s)

-- a strip is open, and these rows of it were put, but not all
pub record IsOpenStrip (form : PageForm) (k n : ℕ) (rows : List (List Colour))
    (writer : WriterState) : Type 0 where
  pub has_put : HasPut (strip_form form n) k rows writer
  pub some : 0 < length rows
  pub fewer : length rows < form.rows_per_strip

-- after n whole strips, of so many rows in all, there are these rows: none, or those of the strip
-- that is open
abbrev pub AreInStrip : PageForm → ℕ → ℕ → List (List Colour) → Option WriterState → Type 0
AreInStrip form k n rows None = min (n * form.rows_per_strip) form.rows ≡ length rows
AreInStrip form k n rows (Some writer) =
    (n * form.rows_per_strip < length rows) × (length rows < form.rows)
    × IsOpenStrip form k n (drop (n * form.rows_per_strip) rows) writer

-- these rows of a page were put, and no more
pub record HasPutRows (form : PageForm) (k : ℕ) (rows : List (List Colour))
    (page : StripsWriter) : Type 0 where
  pub form_is : page.form ≡ form
  pub k_is : page.k ≡ k
  pub limits : IsPageForm form
  pub some_k : 0 < k
  pub count : page.rows ≡ length rows
  pub within : length rows ≤ form.rows
  pub strips : length page.done.items ≤ form.strips
  pub done : contents page.done.items
      ≡ map (coded_of form k rows) (range_with_len 0 (length page.done.items))
  pub in_strip : AreInStrip form k (length page.done.items) rows page.writer

-- a page with so many rows and this writer of a strip
abbrev pub with_writer : StripsWriter → ℕ → Option WriterState → StripsWriter
with_writer page rows writer = record page { rows = rows; writer = writer }

-- a strip of this form is started, and nothing else is changed
abbrev pub BeginsStrip : StripForm → StripsWriter → StripsWriter → Type 0
BeginsStrip form old new = new ≡ with_writer old old.rows (Some (writer_beginning form old.k))

-- the next row of a page can be put to the strip that is open, and nothing but its writer is
-- changed
abbrev pub OpensStrip : StripsWriter → StripsWriter → Type 0
OpensStrip old new =
    (form : PageForm) (k : ℕ) (rows : List (List Colour)) → HasPutRows form k rows old
    → length rows < form.rows
    → (writer : WriterState) × (new ≡ with_writer old old.rows (Some writer))
    × HasPut (strip_form form (length old.done.items)) k
    (drop (length old.done.items * form.rows_per_strip) rows) writer

-- a strip is open, and all its rows were put
pub record HasWholeStrip (page : StripsWriter) : Type 0 where
  pub writer : WriterState
  pub is_open : page.writer ≡ Some writer
  pub all : writer.row ≡ writer.form.rows

-- the open strip is ended, and its bytes are those of the last whole one
pub record EndsStrip (old new : StripsWriter) : Type 0 where
  pub bytes : Vec ℕ Global
  pub done : new.done.items ≡ old.done.items ++ bytes ∷ []
  pub same : new ≡ record old { done = new.done; writer = None }
  pub finishes : (writer : WriterState) → old.writer ≡ Some writer → FinishesAs writer bytes.items

-- a row can be put on a page: it is expected, and it has the page's width
pub record TakesRow (page : StripsWriter) (row : List Colour) : Type 0 where
  pub form : PageForm
  pub k : ℕ
  pub rows : List (List Colour)
  pub put : HasPutRows form k rows page
  pub upcoming : length rows < form.rows
  pub width : length row ≡ form.width

-- the row was put after those that were
abbrev pub PutsRow : StripsWriter → List Colour → StripsWriter → Type 0
PutsRow old row new =
    (form : PageForm) (k : ℕ) (rows : List (List Colour)) → HasPutRows form k rows old
    → length rows < form.rows
    → HasPutRows form k (rows ++ row ∷ []) new

-- so many white rows can be put on a page
pub record TakesWhiteRows (page : StripsWriter) (count : ℕ) : Type 0 where
  pub form : PageForm
  pub k : ℕ
  pub rows : List (List Colour)
  pub put : HasPutRows form k rows page
  pub upcoming : length rows + count ≤ form.rows

-- so many white rows were put after those that were
abbrev pub PutsWhiteRows : StripsWriter → ℕ → StripsWriter → Type 0
PutsWhiteRows old count new =
    (form : PageForm) (k : ℕ) (rows : List (List Colour)) → HasPutRows form k rows old
    → length rows + count ≤ form.rows
    → HasPutRows form k (rows ++ replicate count (white_row form.width)) new
