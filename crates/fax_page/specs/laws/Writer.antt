-- A writer that puts rows one after another gives the bytes of their strip.
use Rattle.std.specs.Prelude.{◌≡◌, ℕ, false, List, [], ◌∷◌, ◌++◌, length}
use Rattle.fax_bits.specs.declared.Colour.{Colour}
use Rattle.fax_page.specs.declared.StripForm.{StripForm}
use Rattle.fax_page.specs.Strip.{coded_lines, coded_strip}
use Rattle.fax_page.specs.Lines.{white_row}
use Rattle.fax_page.specs.views.Writer.{FinishesAs, PutsRow, PutsRows, WriterState}
use Rattle.fax_page.specs.views.Writer.{last_of, writer_beginning}

-- these rows were put, and no more
abbrev pub HasPut : StripForm → ℕ → List (List Colour) → WriterState → Type 0
HasPut form k rows writer =
    let white = white_row form.width in
    writer ≡ record {
      form = form;
      k = k;
      bits = coded_lines form k 0 0 white rows;
      row = length rows;
      last = last_of white rows;
      refused = false;
    }

-- a writer that put rows one after another, from its beginning on, gives the bytes of their strip
pub record WritesRowByRow : Type 0 where
  pub begins : (form : StripForm) (k : ℕ) → HasPut form k [] (writer_beginning form k)
  pub goes_on : (form : StripForm) (k : ℕ) (rows : List (List Colour)) (row : List Colour)
      (old new : WriterState)
      → HasPut form k rows old → PutsRow old row new → HasPut form k (rows ++ row ∷ []) new
  pub goes_on_by_rows : (form : StripForm) (k : ℕ) (rows more : List (List Colour))
      (old new : WriterState)
      → HasPut form k rows old → PutsRows old more new → HasPut form k (rows ++ more) new
  pub finishes : (form : StripForm) (k : ℕ) (rows : List (List Colour)) (writer : WriterState)
      (bytes : List ℕ)
      → HasPut form k rows writer → FinishesAs writer bytes → bytes ≡ coded_strip form k rows
