-- A row of a strip that is put, and a strip that is finished.
use Rattle.std.proofs.Common.{◌≡◌, ℕ, suc, ◌+◌, ◌<◌, List, [], ◌∷◌, ◌++◌, length, Bool, refl, arith}
use Rattle.std.proofs.Common.{append_assoc, append-nil, length-append}
use Rattle.std.specs.Prelude.{All}
use Rattle.fax_bits.specs.declared.Colour.{Colour}
use Rattle.fax_bits.specs.declared.FillOrder.{FillOrder}
use Rattle.fax_bits.specs.Bits.{bits, packed}
use Rattle.fax_bits.specs.laws.Codes.{PacksOneWay}
use Rattle.fax_bits.specs.views.Sink.{Sink, Appends, IsPadded}
use Rattle.fax_page.specs.declared.Dimension.{Dimension}
use Rattle.fax_page.specs.declared.StripForm.{StripForm}
use Rattle.fax_page.specs.Strip.{written_dimension, start_bits, row_bits, coded_line, coded_lines, coded_bits}
use Rattle.fax_page.specs.Strip.{coded_strip}
use Rattle.fax_page.specs.views.Writer.{WriterState, writer_beginning, PutsRow, PutsRows, FinishesAs, last_of}
use Rattle.fax_page.specs.laws.Writer.{HasPut}

-- bits after bits
pub appended : (old middle new : Sink) (first second : List Bool) → Appends old first middle → Appends middle second new
    → Appends old (first ++ second) new
appended old middle new first second put more = grind (arith, append_assoc)

-- a row that is put as it is written at its place in a strip
pub line_put : (form : StripForm) (k before i : ℕ) (reference row : List Colour) (dimension : Dimension)
    (old new : Sink)
    → dimension ≡ written_dimension form.coding k i
    → Appends old (start_bits form.coding form.aligned before dimension ++ row_bits dimension reference row) new
    → new.bits ≡ old.bits ++ coded_line form k before i reference row
unfolding coded_line
line_put form k before i reference row dimension old new written put = grind arith

-- a strip that is finished: what stands after its last row, and zeros
pub finished : (order : FillOrder) (start middle padded : Sink) (end : List Bool) (bytes : List ℕ) → PacksOneWay
    → start.order ≡ order
    → Appends start end middle → IsPadded middle padded → All (λ byte. byte < 256) bytes
    → bits padded.order bytes ≡ padded.bits
    → bytes ≡ packed order (start.bits ++ end)
finished order start middle padded end bytes packs same_order put pad fit holds = grind arith

-- rows after rows
pub lines_more : (form : StripForm) (k before i : ℕ) (reference : List Colour) (rows more : List (List Colour))
    → coded_lines form k before i reference (rows ++ more)
    ≡ coded_lines form k before i reference rows
    ++ coded_lines form k (before + length (coded_lines form k before i reference rows)) (i + length rows)
    (last_of reference rows) more
unfolding coded_lines
lines_more form k before i reference [] more = grind arith
lines_more form k before i reference (first ∷ rows) more =
    let line = coded_line form k before i reference first in
    let others = coded_lines form k (before + length line) (i + 1) first rows in
    let last = last_of first rows in
    let there : i + 1 + length rows ≡ i + suc (length rows) = omega arith in
    let place : before + length line + length others ≡ before + length (line ++ others) =
    omega (arith, length-append line others) in
    rw (
      lines_more form k (before + length line) (i + 1) first rows more,
      place,
      there,
      append_assoc line others
          (coded_lines form k (before + length (line ++ others)) (i + suc (length rows)) last more),
    ) refl

last_of_more : (reference : List Colour) (rows more : List (List Colour))
    → last_of reference (rows ++ more) ≡ last_of (last_of reference rows) more
last_of_more reference [] more = refl
last_of_more reference (first ∷ rows) more = last_of_more first rows more

-- a writer before its first row
pub begins_so : (form : StripForm) (k : ℕ) → HasPut form k [] (writer_beginning form k)
unfolding coded_lines
begins_so form k = refl

-- a writer that put more rows
pub rows_added : (form : StripForm) (k : ℕ) (rows more : List (List Colour)) (old new : WriterState)
    → HasPut form k rows old → PutsRows old more new → HasPut form k (rows ++ more) new
rows_added form k rows more old new is puts = grind (arith, lines_more, length-append, last_of_more)

-- one row
pub one_row : (old : WriterState) (row : List Colour) (new : WriterState) → PutsRow old row new
    → PutsRows old (row ∷ []) new
unfolding coded_lines
one_row old row new puts = record { not_refused = puts.not_refused; put = grind (arith, append-nil, puts.put) }

-- a writer that put one more row
pub row_added : (form : StripForm) (k : ℕ) (rows : List (List Colour)) (row : List Colour) (old new : WriterState)
    → HasPut form k rows old → PutsRow old row new → HasPut form k (rows ++ row ∷ []) new
row_added form k rows row old new is puts =
    rows_added form k rows (row ∷ []) old new is (one_row old row new puts)

-- a writer that is finished
pub finishes_so : (form : StripForm) (k : ℕ) (rows : List (List Colour)) (writer : WriterState) (bytes : List ℕ)
    → HasPut form k rows writer → FinishesAs writer bytes → bytes ≡ coded_strip form k rows
unfolding coded_strip coded_bits
finishes_so form k rows writer bytes is ends = grind arith
