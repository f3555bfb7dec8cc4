-- White rows of a strip that are put over a white row.
use Rattle.std.proofs.Common.{◌≡◌, ℕ, zero, suc, ◌+◌, ◌-◌, ◌<◌, ◌≤◌, ◌^◌, List, [], ◌∷◌, ◌++◌, length, replicate, Bool}
use Rattle.std.proofs.Common.{true, false, nat_eq, refl, sym, ap, ◌∙◌, subst, arith, append-nil, length-append}
use Rattle.std.proofs.lemmas.List.{replicate-append-replicate, length-replicate}
use Rattle.std.proofs.lemmas.Nat.Bits.{bit_at_ones}
use Rattle.fax_bits.specs.declared.Colour.{Colour}
use Rattle.fax_bits.specs.Bits.{code_bits}
use Rattle.fax_bits.specs.views.Sink.{Sink, Appends}
use Rattle.fax_rows.specs.laws.Rows.{WhiteRowsAreWritten}
use Rattle.fax_page.specs.declared.Coding.TheVariants.{Mmr}
use Rattle.fax_page.specs.declared.Dimension.{Dimension}
use Rattle.fax_page.specs.declared.StripForm.{StripForm}
use Rattle.fax_page.specs.Lines.{white_row}
use Rattle.fax_page.specs.Strip.{coded_line, coded_lines, start_bits, row_bits, written_dimension}
use Rattle.fax_page.specs.code.Writer.{with_rows}
use Rattle.fax_page.specs.views.Writer.{WriterState, PutsRows, last_of}
use Rattle.fax_page.proofs.WriterLemmas.{appended, lines_more}

-- the lowest bits of a number that has ones alone
lowest_ones : (n len : ℕ) → n ≤ len → code_bits n (2 ^ len - 1) ≡ replicate n true
unfolding code_bits
lowest_ones zero len within = refl
lowest_ones (suc n) len within =
    ap (λ bit. nat_eq bit 1 ∷ code_bits n (2 ^ len - 1)) (bit_at_ones len n (omega arith))
    ∙ ap (λ more. true ∷ more) (lowest_ones n len (omega arith))

pub ones_bits : (len : ℕ) → code_bits len (2 ^ len - 1) ≡ replicate len true
ones_bits len = lowest_ones len len (omega arith)

-- ones that are put after ones
pub ones_more : (first old new : Sink) (n len m : ℕ) → Appends first (replicate n true) old
    → Appends old (code_bits len (2 ^ len - 1)) new → n + len ≡ m → Appends first (replicate m true) new
ones_more first old new n len m before put sum =
    let all : replicate n true ++ code_bits len (2 ^ len - 1) ≡ replicate m true =
    ap (λ (b : List Bool). replicate n true ++ b) (ones_bits len) ∙ replicate-append-replicate n len true
    ∙ ap (λ i. replicate i true) sum in
    subst (λ b. Appends first b new) all
    (appended first old new (replicate n true) (code_bits len (2 ^ len - 1)) before put)

module _ (form : StripForm) (k : ℕ) where
  abbrev pub white : List Colour
  white = white_row form.width

  pub last_white : (n : ℕ) → last_of white (replicate n white) ≡ white
  last_white zero = refl
  last_white (suc n) = last_white n

  -- one more white row
  white_more : (before i n : ℕ)
      → coded_lines form k before i white (replicate (n + 1) white)
      ≡ coded_lines form k before i white (replicate n white)
      ++ coded_line form k (before + length (coded_lines form k before i white (replicate n white))) (i + n) white white
  unfolding coded_lines
  white_more before i n =
      sym (ap (coded_lines form k before i white) (replicate-append-replicate n 1 white))
      ∙ grind (arith, lines_more, length-replicate, last_white, append-nil)

  -- a row that is put as it is coded
  line_appended : (i : ℕ) (reference row : List Colour) (dimension : Dimension) (old new : Sink)
      → dimension ≡ written_dimension form.coding k i
      → Appends old (start_bits form.coding form.aligned (length old.bits) dimension
      ++ row_bits dimension reference row) new
      → Appends old (coded_line form k (length old.bits) i reference row) new
  unfolding coded_line
  line_appended i reference row dimension old new written put = grind arith

  pub no_lines : (before i : ℕ) (reference : List Colour) (sink : Sink)
      → Appends sink (coded_lines form k before i reference []) sink
  unfolding coded_lines
  no_lines before i reference sink = grind (arith, append-nil)

  -- one more white row that is put
  pub line_more : (i n : ℕ) (dimension : Dimension) (first old new : Sink)
      → Appends first (coded_lines form k (length first.bits) i white (replicate n white)) old
      → dimension ≡ written_dimension form.coding k (i + n)
      → Appends old (start_bits form.coding form.aligned (length old.bits) dimension
      ++ row_bits dimension white white) new
      → Appends first (coded_lines form k (length first.bits) i white (replicate (n + 1) white)) new
  line_more i n dimension first old new before written put =
      let lines = coded_lines form k (length first.bits) i white (replicate n white) in
      let place : length old.bits ≡ length first.bits + length lines =
      ap (λ (s : Sink). length s.bits) before ∙ length-append first.bits lines in
      let line = coded_line form k (length first.bits + length lines) (i + n) white white in
      let next : Appends old line new =
      subst (λ m. Appends old (coded_line form k m (i + n) white white) new) place
      (line_appended (i + n) white white dimension old new written put) in
      subst (λ b. Appends first b new) (sym (white_more (length first.bits) i n))
      (appended first old new lines line before next)

  -- a white row that is put over any row, and others over it
  pub after_first : (i count : ℕ) (last : List Colour) (dimension : Dimension) (old middle new : Sink)
      → 0 < count
      → dimension ≡ written_dimension form.coding k i
      → Appends old (start_bits form.coding form.aligned (length old.bits) dimension
      ++ row_bits dimension last white) middle
      → Appends middle (coded_lines form k (length middle.bits) (i + 1) white (replicate (count - 1) white)) new
      → Appends old (coded_lines form k (length old.bits) i last (replicate count white)) new
  unfolding coded_lines
  after_first i zero last dimension old middle new some written put others = absurd (omega arith)
  after_first i (suc n) last dimension old middle new some written put others =
      let line = coded_line form k (length old.bits) i last white in
      let first : Appends old line middle = line_appended i last white dimension old middle written put in
      let place : length middle.bits ≡ length old.bits + length line =
      ap (λ (s : Sink). length s.bits) first ∙ length-append old.bits line in
      let more : Appends middle (coded_lines form k (length old.bits + length line) (i + 1) white (replicate n white))
      new =
      let less : suc n - 1 ≡ n = omega arith in
      subst (λ m. Appends middle (coded_lines form k m (i + 1) white (replicate n white)) new) place
      (subst (λ m. Appends middle (coded_lines form k (length middle.bits) (i + 1) white (replicate m white)) new) less
      others) in
      appended old middle new line _ first more

  -- in MMR each is a 1
  pub white_ones : WhiteRowsAreWritten → 0 < form.width → form.coding ≡ Mmr → (before i n : ℕ)
      → coded_lines form k before i white (replicate n white) ≡ replicate n true
  unfolding coded_lines coded_line
  white_ones written some mmr before i zero = refl
  white_ones written some mmr before i (suc n) =
      rw (mmr, written.two_dimensional form.width some)
      (ap (λ more. true ∷ more) (white_ones written some mmr (before + 1) (i + 1) n))

-- no rows that are put
pub puts_none : (old : WriterState) → old.refused ≡ false → PutsRows old [] old
unfolding coded_lines
puts_none old not_refused = record { not_refused = not_refused; put = grind (arith, append-nil) }

-- white rows whose codes were put, and which are counted then
pub puts_white : (old coded new : WriterState) (count : ℕ) → old.refused ≡ false → 0 < count
    → coded ≡ with_rows old (replicate count (white_row old.form.width))
    → new ≡ record coded { row = coded.row + count; last = white_row old.form.width }
    → PutsRows old (replicate count (white_row old.form.width)) new
puts_white old coded new zero not_refused some coded_is new_is = absurd (omega arith)
puts_white old coded new (suc n) not_refused some coded_is new_is =
    let white = white_row old.form.width in
    let last = last_white old.form old.k n in
    let count : length (replicate (suc n) white) ≡ suc n = length-replicate (suc n) white in
    record { not_refused = not_refused; put = grind arith }
