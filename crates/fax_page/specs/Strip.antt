-- The rows of a strip, how a strip is written, and what is worth a note in one that has all its
-- rows. A definition without a citation is this project's profile.
use Rattle.std.specs.Prelude.{ℕ, zero, suc, ◌+◌, ◌-◌, ◌%◌, nat_eq, Bool, true, false, not, ◌&&◌}
use Rattle.std.specs.Prelude.{if◌then◌else◌, List, [], ◌∷◌, ◌++◌, length, replicate}
use Rattle.std.specs.Prelude.{Option, Some, None, is_some, unwrap_or, Result, Ok, Err}
use Rattle.std.specs.List.{list_any}
use Rattle.fax_bits.specs.Bits.{packed}
use Rattle.fax_bits.specs.Codes.{after_front}
use Rattle.fax_bits.specs.Reading.{read, failed}
use Rattle.fax_rows.specs.Rows.{Colour}
use Rattle.fax_rows.specs.Coded.{one_dimensional_bits, two_dimensional_bits}
use Rattle.fax_page.specs.Lines.{Coding, Mh, Mr, Mmr, Dimension, OneDimensional, TwoDimensional}
use Rattle.fax_page.specs.Lines.{StripForm, StripFault, tag_bit, NextOne, ends_line, next_one}
use Rattle.fax_page.specs.Lines.{read_line, read_start, white_row}
use Rattle.fax_page.specs.declared.notes.StripNotes.{StripNotes}

-- the most rows that a strip has
abbrev pub most_rows : ℕ
most_rows = 1000000

-- n rows from row i on, each over the row before it: those that are there, the fault in the way of
-- the next, and the remaining bits
pub record StripRead : Type 0 where
  pub rows : List (List Colour)
  pub end : Option StripFault
  pub remaining : List Bool

abbrev pub read_lines : ℕ → StripForm → ℕ → List Colour → List Bool → StripRead
read_lines zero form i reference b = record { rows = []; end = None; remaining = b }
read_lines (suc n) form i reference b =
    elim (read_line form i reference b) [
      | failed fault ↦ record { rows = []; end = Some fault; remaining = b }
      | read row rest ↦ let more = read_lines n form (i + 1) row rest in
          record { rows = row ∷ more.rows; end = more.end; remaining = more.remaining }
    ]

-- the rows of a strip
abbrev pub read_strip : StripForm → List Bool → StripRead
read_strip form b = read_lines form.rows form 0 (white_row form.width) b

-- EOL: eleven zeros and a 1 (T.4, section 4.1.2)
abbrev pub eol_bits : List Bool
eol_bits = replicate 11 false ++ true ∷ []

-- how row i of a strip is written: in MR one-dimensional exactly where i is a multiple of k
-- (T.4, section 4.2.1.1; T.6, section 2.2.1)
abbrev pub written_dimension : Coding → ℕ → ℕ → Dimension
written_dimension Mh k i = OneDimensional
written_dimension Mr k i = if nat_eq (i % k) 0 then OneDimensional else TwoDimensional
written_dimension Mmr k i = TwoDimensional

-- how many zeros of fill are written before an EOL, which has twelve bits, after so many bits of
-- the strip: where EOLs are aligned the fewest that make it end on a byte boundary, and else none
-- (T.4, sections 4.1.3 and 4.2.3; TIFF 6.0, T4Options)
unfoldable pub fill_zeros : Bool → ℕ → ℕ
fill_zeros true before = (12 - before % 8) % 8
fill_zeros false before = 0

-- what is written before a row's codes, after so many bits of the strip
-- (T.4, sections 4.1.2, 4.1.3, 4.2.2 and 4.2.3; T.6, section 2.2.1)
abbrev pub start_bits : Coding → Bool → ℕ → Dimension → List Bool
start_bits Mh aligned before dimension = replicate (fill_zeros aligned before) false ++ eol_bits
start_bits Mr aligned before dimension =
    replicate (fill_zeros aligned before) false ++ (eol_bits ++ tag_bit dimension ∷ [])
start_bits Mmr aligned before dimension = []

-- a row's codes as they are written (T.4, sections 4.1.1 and 4.2.1.3.3)
abbrev pub row_bits : Dimension → List Colour → List Colour → List Bool
row_bits OneDimensional reference row = one_dimensional_bits row
row_bits TwoDimensional reference row = two_dimensional_bits reference row

-- row i of a strip as it is written after so many bits of it, over the row before it
-- (T.4, sections 4.1.2, 4.1.3, 4.2.2 and 4.2.3)
unfoldable pub coded_line : StripForm → ℕ → ℕ → ℕ → List Colour → List Colour → List Bool
coded_line form k before i reference row =
    let dimension = written_dimension form.coding k i in
    start_bits form.coding form.aligned before dimension ++ row_bits dimension reference row

-- the rows from row i on as they are written after so many bits of the strip, each over the row
-- before it (T.4, section 4.2.1.1)
unfoldable pub coded_lines : StripForm → ℕ → ℕ → ℕ → List Colour → List (List Colour) → List Bool
coded_lines form k before i reference [] = []
coded_lines form k before i reference (row ∷ rows) =
    let line = coded_line form k before i reference row in
    line ++ coded_lines form k (before + length line) (i + 1) row rows

-- what is written after the last row: two EOLs in MMR (T.6, End-of-facsimile block), else nothing
abbrev pub end_bits : Coding → List Bool
end_bits Mmr = eol_bits ++ eol_bits
end_bits _ = []

-- the bits of a strip as it is written (T.4, section 4.2.1.1; T.6, section 2.2.1)
unfoldable pub coded_bits : StripForm → ℕ → List (List Colour) → List Bool
coded_bits form k rows = coded_lines form k 0 0 (white_row form.width) rows ++ end_bits form.coding

-- a strip as it is written (TIFF 6.0, FillOrder)
unfoldable pub coded_strip : StripForm → ℕ → List (List Colour) → List ℕ
coded_strip form k rows = packed form.order (coded_bits form k rows)

-- the bits after an EOL of a return to control, by the next 1: in MR a tag bit of 1 follows it
-- (T.4, sections 4.1.4 and 4.2.4; that any fill may stand before it is the note's own rule)
abbrev pub after_return : Coding → NextOne → Option (List Bool)
after_return Mh (ends_line rest) = Some rest
after_return Mr (ends_line (true ∷ rest)) = Some rest
after_return _ _ = None

-- the bits after so many of them (T.4, sections 4.1.4 and 4.2.4)
abbrev pub after_returns : Coding → ℕ → List Bool → Option (List Bool)
after_returns coding zero b = Some b
after_returns coding (suc n) b =
    elim (after_return coding (next_one 0 b)) [
      | None ↦ None
      | Some rest ↦ after_returns coding n rest
    ]

-- the bits after an end mark: in MH and MR a return to control, six EOLs (T.4, sections 4.1.4 and
-- 4.2.4), in MMR the end of a facsimile block (T.6, End-of-facsimile block)
abbrev pub after_mark : Coding → List Bool → Option (List Bool)
after_mark Mmr b = after_front (end_bits Mmr) b
after_mark coding b = after_returns coding 6 b

-- from row i on, over this reference, the codes of some of these rows are others than those that
-- T.4 chooses (T.4, sections 4.1.1 and 4.2.1.3.3)
abbrev pub has_other_choice : Coding → ℕ → List Colour → List Bool → List (List Colour) → Bool
has_other_choice coding i reference b [] = false
has_other_choice coding i reference b (row ∷ rows) =
    elim (read_start coding i b) [
      | failed fault ↦ false
      | read dimension codes ↦ elim (after_front (row_bits dimension reference row) codes) [
        | None ↦ true
        | Some rest ↦ has_other_choice coding (i + 1) row rest rows
      ]
    ]

abbrev pub is_mmr : Coding → Bool
is_mmr Mmr = true
is_mmr _ = false

-- the notes on a strip of these bits, by its rows and by what is left after them
abbrev pub notes_after : StripForm → List Bool → List (List Colour) → List Bool → StripNotes
notes_after form b rows remaining =
    let after = after_mark form.coding remaining in
    record {
      no_end_of_block = is_mmr form.coding && not (is_some after);
      return_to_control = not (is_mmr form.coding) && is_some after;
      data_after_end = list_any (λ bit. bit) (unwrap_or after remaining);
      not_t4_choice = has_other_choice form.coding 0 (white_row form.width) b rows;
    }

-- the notes on a strip that has all its rows; or how many it has, and the fault in the way of the
-- next
abbrev pub noted : StripForm → List Bool → Result StripNotes (ℕ × StripFault)
noted form b =
    let strip = read_strip form b in
    elim strip.end [
      | None ↦ Ok (notes_after form b strip.rows strip.remaining)
      | Some fault ↦ Err (length strip.rows, fault)
    ]
