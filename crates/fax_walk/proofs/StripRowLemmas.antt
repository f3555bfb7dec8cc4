-- The rows of a strip are rows that a walk returns, one after another.
use Rattle.std.proofs.lemmas.Grind.{common_steps}
use Rattle.std.proofs.Common.{◌≡◌, ℕ, zero, suc, ◌+◌, ◌*◌, ◌<◌, Bool, List, [], ◌∷◌, map, length, drop}
use Rattle.std.proofs.Common.{Option, Some, None}
use Rattle.std.proofs.Common.{refl, ap, arith}
use Rattle.std.proofs.lemmas.Bool.{cases_lt}
use Rattle.std.proofs.lemmas.Bool.Decides.{nat_tests}
use Rattle.std.proofs.lemmas.List.{length-map}
use Rattle.fax_bits.specs.declared.Colour.{Colour}
use Rattle.fax_bits.specs.Bits.{bits}
use Rattle.fax_bits.specs.laws.Codes.{AreBitsByIndex}
use Rattle.fax_page.specs.declared.StripForm.{StripForm}
use Rattle.fax_page.specs.declared.StripFault.{StripFault}
use Rattle.fax_bits.specs.Reading.{Read}
use Rattle.fax_bits.specs.Reading as bits_read
use Rattle.fax_page.specs.Lines.{IsCause, IsLine, read_line}
use Rattle.fax_page.specs.Strip.{StripRead, read_lines}
use Rattle.fax_page.specs.laws.Lines.{IsStrip}
use Rattle.fax_files.specs.declared.Cause.TheVariants.{Strip}
use Rattle.fax_files.specs.declared.PageForm.{PageForm}
use Rattle.fax_files.specs.declared.Endian.{Endian}
use Rattle.fax_files.specs.Page.{strip_form, strip_bytes}
use Rattle.fax_files.specs.laws.TiffFiles.{shown, IsWholeForm}
use Rattle.fax_walk.specs.declared.end.End.TheVariants.{Fault}
use Rattle.fax_walk.specs.laws.InOrder.{LeadTo}
use Rattle.fax_walk.specs.Pages.{NextItem, goes_on, ends_as}
use Rattle.fax_walk.specs.Items.{RowItem, StripPosition, RowPosition, first_at, exchanged, before, IsInStrip, IsRow}
use Rattle.fax_walk.specs.Items.{place_after}
use Rattle.fax_walk.specs.code.Opening.{IsPageOf}
use Rattle.fax_walk.specs.code.RowPlaces.{first_on, place_on, strip_at}
use Rattle.fax_walk.specs.laws.WrittenFiles.{WalkedRow, walked, numbered}
use Rattle.fax_walk.proofs.RowLawLemmas.{LinesAreRead, exchanged_twice}
use Rattle.fax_walk.proofs.OpenPageLemmas.{at_first, at_end, upcoming_at, numbers}
use Rattle.fax_walk.proofs.StripPlaceLemmas.{in_strip, shown_row, with_line}

-- these rows of page p are read from a place on, the first of them with this number, and what they
-- lead to is so
pub record AreRead (file : List ℕ) (p : ℕ) (at : RowPosition) (r : ℕ) (rows : List (List Colour))
    (reached : RowPosition → Type 0) : Type 0 where
  pub items : List RowItem
  pub rows_are : map walked items ≡ numbered p r rows
  pub to : RowPosition
  pub lead : LeadTo (IsRow file) at items to
  pub there : reached to

numbered_length : (p r : ℕ) (rows : List (List Colour)) → length (numbered p r rows) ≡ length rows
numbered_length p r [] = refl
numbered_length p r (row ∷ rows) = omega (arith, numbered_length p (r + 1) rows)

pub walked_length : (file : List ℕ) (p : ℕ) (at : RowPosition) (r : ℕ) (rows : List (List Colour))
    (reached : RowPosition → Type 0)
    (read : AreRead file p at r rows reached) → length read.items ≡ length rows
walked_length file p at r rows reached read = grind (arith, length-map, numbered_length)

-- no rows are read
pub none_read : (file : List ℕ) (p : ℕ) (form : PageForm) (at : RowPosition) (r : ℕ) (reached : RowPosition → Type 0)
    → reached at
    → AreRead file p at r (shown form []) reached
none_read file p form at r reached here = grind arith

module _ (by_place : AreBitsByIndex) (lines_read : LinesAreRead) (file : List ℕ) (endian : Endian) (q : ℕ)
    (form : PageForm) (p : ℕ)
    (page : IsPageOf file p (record { endian = endian; offset = q; form = form }))
    (whole : IsWholeForm form) where
  abbrev n : ℕ
  n = form.rows_per_strip

  abbrev place_at : ℕ → Option StripPosition → RowPosition
  place_at r inner = record { page = p; row = r; inner = inner }

  -- what is at a place, by what the file has of its strip
  pub row_at : (r : ℕ) (inner : Option StripPosition) (found : Option (List ℕ)) (answer : NextItem RowItem RowPosition)
      → strip_bytes endian file q (strip_at form r) ≡ found → IsInStrip form (place_at r inner) found answer
      → IsRow file (place_at r inner) answer
  row_at r inner found answer e is = rw (page r, e) is

  -- the rows of a strip lead to the next one, or to the row that is not there
  abbrev pub Reaches : Option StripFault → ℕ → RowPosition → Type 0
  Reaches None r to = to ≡ first_on form p r
  Reaches (Some fault) r to = IsRow file to (ends_as (Fault p r (Strip fault)))

  module _ (s : ℕ) (below : s * n < form.rows) (bytes : List ℕ) (bytes_are : strip_bytes endian file q s ≡ Some bytes)
    where
      abbrev strip : StripForm
      strip = strip_form form s

      abbrev all : List Bool
      all = bits form.order bytes

      -- before the strip's first row
      abbrev first : StripPosition
      first = before form.width None

      -- after the strip's last row
      after_strip : (inner : StripPosition) (r : ℕ) → r ≡ s * n + strip.rows → place_on form p r inner
          ≡ first_on form p r
      after_strip inner r r_is = grind (arith, common_steps, cases_lt, nat_tests, in_strip, at_first, at_end)

      -- n rows from row i of the strip on
      abbrev AreFromRow : StripPosition → ℕ → StripRead → Type 0
      AreFromRow inner r own =
          AreRead file p (place_on form p r inner) r (shown form own.rows) (Reaches own.end (r + length own.rows))

      fault_there : (inner : StripPosition) (r i : ℕ) (fault : StripFault) → r ≡ s * n + i → i < strip.rows
          → (i ≡ 0 → inner ≡ first) → IsCause strip i inner.reference (drop inner.bits all) fault
          → AreFromRow inner r (record { rows = []; end = Some fault; remaining = drop inner.bits all })
      fault_there inner r i fault r_is upcoming begins cause =
          let number = numbers form p s i r inner r_is upcoming in
          let at = upcoming_at form p s i r inner r_is upcoming begins in
          let none : r + 0 ≡ r = omega arith in
          none_read file p form _ r (Reaches (Some fault) (r + 0))
          (rw (none, at.1) (row_at r at.0 (Some bytes) (ends_as (Fault p r (Strip fault))) (rw number.0 bytes_are)
          (fault, rw (number.1, at.2) cause, refl)))

      row_there : (inner : StripPosition) (r i : ℕ) (row : List Colour) (rest : List Bool) (more : StripRead)
          → r ≡ s * n + i → i < strip.rows → (i ≡ 0 → inner ≡ first)
          → IsLine strip i inner.reference (drop inner.bits all) row rest
          → ((after : StripPosition) → after.reference ≡ row → drop after.bits all ≡ rest
          → AreFromRow after (r + 1) more)
          → AreFromRow inner r (record { rows = row ∷ more.rows; end = more.end; remaining = more.remaining })
      row_there inner r i row rest more r_is upcoming begins line onward =
          let number = numbers form p s i r inner r_is upcoming in
          let at = upcoming_at form p s i r inner r_is upcoming begins in
          let from = (lines_read strip i inner.reference).rest all inner.bits row rest line in
          let item : RowItem = record { page = p; form = form; row = r; pels = exchanged form row; bits = from.0 } in
          let twice = exchanged_twice form row in
          let step =
          row_at r at.0 (Some bytes) (goes_on item (place_after item)) (rw number.0 bytes_are) (
            refl,
            refl,
            omega (arith, from.1, by_place.count form.order bytes),
            rw
                (number.0, number.1, at.2, from.2, twice) line,
            refl,
            refl,
          ) in
          let later = onward (record { bits = from.0; reference = exchanged form item.pels }) twice from.2 in
          let count : r + length (row ∷ more.rows) ≡ r + 1 + length more.rows = omega arith in
          rw (at.1, shown_row form row more.rows, count) (record {
            items = item ∷ later.items;
            rows_are = ap (λ (l : List WalkedRow). walked item ∷ l) later.rows_are;
            to = later.to;
            lead = (place_after item, step, later.lead);
            there = later.there;
          })

      lines_from : (k : ℕ) (inner : StripPosition) (r i : ℕ) → r ≡ s * n + i → i + k ≡ strip.rows
          → (i ≡ 0 → inner ≡ first)
          → AreFromRow inner r (read_lines k strip i inner.reference (drop inner.bits all))
      lines_from zero inner r i r_is count begins = grind (arith, none_read, after_strip)
      lines_from (suc k) inner r i r_is count begins =
          by (λ row rest after reference own. rw (← reference, ← own)
          (lines_from k after (r + 1) (i + 1) (omega (arith, r_is)) (omega (arith, count))
          (λ none. absurd (omega (arith, none)))))
          (read_line strip i inner.reference (drop inner.bits all)) refl
        where
          by : ((row : List Colour) (rest : List Bool) (after : StripPosition) → after.reference ≡ row
              → drop after.bits all ≡ rest → AreFromRow after (r + 1) (read_lines k strip (i + 1) row rest))
              → (one : Read (List Colour) StripFault) → read_line strip i inner.reference (drop inner.bits all) ≡ one
              → AreFromRow inner r (with_line k strip i (drop inner.bits all) one)
          by onward (bits_read.failed fault) cause =
              fault_there inner r i fault r_is (omega (arith, count)) begins cause
          by onward (bits_read.read row rest) line =
              row_there inner r i row rest (read_lines k strip (i + 1) row rest) r_is (omega (arith, count)) begins line
              (onward row rest)

      -- all rows of the strip
      pub strip_rows : (rows : List (List Colour)) (stop : Option StripFault) → IsStrip strip all rows stop
          → AreRead file p (first_at p (s * n)) (s * n) (shown form rows) (Reaches stop (s * n + length rows))
      strip_rows rows stop is =
          let number = in_strip n s 0 (s * n) whole.some_in_strip (omega arith) in
          rw (← is.0, ← is.1) (rw (at_first form p (s * n) first below number.1) at
          (lines_from strip.rows first (s * n) 0 (omega arith) (omega arith) (λ none. refl)))
