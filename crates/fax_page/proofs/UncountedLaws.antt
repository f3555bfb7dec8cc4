-- Rows of a strip of unknown height.
use Rattle.fax_page.specs.Lines.{start_by}
use Rattle.fax_page.proofs.StartLaws.{at_zeros}
use Rattle.std.proofs.Common.{ap}
use Rattle.std.proofs.Common.{◌≡◌, ℕ, ◌+◌, ◌<◌, ◌≤◌, List, [], ◌∷◌, ◌++◌, length, replicate, Bool, true}
use Rattle.std.proofs.Common.{false, refl, sym, ◌∙◌}
use Rattle.std.proofs.Common.{subst, arith, inl, inr, Option, Some, None}
use Rattle.std.proofs.lemmas.Bool.{cases_lt}
use Rattle.fax_bits.specs.declared.Colour.{Colour}
use Rattle.fax_bits.specs.Bits.{IsAllZeros}
use Rattle.fax_bits.specs.views.Source.{HasLeadingZeros}
use Rattle.fax_page.specs.declared.Dimension.TheVariants.{TwoDimensional}
use Rattle.fax_page.specs.declared.StripFault.TheVariants.{DataEnds, EndMarker}
use Rattle.fax_page.specs.Lines.{Coding, Mh, Mr, Mmr, StripFault, StripForm, IsCause, IsLine, white_row}
use Rattle.fax_page.specs.Strip.{StripRead, end_bits, eol_bits, most_rows, read_strip}
use Rattle.fax_page.specs.Uncounted.{rows_end, uncounted}
use Rattle.fax_page.specs.laws.Uncounted.{IsUncounted}
use Rattle.fax_page.specs.code.Ends.{RowsEndAs}
use Rattle.fax_page.specs.laws.Lines.{AreLines}
use Rattle.fax_page.specs.laws.Uncounted.{UncountedRowsAreAStrip, written_end}
use Rattle.fax_page.proofs.EndGraph.{end_of}
use Rattle.fax_page.proofs.LineParts.{cause_of}
use Rattle.fax_page.proofs.StartLaws.{no_one}
use Rattle.fax_page.proofs.StripGraph.{is_strip, lines_in, strip_of}

-- a 1 is not in zeros
pub one_is_not_zeros : (b : List Bool) (zeros : ℕ) → HasLeadingZeros b zeros → IsAllZeros b → ⊥
one_is_not_zeros b zeros ahead all = no_one zeros all.0 ahead.0 (sym ahead.1 ∙ all.1)

-- a row is the same in a strip of other rows
abbrev pub of_rows : StripForm → ℕ → StripForm
of_rows form rows = record form { rows = rows }

module _ (form : StripForm) (from to : ℕ) where
  -- (how many rows there are says nothing of one of them)
  abbrev pub line_of : (i : ℕ) (reference : List Colour) (b : List Bool) (row : List Colour) (rest : List Bool)
      → IsLine (of_rows form from) i reference b row rest → IsLine (of_rows form to) i reference b row rest
  line_of i reference b row rest line = line

  -- rows are all rows of a strip of as many, whatever stops them
  pub all_lines : (i : ℕ) (reference : List Colour) (b : List Bool) (rows : List (List Colour))
      (stop : Option StripFault) (remaining : List Bool)
      → i + length rows ≡ to → AreLines (of_rows form from) i reference b rows stop remaining
      → AreLines (of_rows form to) i reference b rows None remaining
  all_lines i reference b [] None remaining count lines = (lines.0, omega (arith, count))
  all_lines i reference b [] (Some fault) remaining count lines = (lines.0, omega (arith, count))
  all_lines i reference b (row ∷ rows) stop remaining count lines = (
    lines.0,
    omega (arith, count),
    line_of i reference b row lines.0 lines.2,
    all_lines (i + 1) row lines.0 rows stop remaining (omega (arith, count)) lines.3,
  )

pub uncounted_rows_are_a_strip : UncountedRowsAreAStrip
uncounted_rows_are_a_strip form b rows end is =
    let strip = read_strip (uncounted form) b in
    let lines = lines_in (uncounted form) b rows strip.end (is.0, refl) in
    is_strip (of_rows form (length rows)) b rows None strip.remaining
    (all_lines form most_rows (length rows) 0 (white_row form.width) b rows strip.end strip.remaining (omega arith)
    lines)

-- after a written strip and fill no row more is read
written_cause : (form : StripForm) (i : ℕ) (reference : List Colour) (coding : Coding) (zeros : ℕ)
    → form.coding ≡ coding
    → (fault : StripFault) × IsCause form i reference (end_bits coding ++ replicate zeros false) fault
written_cause form i reference Mh zeros is = (
  DataEnds,
  cause_of form i reference _ DataEnds (inl (rw is (ap (start_by Mh i (replicate zeros false)) (at_zeros 0
      zeros)))),
)
written_cause form i reference Mr zeros is = (
  DataEnds,
  cause_of form i reference _ DataEnds (inl (rw is (ap (start_by Mr i (replicate zeros false)) (at_zeros 0
      zeros)))),
)
written_cause form i reference Mmr zeros is = (
  EndMarker,
  cause_of form i reference (end_bits Mmr ++ replicate zeros false) EndMarker (inr (
    TwoDimensional,
    end_bits Mmr ++ replicate zeros false,
    rw is refl,
    inl (inl (true ∷ eol_bits ++ replicate zeros false, refl, refl)),
  )),
)

pub written_ends_so : (coding : Coding) (row zeros : ℕ) (stop : Option StripFault) → 0 < row
    → RowsEndAs coding row (end_bits coding ++ replicate zeros false) stop (written_end coding)
written_ends_so Mh row zeros stop some = (some, (zeros, refl))
written_ends_so Mr row zeros stop some = (some, (zeros, refl))
written_ends_so Mmr row zeros stop some = (replicate zeros false, refl)

-- the rows of a strip, where a strip may have more: what stops them
pub record HasStop (form : StripForm) (to i : ℕ) (reference : List Colour) (b : List Bool) (rows : List (List Colour))
    (remaining : List Bool)
    : Type 0 where
  pub stop : Option StripFault
  pub lines : AreLines (of_rows form to) i reference b rows stop remaining

module _ (form : StripForm) (to zeros : ℕ) (few : form.rows ≤ to) where
  abbrev after : List Bool
  after = end_bits form.coding ++ replicate zeros false

  stop_after : (i : ℕ) (reference : List Colour) → i ≡ form.rows → HasStop form to i reference after [] after
  stop_after i reference all =
      elim (cases_lt i to) [
        | inl upcoming ↦
            let cause = written_cause (of_rows form to) i reference form.coding zeros refl in
            record { stop = Some cause.0; lines = (refl, upcoming, cause.1) }
        | inr many ↦ record { stop = None; lines = (refl, omega (arith, many, all, few)) }
      ]

  pub written_stop : (i : ℕ) (reference : List Colour) (b : List Bool) (rows : List (List Colour))
      → AreLines form i reference b rows None after → HasStop form to i reference b rows after
  written_stop i reference b [] lines =
      subst (λ c. HasStop form to i reference c [] after) (sym lines.0) (stop_after i reference lines.1)
  written_stop i reference b (row ∷ rows) lines =
      let more = written_stop (i + 1) row lines.0 rows lines.3 in
      record {
        stop = more.stop;
        lines = (
          lines.0,
          omega (arith, lines.1, few),
          line_of form form.rows to i reference b row lines.0 lines.2,
          more.lines,
        );
      }

-- a written strip is read as its rows, though their number is unknown
pub written_is_uncounted : (form : StripForm) (b : List Bool) (rows : List (List Colour)) (zeros : ℕ)
    → form.rows ≤ most_rows
    → 0 < length rows
    → AreLines form 0 (white_row form.width) b rows None (end_bits form.coding ++ replicate zeros false)
    → IsUncounted form b rows (written_end form.coding)
written_is_uncounted form b rows zeros few some lines =
    let after = end_bits form.coding ++ replicate zeros false in
    let found = written_stop form most_rows zeros few 0 (white_row form.width) b rows lines in
    let read = strip_of (uncounted form) b rows found.stop after found.lines in
    let ends = end_of form.coding (length rows) after found.stop (written_end form.coding)
    (written_ends_so form.coding (length rows) zeros found.stop some) in (
      ap (λ (strip : StripRead). strip.rows) read,
      ap (λ (strip : StripRead). rows_end form.coding (length rows) strip.remaining strip.end) read ∙ ends,
    )
