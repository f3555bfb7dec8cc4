-- What is left of a strip is found and lost in one way, and a strip that is read wholly loses
-- nothing.
use Rattle.fax_page.specs.code.Starts.{BeginsBelowEleven}
use Rattle.fax_page.proofs.StripGraph.{is_strip}
use Rattle.fax_page.proofs.StartLaws.{IsStart}
use Rattle.std.proofs.Common.{◌≡◌, ℕ, ◌+◌, ◌-◌, ◌<◌, List, [], ◌∷◌, length, map, replicate, Bool, suc}
use Rattle.std.proofs.Common.{Option, Some, None, refl, ap, sym, ◌∙◌, arith}
use Rattle.std.specs.Prelude.{◌≢◌, MatchOption}
use Rattle.std.proofs.lemmas.List.{length-replicate}
use Rattle.fax_bits.specs.declared.Colour.{Colour}
use Rattle.fax_page.specs.declared.StripFault.TheVariants.{MissingEol}
use Rattle.fax_page.specs.Lines.{Coding, Dimension, Mh, Mmr, Mr, start_by}
use Rattle.fax_page.specs.Lines.{IsLine, StripFault, StripForm, white_row}
use Rattle.fax_page.specs.Salvage.{AreSalvaged, ResumesAfter, NeedsEol}
use Rattle.fax_page.specs.Salvage.{SalvagedRow, found, lost, resync_point, unended}
use Rattle.fax_page.specs.laws.Lines.{AreLines}
use Rattle.fax_page.specs.laws.Salvage.{FindsWholeStrips, SalvagesStripsOneWay}
use Rattle.fax_bits.specs.Reading.{read, failed}
use Rattle.fax_page.proofs.LineParts.{parts}
use Rattle.fax_page.specs.reads.Salvage.{salvage_rows}
use Rattle.fax_page.proofs.StartedLemmas.{one_start}
use Rattle.fax_page.proofs.SalvageGraph.{rows_are, rows_of}

-- ---- as many rows as the strip has

mutual_count : (form : StripForm) (i : ℕ) (b : List Bool) (fault : StripFault) (rows : List SalvagedRow) → i < form.rows
    → ((upcoming : List Bool) → AreSalvaged form (i + 1) (Some fault) (white_row form.width) upcoming rows
    → i + 1 + length rows ≡ form.rows)
    → ResumesAfter form i b fault (λ upcoming. AreSalvaged form (i + 1) (Some fault) (white_row form.width) upcoming
    rows) rows
    → i + 1 + length rows ≡ form.rows
mutual_count form i b fault rows low later (from, sought, after) = at_upcoming (resync_point form.coding from) after
  where
    at_upcoming : (o : Option (List Bool)) → MatchOption o (rows ≡ replicate (form.rows - (i + 1)) (lost fault))
        (λ upcoming. AreSalvaged form (i + 1) (Some fault) (white_row form.width) upcoming rows)
        → i + 1 + length rows ≡ form.rows
    at_upcoming None all =
        let count : length rows ≡ form.rows - (i + 1) =
        ap (λ (l : List SalvagedRow). length l) all ∙ length-replicate (form.rows - (i + 1)) (lost fault) in
        omega (arith, count, low)
    at_upcoming (Some upcoming) are = later upcoming are

counted : (form : StripForm) (i : ℕ) (before : Option StripFault) (reference : List Colour) (b : List Bool)
    (rows : List SalvagedRow) → AreSalvaged form i before reference b rows → i + length rows ≡ form.rows
counted form i before reference b [] are = omega (arith, are)
counted form i before reference b (found row ∷ rows) (rest, low, over, ended, are) =
    omega (arith, counted form (i + 1) None row rest rows are)
counted form i before reference b (lost fault ∷ rows) (low, is, after) =
    omega (
      arith,
      mutual_count form i b fault rows low (λ upcoming. counted form (i + 1) (Some fault) (white_row form.width)
          upcoming rows) after,
    )
counted form i before reference b (unended row ∷ rows) (rest, over, upcoming, below, after) =
    omega (
      arith,
      mutual_count form i b MissingEol rows (omega (arith, upcoming.1)) (λ upcoming. counted form (i + 1)
          (Some MissingEol) (white_row form.width) upcoming rows) after,
    )

pub strips_are_salvaged : SalvagesStripsOneWay
strips_are_salvaged form i before reference b within =
    let upcoming : i + (form.rows - i) ≡ form.rows = omega (arith, within) in
    let rows = salvage_rows (form.rows - i) form i before reference b in
    let are = rows_are (form.rows - i) form i before reference b upcoming in
    record {
      rows = rows;
      are = are;
      count = counted form i before reference b rows are;
      one = λ others other. sym (rows_of (form.rows - i) form i before reference b others upcoming other);
    }

-- ---- strips that are read wholly

all_found_are_lines : (form : StripForm) (i : ℕ) (reference : List Colour) (b : List Bool) (rows : List (List Colour))
    → AreSalvaged form i None reference b (map (λ row. found row) rows)
    → (remaining : List Bool) × AreLines form i reference b rows None remaining
all_found_are_lines form i reference b [] are = (b, (refl, are))
all_found_are_lines form i reference b (row ∷ rows) (rest, low, over, ended, are) =
    let more = all_found_are_lines form (i + 1) row rest rows are in (more.0, (rest, low, over.line, more.1))

-- a code where an EOL is expected
pub eol_is_missing : (coding : Coding) (i : ℕ) (b : List Bool) → coding ≢ Mmr → BeginsBelowEleven b
    → IsStart coding (i + 1) b (failed MissingEol)
eol_is_missing Mh i b other below =
    let next : i + 1 ≡ suc i = omega arith in rw next (ap (start_by Mh (suc i) b) below)
eol_is_missing Mr i b other below = ap (start_by Mr (i + 1) b) below
eol_is_missing Mmr i b other below = absurd (other refl)

-- stands before no row that is read
pub begins_with_eol : (coding : Coding) (i : ℕ) (b codes : List Bool) (dimension : Dimension) → coding ≢ Mmr
    → IsStart coding (i + 1) b (read dimension codes) → BeginsBelowEleven b → ⊥
begins_with_eol coding i b codes dimension other origin below =
    let same = one_start coding (i + 1) b _ _ origin (eol_is_missing coding i b other below) in cc

pub none_begins : (form : StripForm) (i : ℕ) (reference : List Colour) (b : List Bool) (row : List Colour)
    (rest : List Bool) → IsLine form (i + 1) reference b row rest → form.coding ≢ Mmr → BeginsBelowEleven b → ⊥
none_begins form i reference b row rest line other below =
    let line = parts form (i + 1) reference b row rest line in
    begins_with_eol form.coding i b line.codes line.dimension other line.start below

no_eol_lacks : (form : StripForm) (i : ℕ) (row : List Colour) (rest : List Bool) (rows : List (List Colour))
    (remaining : List Bool) → AreLines form (i + 1) row rest rows None remaining → NeedsEol form i
    → BeginsBelowEleven rest → ⊥
no_eol_lacks form i row rest [] remaining lines upcoming below = omega (arith, lines.1, upcoming.1)
no_eol_lacks form i row rest (other ∷ rows) remaining (after, low, line, lines) upcoming below =
    none_begins form i row rest other after line upcoming.0 below

lines_are_all_found : (form : StripForm) (i : ℕ) (reference : List Colour) (b : List Bool) (rows : List (List Colour))
    (remaining : List Bool) → AreLines form i reference b rows None remaining
    → AreSalvaged form i None reference b (map (λ row. found row) rows)
lines_are_all_found form i reference b [] remaining lines = lines.1
lines_are_all_found form i reference b (row ∷ rows) remaining (rest, low, line, lines) = (
  rest,
  low,
  record { line = line; alone = λ lost_before. absurd (lost_before refl) },
  no_eol_lacks form i row rest rows remaining lines,
  lines_are_all_found form (i + 1) row rest rows remaining lines,
)

pub whole_strips_are_found : FindsWholeStrips
whole_strips_are_found = record {
  strip = λ form b rows is.
      let lines = all_found_are_lines form 0 (white_row form.width) b rows is in
      is_strip form b rows None lines.0 lines.1;
  whole = all_found_are_lines;
  all_found = lines_are_all_found;
}
