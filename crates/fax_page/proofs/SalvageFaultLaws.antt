-- The rows that are read before a fault are found, all but the last where an EOL is missing after
-- it.
use Rattle.fax_page.specs.code.Starts.{BeginsBelowEleven}
use Rattle.fax_page.proofs.StartLaws.{IsStart}
use Rattle.std.proofs.Common.{arith, ◌≡◌, ℕ, ◌+◌, ◌-◌, List, [], ◌∷◌, ◌++◌, map, Bool, Some, None, refl}
use Rattle.std.proofs.Common.{ap, inl, inr, replicate, suc, true, false, ◌≤◌, ◌∙◌}
use Rattle.std.proofs.lemmas.Bool.Decides.{nat_tests}
use Rattle.std.specs.Prelude.{◌≢◌, ◌<◌, Option, option_map, MatchOption}
use Rattle.fax_bits.specs.declared.Colour.{Colour}
use Rattle.fax_rows.specs.declared.RowFault.{RowFault}
use Rattle.fax_page.specs.declared.StripFault.TheVariants.{MissingEol}
use Rattle.fax_page.specs.Lines.{Coding, Dimension, IsCause, IsLine}
use Rattle.fax_bits.specs.Reading.{failed}
use Rattle.fax_page.specs.Lines.{Mh, Mmr, Mr}
use Rattle.fax_page.specs.Lines.{StripFault, StripForm, strip_fault, white_row}
use Rattle.fax_page.specs.Salvage.{AreSalvaged, ResumesAfter, NeedsEol, IsReadFrom, SalvagedRow, after_eol, found}
use Rattle.fax_page.specs.Salvage.{lost, resync_point, unended}
use Rattle.fax_page.specs.Strip.{eol_bits}
use Rattle.fax_page.specs.laws.Lines.{AreLines}
use Rattle.fax_page.specs.laws.Salvage.{FindsRowsBeforeFaults, LostBitsDoNotMatter, SalvagesStripsOneWay}
use Rattle.fax_page.specs.Lines.{read_start}
use Rattle.fax_page.specs.Salvage.{resync_from}
use Rattle.fax_page.proofs.StartedLemmas.{one_start}
use Rattle.fax_page.proofs.LineParts.{CauseParts, IsStopInCodes, cause_parts}
use Rattle.fax_page.proofs.SalvageLaws.{begins_with_eol, eol_is_missing, none_begins}
use Rattle.fax_page.proofs.SalvageLemmas.{at_one}

-- another fault than a missing EOL, where an EOL is expected, is none of bits below eleven zeros
none_missing : (form : StripForm) (i : ℕ) (row : List Colour) (rest : List Bool) (fault : StripFault)
    → fault ≢ MissingEol → IsCause form (i + 1) row rest fault → NeedsEol form i → BeginsBelowEleven rest → ⊥
none_missing form i row rest fault other cause upcoming below = by (cause_parts form (i + 1) row rest fault cause)
  where
    by : CauseParts form (i + 1) row rest fault → ⊥
    by (inl stop) =
        let same = one_start form.coding (i + 1) rest _ _ stop (eol_is_missing form.coding i rest upcoming.0 below) in
        other (cc (same))
    by (inr (dimension, codes, origin, stop)) = begins_with_eol form.coding i rest codes dimension upcoming.0 origin
        below

-- an EOL is missing where one is expected
eol_missing : (coding : Coding) (i : ℕ) (rest : List Bool) → IsStart coding i rest (failed MissingEol)
    → (coding ≢ Mmr) × BeginsBelowEleven rest
eol_missing coding i rest stop = grind arith

no_fault_of_codes : (cause : RowFault) → MissingEol ≡ strip_fault cause → ⊥
no_fault_of_codes cause is = grind arith

-- codes never stop with it
none_in_codes : (dimension : Dimension) (width : ℕ) (reference : List Colour) (codes : List Bool)
    → IsStopInCodes dimension width reference codes MissingEol → ⊥
none_in_codes dimension width reference codes (inl (inl (after, is, marker))) = cc
none_in_codes dimension width reference codes (inl (inr (n, few, is, ends))) = cc
none_in_codes dimension width reference codes (inr (below, cause, in_codes, is)) = no_fault_of_codes cause is

is_unterminated : (form : StripForm) (i : ℕ) (row : List Colour) (rest : List Bool) → IsCause form i row rest MissingEol
    → (form.coding ≢ Mmr) × BeginsBelowEleven rest
is_unterminated form i row rest cause = by (cause_parts form i row rest MissingEol cause)
  where
    by : CauseParts form i row rest MissingEol → (form.coding ≢ Mmr) × BeginsBelowEleven rest
    by (inl stop) = eol_missing form.coding i rest stop
    by (inr (dimension, codes, origin, stop)) = absurd (none_in_codes dimension form.width row codes stop)

-- a row over the one before it, which is found
over : (form : StripForm) (i : ℕ) (reference : List Colour) (b : List Bool) (row : List Colour) (rest : List Bool)
    → IsLine form i reference b row rest → IsReadFrom form i None reference b row rest
over form i reference b row rest line = record { line = line; alone = λ lost_before. absurd (lost_before refl) }

module _ (salvages : SalvagesStripsOneWay) where
  ended : (form : StripForm) (i : ℕ) (row : List Colour) (rest : List Bool) (rows : List (List Colour))
      (fault : StripFault) (remaining : List Bool) → fault ≢ MissingEol
      → AreLines form (i + 1) row rest rows (Some fault) remaining → NeedsEol form i → BeginsBelowEleven rest → ⊥
  ended form i row rest [] fault remaining other (same, low, cause) upcoming below =
      none_missing form i row rest fault other cause upcoming below
  ended form i row rest (next ∷ rows) fault remaining other (after, low, line, lines) upcoming below =
      none_begins form i row rest next after line upcoming.0 below

  all : (form : StripForm) (i : ℕ) (reference : List Colour) (b : List Bool) (rows : List (List Colour))
      (fault : StripFault) (remaining : List Bool) → fault ≢ MissingEol
      → AreLines form i reference b rows (Some fault) remaining
      → (others : List SalvagedRow) × AreSalvaged form i None reference b (map (λ row. found row) rows ++ others)
  all form i reference b [] fault remaining other (same, low, cause) =
      let remaining = salvages form i None reference b (omega (arith, low)) in (remaining.rows, remaining.are)
  all form i reference b (row ∷ rows) fault remaining other (rest, low, line, lines) =
      let later = all form (i + 1) row rest rows fault remaining other lines in (
        later.0,
        (
          rest,
          low,
          over form i reference b row rest line,
          ended form i row rest rows fault remaining other lines,
          later.1,
        ),
      )

  ended_before_last : (form : StripForm) (i : ℕ) (row : List Colour) (rest : List Bool) (rows : List (List Colour))
      (last : List Colour) (remaining : List Bool)
      → AreLines form (i + 1) row rest (rows ++ last ∷ []) (Some MissingEol) remaining → NeedsEol form i
      → BeginsBelowEleven rest → ⊥
  ended_before_last form i row rest [] last remaining (after, low, line, lines) upcoming below =
      none_begins form i row rest last after line upcoming.0 below
  ended_before_last form i row rest (next ∷ rows) last remaining (after, low, line, lines) upcoming below =
      none_begins form i row rest next after line upcoming.0 below

  -- what is left after a lost row
  goes_on : (form : StripForm) (i : ℕ) (b : List Bool) (fault : StripFault) → i + 1 < form.rows
      → (rows : List SalvagedRow) × ResumesAfter form i b fault
      (λ upcoming. AreSalvaged form (i + 1) (Some fault) (white_row form.width) upcoming rows) rows
  goes_on form i b fault low =
      let from = resync_from b (read_start form.coding i b) in
      let rows = at_upcoming (resync_point form.coding from) in
      (rows.0, (from, refl, rows.1))
    where
      at_upcoming : (o : Option (List Bool)) → (rows : List SalvagedRow) × MatchOption o
          (rows ≡ replicate (form.rows - (i + 1)) (lost fault))
          (λ upcoming. AreSalvaged form (i + 1) (Some fault) (white_row form.width) upcoming rows)
      at_upcoming None = (replicate (form.rows - (i + 1)) (lost fault), refl)
      at_upcoming (Some upcoming) =
          let remaining = salvages form (i + 1) (Some fault) (white_row form.width) upcoming (omega (arith, low)) in
          (remaining.rows, remaining.are)

  all_but_last : (form : StripForm) (i : ℕ) (reference : List Colour) (b : List Bool) (rows : List (List Colour))
      (last : List Colour) (remaining : List Bool)
      → AreLines form i reference b (rows ++ last ∷ []) (Some MissingEol) remaining
      → (others : List SalvagedRow)
      × AreSalvaged form i None reference b (map (λ row. found row) rows ++ unended last ∷ others)
  all_but_last form i reference b [] last remaining (rest, low, line, (same, low_after, cause)) =
      let lacks = is_unterminated form (i + 1) last rest cause in
      let later = goes_on form i b MissingEol low_after in (
        later.0,
        (rest, over form i reference b last rest line, (lacks.0, low_after), lacks.1, later.1),
      )
  all_but_last form i reference b (row ∷ rows) last remaining (rest, low, line, lines) =
      let later = all_but_last form (i + 1) row rest rows last remaining lines in (
        later.0,
        (
          rest,
          low,
          over form i reference b row rest line,
          ended_before_last form i row rest rows last remaining lines,
          later.1,
        ),
      )

  pub rows_before_faults : FindsRowsBeforeFaults
  rows_before_faults = record { all = all; all_but_last = all_but_last }

-- ---- the next EOL

-- an EOL is found after zeros that stand before it
at_eol : (zeros n : ℕ) (rest : List Bool) → 11 ≤ zeros + n
    → after_eol zeros (replicate n false ++ true ∷ rest) ≡ Some rest
at_eol zeros n rest enough = at_one zeros n rest ∙ (grind (arith, nat_tests))

-- the bits before it hold none
past_lost : (n : ℕ) (gone rest : List Bool) → after_eol n gone ≡ None
    → after_eol n (gone ++ eol_bits ++ rest) ≡ Some rest
past_lost n [] rest none = at_eol n 11 rest (omega arith)
past_lost n (false ∷ gone) rest none = past_lost (suc n) gone rest none
past_lost n (true ∷ gone) rest none = grind (arith, past_lost 0 gone rest)

pub lost_bits_do_not_matter : LostBitsDoNotMatter
lost_bits_do_not_matter Mh gone rest other none =
    ap (option_map (λ (c : List Bool). eol_bits ++ c)) (past_lost 0 gone rest none)
lost_bits_do_not_matter Mr gone rest other none =
    ap (option_map (λ (c : List Bool). eol_bits ++ c)) (past_lost 0 gone rest none)
lost_bits_do_not_matter Mmr gone rest other none = absurd (other refl)
