-- Rows of a strip of unknown height, and that are read to a good end, are all found.
use Rattle.fax_page.specs.code.Starts.{BeginsBelowEleven}
use Rattle.std.proofs.Common.{ap}
use Rattle.std.proofs.Common.{◌≡◌, ℕ, ◌+◌, List, [], ◌∷◌, ◌++◌, length, map, Bool, true, refl, sym}
use Rattle.std.proofs.Common.{subst, arith, inl, inr, Option, Some, None}
use Rattle.std.specs.Prelude.{◌⊎◌}
use Rattle.fax_bits.specs.declared.Colour.{Colour}
use Rattle.fax_page.specs.declared.StripFault.TheVariants.{DataEnds, EndMarker}
use Rattle.fax_page.specs.Lines.{Coding, IsCause, Mh, Mmr, Mr, StripFault, next_one}
use Rattle.fax_page.specs.Lines.{StripForm, white_row}
use Rattle.fax_page.specs.Strip.{eol_bits, read_strip}
use Rattle.fax_page.specs.Uncounted.{DataEnd, Marked, RowsEnd, TooMany, uncounted}
use Rattle.fax_page.specs.laws.Uncounted.{IsUncounted}
use Rattle.fax_page.specs.code.Ends.{HasDataEnd, HasEndMark, RowsEndAs}
use Rattle.fax_page.specs.laws.Lines.{AreLines}
use Rattle.fax_page.specs.Salvage.{NeedsEol, found}
use Rattle.fax_page.specs.LeftUncounted.{AreLeftUncounted, IsLeftUncounted}
use Rattle.fax_page.specs.laws.Strips.{ReadsLinesOneWay}
use Rattle.fax_page.proofs.EndFollowingLaws.{mark_is_cause, zeros_are_cause}
use Rattle.fax_page.proofs.EndGraph.{end_of, is_end}
use Rattle.fax_page.proofs.SalvageLaws.{none_begins}
use Rattle.fax_page.proofs.StartLaws.{below_is_not_zeros, eol_is_not_below}
use Rattle.fax_page.proofs.StripGraph.{lines_in}

-- an end mark begins with an EOL
mark_has_eol : (coding : Coding) (b : List Bool) → HasEndMark coding b → BeginsBelowEleven b → ⊥
mark_has_eol Mh b mark below = eol_is_not_below b mark.1.0 mark.1.1 below
mark_has_eol Mr b mark below = eol_is_not_below b (true ∷ mark.1.0) mark.1.1 below
mark_has_eol Mmr b mark below = eol_is_not_below b (eol_bits ++ mark.0) (ap (next_one 0) mark.1) below

-- rows end well after so many
abbrev EndsWell : Coding → ℕ → List Bool → RowsEnd → Type 0
EndsWell coding i remaining end = (HasEndMark coding remaining × (end ≡ Marked)) ⊎ (HasDataEnd i remaining × (end
    ≡ DataEnd))

module _ (reads : (form : StripForm) (i : ℕ) (reference : List Colour) → ReadsLinesOneWay form i reference)
    (form : StripForm) (end : RowsEnd) where
  ends_here : (i : ℕ) (b : List Bool) → EndsWell form.coding i b end
      → AreLeftUncounted form i None (white_row form.width) b [] end
  ends_here i b (inl (mark, is)) = rw is (end_of form.coding i b None Marked mark, λ many. cc)
  ends_here i b (inr (ends, is)) = rw is (end_of form.coding i b None DataEnd ends, λ many. cc)

  not_lacking : (i : ℕ) (row : List Colour) (rest : List Bool) (rows : List (List Colour)) (stop : Option StripFault)
      (remaining : List Bool) → AreLines form (i + 1) row rest rows stop remaining
      → EndsWell form.coding (i + 1 + length rows) remaining end → NeedsEol form i → BeginsBelowEleven rest → ⊥
  not_lacking i row rest [] stop remaining lines ends upcoming below = at_end (left_is stop lines) ends
    where
      left_is : (stop : Option StripFault) → AreLines form (i + 1) row rest [] stop remaining → rest ≡ remaining
      left_is None lines = lines.0
      left_is (Some fault) lines = lines.0

      at_end : rest ≡ remaining → EndsWell form.coding (i + 1 + 0) remaining end → ⊥
      at_end is (inl (mark, _)) = mark_has_eol form.coding remaining mark (subst BeginsBelowEleven is below)
      at_end is (inr (data_end, _)) = below_is_not_zeros remaining (subst BeginsBelowEleven is below) data_end.1
  not_lacking i row rest (other ∷ rows) stop remaining (after, low, line, lines) ends upcoming below =
      none_begins form i row rest other after line upcoming.0 below

  all_found : (i : ℕ) (reference : List Colour) (b : List Bool) (rows : List (List Colour)) (stop : Option StripFault)
      (remaining : List Bool) → AreLines form i reference b rows stop remaining
      → EndsWell form.coding (i + length rows) remaining end
      → AreLeftUncounted form i None reference b (map (λ row. found row) rows) end
  all_found i reference b [] stop remaining lines ends = subst (λ c. AreLeftUncounted form i None reference c [] end)
      (sym (left_is stop lines)) (ends_here i remaining (none_more ends))
    where
      left_is : (stop : Option StripFault) → AreLines form i reference b [] stop remaining → b ≡ remaining
      left_is None lines = lines.0
      left_is (Some fault) lines = lines.0

      none_more : EndsWell form.coding (i + 0) remaining end → EndsWell form.coding i remaining end
      none_more ends = let same : i + 0 ≡ i = omega arith in subst (λ n. EndsWell form.coding n remaining end) same ends
  all_found i reference b (row ∷ rows) stop remaining (rest, low, line, lines) ends =
      let none : (fault : StripFault) → IsCause form i reference b fault → ⊥ =
      λ fault. (reads form i reference).line.answer_has_no_fault b row rest fault line in
      let count : i + length (row ∷ rows) ≡ i + 1 + length rows = omega arith in
      let after = subst (λ n. EndsWell form.coding n remaining end) count ends in (
        rest,
        (
          low,
          end_of form.coding i b None TooMany (
            λ mark. none EndMarker (mark_is_cause form i reference b form.coding refl mark),
            λ data_end. elim (zeros_are_cause form i reference b form.coding refl data_end.1) [
              | inl ends ↦ none DataEnds ends
              | inr marker ↦ none EndMarker marker
            ],
            refl,
          ),
        ),
        record { line = line; alone = λ lost_before. absurd (lost_before refl) },
        not_lacking i row rest rows stop remaining lines after,
        all_found (i + 1) row rest rows stop remaining lines after,
      )

pub whole_uncounted : ((form : StripForm) (i : ℕ) (reference : List Colour) → ReadsLinesOneWay form i reference)
    → (form : StripForm) (b : List Bool) (rows : List (List Colour)) (end : RowsEnd)
    → IsUncounted form b rows end → (end ≡ Marked) ⊎ (end ≡ DataEnd)
    → IsLeftUncounted (uncounted form) b (map (λ row. found row) rows) end
whole_uncounted reads form b rows end is good =
    let all : length rows ≡ 0 + length rows = omega arith in
    let strip = read_strip (uncounted form) b in
    let ends = is_end form.coding (length rows) strip.remaining strip.end end is.1 in
    all_found reads (uncounted form) end 0 (white_row form.width) b rows strip.end strip.remaining
    (lines_in (uncounted form) b rows strip.end (is.0, refl))
    (subst (λ n. EndsWell form.coding n strip.remaining end) all (well strip.end strip.remaining end ends good))
  where
    well : (stop : Option StripFault) (remaining : List Bool) (end : RowsEnd)
        → RowsEndAs form.coding (length rows) remaining stop end → (end ≡ Marked) ⊎ (end ≡ DataEnd)
        → EndsWell form.coding (length rows) remaining end
    well stop remaining end ends (inl marked) = inl ((rw marked at ends), marked)
    well stop remaining end ends (inr data_end) = inr ((rw data_end at ends), data_end)
