-- What is read of bits stays, whatever follows them.
use Rattle.std.proofs.Common.{◌≡◌, ℕ, zero, suc, ◌+◌, List, [], ◌∷◌, ◌++◌, replicate, Bool, true}
use Rattle.std.proofs.Common.{false, refl, ap, sym, ◌∙◌, subst, arith, append_assoc, Option, Some, None}
use Rattle.std.specs.Prelude.{nat_le, if◌then◌else◌, MatchOption}
use Rattle.fax_bits.specs.Bits.{StartsWith}
use Rattle.fax_bits.specs.Codes.{after_front}
use Rattle.fax_bits.specs.Reading.{Read, read, failed, map_fault}
use Rattle.fax_bits.specs.Tables.{modes}
use Rattle.fax_bits.specs.laws.Codes.{ReadsOneWay, ReadsRunsOneWay}
use Rattle.fax_bits.specs.declared.Colour.{Colour}
use Rattle.fax_bits.proofs.CodeLemmas.{front_is}
use Rattle.fax_rows.specs.declared.RowFault.{RowFault}
use Rattle.fax_rows.specs.declared.RowFault.TheVariants as in_row
use Rattle.fax_page.specs.declared.Dimension.{Dimension}
use Rattle.fax_page.specs.declared.Dimension.TheVariants.{OneDimensional, TwoDimensional}
use Rattle.fax_page.specs.declared.Coding.{Coding}
use Rattle.fax_page.specs.declared.Coding.TheVariants.{Mh, Mr, Mmr}
use Rattle.fax_page.specs.declared.StripForm.{StripForm}
use Rattle.fax_page.specs.declared.StripFault.TheVariants.{DataEnds, EndMarker}
use Rattle.fax_page.specs.Lines.{NextOne, ends_line, in_code, next_one, not_there, read_start, start_by, IsLine}
use Rattle.fax_page.specs.Lines.{check_first, first_bits, codes_after, read_codes, read_line, strip_fault}
use Rattle.fax_page.specs.laws.Lines.{AreLines}
use Rattle.fax_page.specs.code.Starts.{BeginsBelowEleven, IsEndOfLine}
use Rattle.fax_page.specs.laws.Following.{ReadsInPieces, StaysWhateverFollows}
use Rattle.fax_page.specs.views.Writer.{last_of}
use Rattle.fax_page.proofs.FrontLemmas.{EndsWith, IsFront, answer_of, at_end, fault_of, is_read, joined}
use Rattle.fax_page.proofs.FrontLemmas.{one_front, onwards, same, stops, two_front}
use Rattle.fax_page.proofs.LineParts.{begins_of, marker_of}
use Rattle.fax_page.proofs.StartLaws.{eol_is}
use Rattle.fax_page.proofs.StartLemmas.{eleven_ahead}

module _ (more : List Bool) where
  -- the next 1, and where more bits follow
  abbrev Stays : List Bool → NextOne → NextOne → Type 0
  Stays b (ends_line rest) one = EndsWith b rest × (one ≡ ends_line (rest ++ more))
  Stays b in_code one = one ≡ in_code
  Stays b not_there one = Unit {0}

  after_zero : (b : List Bool) (one now : NextOne) → Stays b one now → Stays (false ∷ b) one now
  after_zero b (ends_line rest) now (ends, is) =
      (record { front = false ∷ ends.front; parts = ap (λ c. false ∷ c) ends.parts }, is)
  after_zero b in_code now is = is
  after_zero b not_there now is = tt

  one_stays : (n : ℕ) (b : List Bool) → Stays b (next_one n b) (next_one n (b ++ more))
  one_stays n [] = tt
  one_stays n (false ∷ b) = after_zero b (next_one (suc n) b) (next_one (suc n) (b ++ more)) (one_stays (suc n) b)
  one_stays n (true ∷ b) = at_test (nat_le 11 n)
    where
      at_test : (many : Bool) → Stays (true ∷ b) (if many then (ends_line b) else in_code)
          (if many then (ends_line (b ++ more)) else in_code)
      at_test true = (record { front = true ∷ []; parts = refl }, refl)
      at_test false = refl

  pub below_stays : (b : List Bool) → BeginsBelowEleven b → BeginsBelowEleven (b ++ more)
  below_stays b below = subst (λ one. Stays b one (next_one 0 (b ++ more))) below (one_stays 0 b)

  pub eol_stays : (b rest : List Bool) → IsEndOfLine b rest → IsEndOfLine (b ++ more) (rest ++ more)
  eol_stays b rest eol = (subst (λ one. Stays b one (next_one 0 (b ++ more))) eol (one_stays 0 b)).1

  -- what stands before a row's codes
  start_on : (coding : Coding) (i : ℕ) (b : List Bool) (one now : NextOne) → Stays b one now
      → IsFront DataEnds more b (start_by coding i b one) (start_by coding i (b ++ more) now)
  start_on Mmr i b one now stays = is_read TwoDimensional b
  start_on Mh i b (ends_line codes) now (ends, is) = record { is = (ends, ap (start_by Mh i (b ++ more)) is) }
  start_on Mh zero b in_code now is = record { is = (same b b refl, ap (start_by Mh 0 (b ++ more)) is) }
  start_on Mh (suc i) b in_code now is = stops b _ _ (ap (start_by Mh (suc i) (b ++ more)) is)
  start_on Mh i b not_there now is = at_end b _
  start_on Mr i b (ends_line []) now stays = at_end b _
  start_on Mr i b (ends_line (tag ∷ codes)) now (ends, is) =
      let tagged = onwards b _ codes ends (record { front = tag ∷ []; parts = refl }) in
      record { is = (tagged, ap (start_by Mr i (b ++ more)) is) }
  start_on Mr i b in_code now is = stops b _ _ (ap (start_by Mr i (b ++ more)) is)
  start_on Mr i b not_there now is = at_end b _

  pub start_front : (coding : Coding) (i : ℕ) (b : List Bool)
      → IsFront DataEnds more b (read_start coding i b) (read_start coding i (b ++ more))
  start_front coding i b = start_on coding i b (next_one 0 b) (next_one 0 (b ++ more)) (one_stays 0 b)

  -- the first code
  first_front : (b : List Bool) → IsFront DataEnds more b (check_first b) (check_first (b ++ more))
  first_front b = by (after_front (replicate 11 false) b) (next_one 0 b) (front_is (replicate 11 false) b) refl
    where
      by : (r : Option (List Bool)) (one : NextOne)
          → MatchOption r (StartsWith b (replicate 11 false) → ⊥) (λ rest. b ≡ replicate 11 false ++ rest)
          → next_one 0 b ≡ one → IsFront DataEnds more b (first_bits r one b) (check_first (b ++ more))
      by (Some after) one is at =
          stops b EndMarker _ (marker_of (b ++ more) (after ++ more)
          (ap (λ c. c ++ more) is ∙ append_assoc (replicate 11 false) after more))
      by None not_there none at = at_end b _
      by None in_code none at = record { is = (same b b refl, begins_of (b ++ more) (below_stays b at)) }
      by None (ends_line rest) none at =
          let eol = eol_is b rest at in absurd (none (eleven_ahead b eol.0 eol.1 (rest, eol.2)))

  named_front : (b : List Bool) (r now : Read (List Colour) RowFault) → IsFront in_row.DataEnds more b r now
      → IsFront DataEnds more b (map_fault strip_fault r) (map_fault strip_fault now)
  named_front b (read x rest) now front = record { is = (front.is.0, ap (map_fault strip_fault) front.is.1) }
  named_front b (failed fault) now front =
      record { is = λ other. ap (map_fault strip_fault) (front.is (λ same. other (ap strip_fault same))) }

  module _ (runs_read : (colour : Colour) → ReadsRunsOneWay colour) (modes_read : ReadsOneWay modes) where
    row_front : (dimension : Dimension) (width : ℕ) (reference : List Colour) (b : List Bool)
        → IsFront in_row.DataEnds more b (read_codes dimension width reference b)
        (read_codes dimension width reference (b ++ more))
    row_front OneDimensional width reference b = one_front runs_read modes_read more width b
    row_front TwoDimensional width reference b = two_front runs_read modes_read more reference b

    pub line_front : (form : StripForm) (i : ℕ) (reference : List Colour) (b : List Bool)
        → IsFront DataEnds more b (read_line form i reference b) (read_line form i reference (b ++ more))
    line_front form i reference b =
        joined b _ _ (codes_after form reference) (start_front form.coding i b) (λ dimension codes.
        joined codes _ _ _ (first_front codes) (λ _ rest.
        named_front rest _ _ (row_front dimension form.width reference rest)))

module _ (runs_read : (colour : Colour) → ReadsRunsOneWay colour) (modes_read : ReadsOneWay modes) where
  pub line_ends : (form : StripForm) (i : ℕ) (reference : List Colour) (b : List Bool) (row : List Colour)
      (rest : List Bool) → IsLine form i reference b row rest → EndsWith b rest
  line_ends form i reference b row rest line =
      (answer_of row rest line (line_front [] runs_read modes_read form i reference b)).0

  pub stays_whatever_follows : (form : StripForm) (i : ℕ) (reference : List Colour)
      → StaysWhateverFollows form i reference
  stays_whatever_follows form i reference = record {
    row = λ b more row rest line. (answer_of row rest line (line_front more runs_read modes_read form i reference b)).1;
    fault = λ b more fault other cause.
        fault_of fault other cause (line_front more runs_read modes_read form i reference b);
  }

-- rows of bits, and then those of what is left
module _ (stays : (form : StripForm) (i : ℕ) (reference : List Colour) → StaysWhateverFollows form i reference) where
  pub in_pieces : ReadsInPieces
  in_pieces form i reference b more [] others None end remaining after lines onward =
      subst (λ c. AreLines form i reference (c ++ more) others end after) (sym lines.0)
      (subst (λ j. AreLines form j reference (remaining ++ more) others end after) (omega arith) onward)
  in_pieces form i reference b more [] others (Some fault) end remaining after lines onward =
      subst (λ c. AreLines form i reference (c ++ more) others end after) (sym lines.0)
      (subst (λ j. AreLines form j reference (remaining ++ more) others end after) (omega arith) onward)
  in_pieces form i reference b more (row ∷ rows) others stop end remaining after lines onward = (
    lines.0 ++ more,
    lines.1,
    (stays form i reference).row b more row lines.0 lines.2,
    in_pieces form (i + 1) row lines.0 more rows others stop end remaining after lines.3
        (subst (λ j. AreLines form j (last_of row rows) (remaining ++ more) others end after) (omega arith) onward),
  )
