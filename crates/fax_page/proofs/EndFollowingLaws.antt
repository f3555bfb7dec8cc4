-- How the rows of a strip of unknown height end stays, whatever follows.
use Rattle.std.proofs.Common.{◌≡◌, ◌≢◌, ℕ, zero, suc, List, [], ◌∷◌, ◌++◌, Bool, true, false, refl, ap, ◌∙◌, arith}
use Rattle.std.proofs.Common.{append_assoc, inl, inr, length, replicate, Some}
use Rattle.std.specs.Prelude.{◌⊎◌}
use Rattle.std.proofs.lemmas.Bool.{cases_lt}
use Rattle.std.proofs.lemmas.List.{length-replicate}
use Rattle.fax_bits.specs.declared.Colour.{Colour}
use Rattle.fax_bits.specs.Bits.{IsAllZeros}
use Rattle.fax_page.specs.declared.Dimension.TheVariants.{OneDimensional, TwoDimensional}
use Rattle.fax_page.specs.declared.StripFault.TheVariants.{DataEnds, EndMarker}
use Rattle.fax_page.specs.Lines.{Coding, Mh, Mr, Mmr, StripFault, StripForm, IsCause, start_by}
use Rattle.fax_page.proofs.LineParts.{cause_of}
use Rattle.fax_page.proofs.StartLaws.{eol_is, none_at}
use Rattle.fax_page.specs.Strip.{end_bits, eol_bits}
use Rattle.fax_page.specs.Uncounted.{Fault, Marked, rows_end}
use Rattle.fax_page.specs.code.Ends.{AreRtcEols, HasEndMark, IsRtcEol}
use Rattle.fax_page.specs.laws.Following.{EndsStayWhateverFollows, StaysWhateverFollows}
use Rattle.fax_page.specs.laws.Strips.{ReadsLinesOneWay}
use Rattle.fax_page.proofs.EndGraph.{data_end_of, end_of, is_data_end, is_mark}
use Rattle.fax_page.proofs.FollowingLaws.{eol_stays}
use Rattle.fax_page.proofs.StartLemmas.{eleven_ahead, eleven_alone}

-- an end mark stays
pub return_eol_stays : (coding : Coding) (b rest more : List Bool) → IsRtcEol coding b rest
    → IsRtcEol coding (b ++ more) (rest ++ more)
return_eol_stays Mh b rest more eol = eol_stays more b rest eol
return_eol_stays Mr b rest more eol = eol_stays more b (true ∷ rest) eol
return_eol_stays Mmr b rest more eol = eol

pub eols_stay : (coding : Coding) (n : ℕ) (b rest more : List Bool) → AreRtcEols coding n b rest
    → AreRtcEols coding n (b ++ more) (rest ++ more)
eols_stay coding zero b rest more eols = ap (λ c. c ++ more) eols
eols_stay coding (suc n) b rest more eols =
    (eols.0 ++ more, return_eol_stays coding b eols.0 more eols.1, eols_stay coding n eols.0 rest more eols.2)

mark_stays : (coding : Coding) (b more : List Bool) → HasEndMark coding b → HasEndMark coding (b ++ more)
mark_stays Mh b more mark = (mark.0 ++ more, eols_stay Mh 6 b mark.0 more mark.1)
mark_stays Mr b more mark = (mark.0 ++ more, eols_stay Mr 6 b mark.0 more mark.1)
mark_stays Mmr b more mark =
    (mark.0 ++ more, ap (λ c. c ++ more) mark.1 ∙ append_assoc (end_bits Mmr) mark.0 more)

-- it is in the way of the next row
pub mark_is_cause : (form : StripForm) (i : ℕ) (reference : List Colour) (b : List Bool) (coding : Coding)
    → form.coding ≡ coding
    → HasEndMark coding b → IsCause form i reference b EndMarker
mark_is_cause form i reference b Mh is mark =
    let next = eol_is mark.1.0 mark.1.2.0 mark.1.2.1 in
    let marker = eleven_ahead mark.1.0 next.0 next.1 (mark.1.2.0, next.2) in
    cause_of form i reference b EndMarker
    (inr (OneDimensional, mark.1.0, rw is (ap (start_by Mh i b) mark.1.1), inl (inl (marker.0, marker.1, refl))))
mark_is_cause form i reference b Mr is mark =
    let next = eol_is mark.1.0 (true ∷ mark.1.2.0) mark.1.2.1 in
    let marker = eleven_ahead mark.1.0 next.0 next.1 (true ∷ mark.1.2.0, next.2) in
    cause_of form i reference b EndMarker
    (inr (OneDimensional, mark.1.0, rw is (ap (start_by Mr i b) mark.1.1), inl (inl (marker.0, marker.1, refl))))
mark_is_cause form i reference b Mmr is mark =
    cause_of form i reference b EndMarker
    (inr (TwoDimensional, b, rw is refl, inl (inl (true ∷ eol_bits ++ mark.0, mark.1, refl))))

-- and zeros alone are, or are where the data end
pub zeros_are_cause : (form : StripForm) (i : ℕ) (reference : List Colour) (b : List Bool) (coding : Coding)
    → form.coding ≡ coding → IsAllZeros b
    → IsCause form i reference b DataEnds ⊎ IsCause form i reference b EndMarker
zeros_are_cause form i reference b Mh is all =
    inl (cause_of form i reference b DataEnds (inl (rw is (ap (start_by Mh i b) (none_at b all)))))
zeros_are_cause form i reference b Mr is all =
    inl (cause_of form i reference b DataEnds (inl (rw is (ap (start_by Mr i b) (none_at b all)))))
zeros_are_cause form i reference b Mmr is all =
    elim (cases_lt all.0 11) [
      | inl few ↦ inl (cause_of form i reference b DataEnds
          (inr (TwoDimensional, b, rw is refl, inl (inr (all.0, few, all.1, refl)))))
      | inr enough ↦
          let long = ap length all.1 ∙ length-replicate all.0 false in
          let marker = eleven_alone b (omega (arith, long, enough)) all in
          inr (cause_of form i reference b EndMarker
          (inr (TwoDimensional, b, rw is refl, inl (inl (marker.0, marker.1, refl)))))
    ]

-- the first of zeros are zeros
front_zeros : (b more : List Bool) (n : ℕ) → b ++ more ≡ replicate n false → IsAllZeros b
front_zeros [] more n is = (0, refl)
front_zeros (bit ∷ b) more zero is = absurd (cc is)
front_zeros (true ∷ b) more (suc n) is = absurd (cc is)
front_zeros (false ∷ b) more (suc n) is =
    let all = front_zeros b more n cc in (suc all.0, ap (λ c. false ∷ c) all.1)

module _ (reads : (form : StripForm) (i : ℕ) (reference : List Colour) → ReadsLinesOneWay form i reference)
    (stays : (form : StripForm) (i : ℕ) (reference : List Colour) → StaysWhateverFollows form i reference) where
  fault_stays : (form : StripForm) (i row : ℕ) (reference : List Colour) (remaining more : List Bool) (fault :
      StripFault)
      → fault ≢ DataEnds
      → fault ≢ EndMarker → IsCause form i reference remaining fault
      → rows_end form.coding row (remaining ++ more) (Some fault) ≡ Fault fault
  fault_stays form i row reference remaining more fault no_end no_marker cause =
      let b = remaining ++ more in
      let now = (stays form i reference).fault remaining more fault no_end cause in
      let one = (reads form i reference).line.one_fault b fault in
      end_of form.coding row b (Some fault) (Fault fault) (
        λ mark. no_marker (one EndMarker now (mark_is_cause form i reference b form.coding refl mark)),
        λ ends.
            elim (zeros_are_cause form i reference b form.coding refl ends.1) [
              | inl data_ends ↦ no_end (one DataEnds now data_ends)
              | inr marker ↦ no_marker (one EndMarker now marker)
            ],
        refl,
      )

  pub ends_stay : EndsStayWhateverFollows
  ends_stay = record {
    mark = λ coding row remaining more stop mark.
        end_of coding row (remaining ++ more) stop Marked (mark_stays coding remaining more (is_mark coding remaining
        mark));
    fault = fault_stays;
    fill = λ row remaining more is.
        let ends = is_data_end row (remaining ++ more) is in
        data_end_of row remaining (ends.0, front_zeros remaining more ends.1.0 ends.1.1);
  }
