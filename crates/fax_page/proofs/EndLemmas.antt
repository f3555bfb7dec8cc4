-- What stands after the last row of a strip.
use Rattle.fax_page.specs.code.Starts.{IsEndOfLine}
use Rattle.std.proofs.Common.{◌≡◌, ◌≢◌, ℕ, zero, suc, ◌+◌, ◌<◌, ◌⊎◌, ◌↔◌, List, [], ◌∷◌, ◌++◌, length, replicate}
use Rattle.std.proofs.Common.{get_or, Bool, true, false, ◌-◌}
use Rattle.std.proofs.Common.{IsTrue, Option, Some, None, MatchOption, not, is_some, refl, ap, sym, ◌∙◌, subst, arith}
use Rattle.std.proofs.Common.{inl, inr}
use Rattle.std.specs.List.{Contains}
use Rattle.std.proofs.lemmas.List.Elements.{Contains-append_right}
use Rattle.fax_bits.specs.Bits.{IsAllZeros, code_bits, StartsWith}
use Rattle.fax_bits.specs.views.Source.{HasLeadingZeros, Source, IsTaken}
use Rattle.fax_page.specs.declared.Coding.{Coding}
use Rattle.fax_page.specs.declared.Coding.TheVariants.{Mh, Mr, Mmr}
use Rattle.fax_page.specs.declared.StripFault.{StripFault}
use Rattle.fax_page.specs.Strip.{end_bits}
use Rattle.fax_page.specs.code.Ends.{IsRtcEol, AreRtcEols, IsEndMark, HasEndMark}
use Rattle.fax_page.specs.code.Notes.{IsAfterEnd, AreEolsTaken, IsAfterMark, TakesReturnEol, AreNotesAfter}
use Rattle.fax_page.specs.code.Starts.{HasEol, HasNoEol}
use Rattle.fax_page.proofs.StartLaws.{same_eol, eol_is_not_below}

-- a 1 after zeros is among the bits
pub contains_one : (b : List Bool) (zeros : ℕ) → HasLeadingZeros b zeros → Contains b true
contains_one b zeros ahead =
    subst (λ c. Contains c true) (sym ahead.1)
    (Contains-append_right (replicate zeros false) (true ∷ ahead.0) true (0, omega arith, refl))

none_at : (n k : ℕ) → k < length (replicate n false) → get_or (replicate n false) k true ≡ true → ⊥
none_at zero k within is = omega (arith, within)
none_at (suc n) zero within is = cc
none_at (suc n) (suc k) within is = none_at n k (omega (arith, within)) is

-- and not where there are zeros alone
pub contains_none : (b : List Bool) → IsAllZeros b → Contains b true → ⊥
contains_none b all has = grind (arith, none_at)

-- where an EOL is not there, no EOL of a return to control is
pub no_eol : (b rest : List Bool) (fault : StripFault) → HasNoEol false b fault → IsEndOfLine b rest → ⊥
no_eol b rest fault (inl none) eol = absurd (cc (none.0, eol))
no_eol b rest fault (inr below) eol = eol_is_not_below b rest eol below.1

pub eol_taken : (b rest : List Bool) → HasEol false b rest → IsEndOfLine b rest
eol_taken b rest h = grind arith

-- an EOL of a return to control is taken in one way
pub same_return_eol : (coding : Coding) (b rest remaining : List Bool) → IsRtcEol coding b rest
    → IsRtcEol coding b remaining
    → rest ≡ remaining
same_return_eol Mh b rest remaining first second = same_eol b rest remaining first second
same_return_eol Mr b rest remaining first second =
    let same = same_eol b (true ∷ rest) (true ∷ remaining) first second in cc same
same_return_eol Mmr b rest remaining first second = absurd first

-- EOLs that are taken one after another
module _ (coding : Coding) (b : List Bool) where
  abbrev Stand : List Bool → ℕ → Type 0
  Stand rest n = AreRtcEols coding n b rest

  pub none_taken : AreEolsTaken coding b 0 b
  none_taken = grind arith

  module _ (ahead : List Bool) (i : ℕ) (taken : AreEolsTaken coding b i ahead) where
    pub one_taken : (rest : List Bool) → IsRtcEol coding ahead rest → AreEolsTaken coding b (i + 1) rest
    one_taken rest eol = record {
      onward = λ n after eols. subst (Stand after) (omega arith) (taken.onward (suc n) after (rest, eol, eols));
      back = λ n after eols.
          let found = taken.back (suc n) after (subst (Stand after) (omega arith) eols) in
          subst (λ c. AreRtcEols coding n c after) (same_return_eol coding ahead found.0 rest found.1 eol) found.2;
    }

    pub one_missing : i < 6 → ((after : List Bool) → IsRtcEol coding ahead after → ⊥) → (rest : List Bool)
        → Stand rest 6 → ⊥
    one_missing upcoming none rest eols =
        let count : 6 ≡ i + suc (5 - i) = omega arith in
        let found = taken.back (suc (5 - i)) rest (subst (Stand rest) count eols) in
        none found.0 found.1

    pub all_taken : i ≡ 6 → Stand ahead 6
    all_taken all = let count : i + 0 ≡ 6 = omega (arith, all) in subst (Stand ahead) count (taken.onward 0 ahead refl)

-- an end mark was found or not, and a 1 after it or after the last row
pub record IsEndFound (coding : Coding) (remaining : List Bool) (ended more : Bool) : Type 0 where
  pub after : List Bool
  pub after_end : IsAfterEnd coding remaining after
  pub mark : IsTrue ended ↔ HasEndMark coding remaining
  pub one : IsTrue more ↔ Contains after true

pub one_found : (b : List Bool) (zeros : Option ℕ) → MatchOption zeros (IsAllZeros b) (HasLeadingZeros b)
    → IsTrue (is_some zeros) ↔ Contains b true
one_found b None all = (λ is. absurd (cc is), λ has. absurd (contains_none b all has))
one_found b (Some zeros) ahead = (λ is. contains_one b zeros ahead, λ has. refl)

-- the same as the program finds it: after the end mark
pub end_found : (coding : Coding) (remaining after : List Bool) (zeros : Option ℕ) (more : Bool) (found : Bool × Bool)
    → IsEndMark coding remaining after
    → MatchOption zeros (IsAllZeros after) (HasLeadingZeros after) → more ≡ is_some zeros → found ≡ (true, more)
    → IsEndFound coding remaining found.0 found.1
end_found coding remaining after zeros more found mark ahead more_is found_is = grind (arith, one_found)

-- or after the last row
pub no_end_found : (coding : Coding) (remaining : List Bool) (zeros : Option ℕ) (more : Bool) (found : Bool × Bool)
    → ((rest : List Bool) → IsEndMark coding remaining rest → ⊥)
    → MatchOption zeros (IsAllZeros remaining) (HasLeadingZeros remaining)
    → more ≡ is_some zeros → found ≡ (false, more) → IsEndFound coding remaining found.0 found.1
no_end_found coding remaining zeros more found none ahead more_is found_is = rw (found_is, more_is) (record {
  after = remaining;
  after_end = inr (λ has. none has.0 has.1, refl);
  mark = (λ is. absurd (cc is), λ has. absurd (none has.0 has.1));
  one = one_found remaining zeros ahead;
})

abbrev pub IsMhOrMr : Coding → Type 0
IsMhOrMr coding = (coding ≡ Mh) ⊎ (coding ≡ Mr)

pub not_mmr : (coding : Coding) → IsMhOrMr coding → coding ≢ Mmr
not_mmr coding (inl is) other = cc
not_mmr coding (inr is) other = cc

-- the notes by them: in MH and MR
pub notes_of_eols : (coding : Coding) (remaining : List Bool) (ended more other : Bool) → IsMhOrMr coding
    → IsEndFound coding remaining ended more
    → AreNotesAfter coding remaining other (record {
      no_end_of_block = false;
      return_to_control = ended;
      data_after_end = more;
      not_t4_choice =
          other;
    })
notes_of_eols coding remaining ended more other either found = grind arith

-- and in MMR
pub notes_of_block : (coding : Coding) (remaining : List Bool) (ended more other : Bool) → coding ≡ Mmr
    → IsEndFound coding remaining ended more
    → AreNotesAfter coding remaining other (record {
      no_end_of_block = not ended;
      return_to_control = false;
      data_after_end =
          more;
      not_t4_choice = other;
    })
notes_of_block coding remaining ended more other is_mmr found = grind arith

-- a return to control is the end mark of MH and MR
pub eols_end : (coding : Coding) (b : List Bool) (found : Option Source) → IsMhOrMr coding
    → IsAfterMark (AreRtcEols coding 6 b) found
    → IsAfterMark (IsEndMark coding b) found
eols_end Mh b found either after = after
eols_end Mr b found either after = after
eols_end Mmr b found either after = absurd (not_mmr Mmr either refl)

-- and two EOLs, as a number, that of MMR
pub block_bits : code_bits 24 4097 ≡ end_bits Mmr
unfolding code_bits
block_bits = refl

pub block_end : (coding : Coding) (b rest : List Bool) → coding ≡ Mmr → b ≡ code_bits 24 4097 ++ rest
    → IsEndMark coding b rest
block_end coding b rest is taken = grind (arith, block_bits)

pub no_block_end : (coding : Coding) (b rest : List Bool) → coding ≡ Mmr → (StartsWith b (code_bits 24 4097) → ⊥)
    → IsEndMark coding b rest
    → ⊥
no_block_end coding b rest is none mark =
    let block = subst (λ c. IsEndMark c b rest) is mark in
    none (rest, block ∙ ap (λ front. front ++ rest) (sym block_bits))

-- an EOL and a bit after it, as the program takes them
pub no_return_eol : (coding : Coding) (b rest : List Bool) (fault : StripFault) → HasNoEol false b fault
    → IsRtcEol coding b rest → ⊥
no_return_eol Mh b rest fault none eol = no_eol b rest fault none eol
no_return_eol Mr b rest fault none eol = no_eol b (true ∷ rest) fault none eol
no_return_eol Mmr b rest fault none eol = eol

pub one_bit : code_bits 1 1 ≡ true ∷ []
unfolding code_bits
one_bit = refl

pub tag_taken : (coding : Coding) (b after : List Bool) (result : Bool) (rest : List Bool) → coding ≡ Mr
    → HasEol false b after
    → IsTaken (code_bits 1 1) after result rest → TakesReturnEol coding b result rest
tag_taken coding b after true rest is eol taken = grind (arith, one_bit)
tag_taken coding b after false rest is eol taken = λ more return_eol.
    let found = subst (λ c. IsRtcEol c b more) is return_eol in
    taken.1 (
      more,
      same_eol b after (true ∷ more) (eol_taken b after eol) found
          ∙ ap (λ front. front ++ more) (sym one_bit),
    )
