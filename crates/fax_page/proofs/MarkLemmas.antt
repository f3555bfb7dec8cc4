-- What may be an end mark where more bits follow.
use Rattle.fax_page.specs.code.Starts.{IsEndOfLine}
use Rattle.std.proofs.Common.{arith, ◌≡◌, ◌≢◌, ℕ, zero, suc, ◌+◌, ◌-◌, ◌<◌, ◌≤◌, List, [], ◌∷◌, ◌++◌, length, take}
use Rattle.std.proofs.Common.{drop}
use Rattle.std.proofs.Common.{Bool, true, false, replicate, refl, ap, sym, ◌∙◌, subst, append-nil, append_assoc}
use Rattle.std.proofs.Common.{inl, inr, length-append}
use Rattle.std.proofs.Common.{◌/◌, ◌%◌, ◌^◌}
use Rattle.std.specs.Prelude.{min}
use Rattle.std.proofs.Math.Seq.{take-append_seam}
use Rattle.std.proofs.lemmas.Bool.{cases_lt}
use Rattle.std.proofs.lemmas.List.{replicate-append-replicate, take-append-drop, take-append-le}
use Rattle.std.proofs.lemmas.Nat.{mod_below, pow_pos, shr_below, shr_split}
use Rattle.fax_bits.proofs.CodeBitsLemmas.{code_bits-add, length-code_bits}
use Rattle.fax_bits.specs.Bits.{IsAllZeros, StartsWith, code_bits}
use Rattle.fax_bits.specs.views.Source.{IsTaken}
use Rattle.fax_page.specs.declared.Coding.{Coding}
use Rattle.fax_page.specs.declared.Coding.TheVariants.{Mh, Mr, Mmr}
use Rattle.fax_page.specs.declared.StripFault.{StripFault}
use Rattle.fax_page.specs.declared.StripFault.TheVariants.{DataEnds}
use Rattle.fax_page.specs.declared.uncounted.RtcEol.TheVariants.{Cut, Other, Whole}
use Rattle.fax_page.specs.Lines.{not_there}
use Rattle.fax_page.specs.Strip.{end_bits, eol_bits}
use Rattle.fax_page.specs.code.Ends.{AreRtcEols, IsRtcEol, MayBeMarked}
use Rattle.fax_page.specs.code.Notes.{AreEolsTaken, IsMarkEol, MayHaveReturn}
use Rattle.fax_page.specs.code.Starts.{HasEol, HasNoEol}
use Rattle.fax_page.proofs.EndFollowingLaws.{eols_stay, return_eol_stays}
use Rattle.fax_page.proofs.EndLemmas.{block_bits, eol_taken, same_return_eol}
use Rattle.fax_page.proofs.FollowingLaws.{below_stays, eol_stays}
use Rattle.fax_page.proofs.StartLaws.{by_next, eol_at, eol_is_not_below, same_eol}

-- zeros and an EOL are one
zeros_and_eol : (b rest : List Bool) → IsAllZeros b → IsEndOfLine (b ++ (eol_bits ++ rest)) rest
zeros_and_eol b rest all =
    eol_at _ rest (all.0 + 11) (omega arith) (ap (λ c. c ++ (eol_bits ++ rest)) all.1
    ∙ sym (append_assoc (replicate all.0 false) (replicate 11 false) (true ∷ rest))
    ∙ ap (λ c. c ++ true ∷ rest) (replicate-append-replicate all.0 11 false))

-- where the data end before an EOL, one may follow
pub cut_before : (coding : Coding) (b rest : List Bool) (fault : StripFault) → coding ≢ Mmr → HasNoEol false b fault
    → fault ≡ DataEnds → IsMarkEol coding b Cut rest
cut_before Mh b rest fault other (inl (none, ends)) is =
    (eol_bits, zeros_and_eol b [] (by_next b not_there none))
cut_before Mr b rest fault other (inl (none, ends)) is =
    (eol_bits ++ true ∷ [], zeros_and_eol b (true ∷ []) (by_next b not_there none))
cut_before Mmr b rest fault other none is = absurd (other refl)
cut_before coding b rest fault other (inr (lacks, below, missing)) is = absurd (cc (missing, is))

-- and where something else stands there, none may
pub other_before : (coding : Coding) (b rest : List Bool) (fault : StripFault) → HasNoEol false b fault
    → fault ≢ DataEnds → IsMarkEol coding b Other rest
other_before coding b rest fault (inl (all, ends)) is = absurd (is ends)
other_before Mh b rest fault (inr (lacks, below, missing)) is = λ more after eol.
    eol_is_not_below (b ++ more) after eol (below_stays more b below)
other_before Mr b rest fault (inr (lacks, below, missing)) is = λ more after eol.
    eol_is_not_below (b ++ more) (true ∷ after) eol (below_stays more b below)
other_before Mmr b rest fault (inr (lacks, below, missing)) is = λ more after eol. eol

-- an EOL and a tag bit of 1
pub whole_tag : (coding : Coding) (b after rest : List Bool) → coding ≡ Mr → HasEol false b after
    → after ≡ true ∷ rest → IsMarkEol coding b Whole rest
whole_tag Mr b after rest is eol tag = subst (IsEndOfLine b) tag (eol_taken b after eol)
whole_tag Mh b after rest is eol tag = absurd (cc is)
whole_tag Mmr b after rest is eol tag = absurd (cc is)

-- an EOL after which the data end
pub cut_tag : (coding : Coding) (b after rest : List Bool) → coding ≡ Mr → HasEol false b after → after ≡ []
    → IsMarkEol coding b Cut rest
cut_tag Mr b after rest is eol none =
    (true ∷ [], eol_stays (true ∷ []) b [] (subst (IsEndOfLine b) none (eol_taken b after eol)))
cut_tag Mh b after rest is eol none = absurd (cc is)
cut_tag Mmr b after rest is eol none = absurd (cc is)

-- an EOL and another tag bit
pub other_tag : (coding : Coding) (b after rest : List Bool) → coding ≡ Mr → HasEol false b after → after ≢ []
    → ((more : List Bool) → after ≡ true ∷ more → ⊥) → IsMarkEol coding b Other rest
other_tag Mr b [] rest is eol some none = absurd (some refl)
other_tag Mr b (true ∷ after) rest is eol some none = absurd (none after refl)
other_tag Mr b (false ∷ after) rest is eol some none = λ more last found.
    let stays = eol_stays more b (false ∷ after) (eol_taken b (false ∷ after) eol) in
    let same = same_eol (b ++ more) (false ∷ (after ++ more)) (true ∷ last) stays found in cc same
other_tag Mh b after rest is eol some none = absurd (cc is)
other_tag Mmr b after rest is eol some none = absurd (cc is)

-- EOLs and then others
eols_on : (coding : Coding) (i n : ℕ) (b middle rest : List Bool) → AreRtcEols coding i b middle
    → AreRtcEols coding n middle rest → AreRtcEols coding (i + n) b rest
eols_on coding zero n b middle rest first more =
    subst (λ k. AreRtcEols coding k b rest) count (subst (λ c. AreRtcEols coding n c rest) (sym first) more)
  where
    count : n ≡ 0 + n
    count = omega arith
eols_on coding (suc i) n b middle rest (after, eol, eols) more =
    subst (λ k. AreRtcEols coding k b rest) count (after, eol, eols_on coding i n after middle rest eols more)
  where
    count : suc (i + n) ≡ suc i + n
    count = omega arith

-- the others of them
eols_back : (coding : Coding) (i n : ℕ) (b middle rest : List Bool) → AreRtcEols coding i b middle
    → AreRtcEols coding (i + n) b rest → AreRtcEols coding n middle rest
eols_back coding zero n b middle rest first all =
    subst (λ c. AreRtcEols coding n c rest) first (subst (λ k. AreRtcEols coding k b rest) count all)
  where
    count : 0 + n ≡ n
    count = omega arith
eols_back coding (suc i) n b middle rest (after, eol, eols) all =
    let (next, other, others) = subst (λ k. AreRtcEols coding k b rest) count all in
    eols_back coding i n after middle rest eols
    (subst (λ c. AreRtcEols coding (i + n) c rest) (same_return_eol coding b next after other eol) others)
  where
    count : suc i + n ≡ suc (i + n)
    count = omega arith

-- so many EOLs of a return to control
abbrev mark_eols : Coding → ℕ → List Bool
mark_eols coding zero = []
mark_eols Mr (suc n) = eol_bits ++ true ∷ mark_eols Mr n
mark_eols coding (suc n) = eol_bits ++ mark_eols coding n

eols_are : (coding : Coding) (n : ℕ) → coding ≢ Mmr → AreRtcEols coding n (mark_eols coding n) []
eols_are coding zero other = refl
eols_are Mh (suc n) other = (mark_eols Mh n, refl, eols_are Mh n other)
eols_are Mr (suc n) other = (mark_eols Mr n, refl, eols_are Mr n other)
eols_are Mmr (suc n) other = absurd (other refl)

module _ (coding : Coding) (other : coding ≢ Mmr) (b ahead : List Bool) (i : ℕ)
    (taken : AreEolsTaken coding b i ahead) where
  stand : AreRtcEols coding i b ahead
  stand = subst (λ k. AreRtcEols coding k b ahead) count (taken.onward 0 ahead refl)
    where
      count : i + 0 ≡ i
      count = omega arith

  -- the rest of a return to control may follow
  pub may_go_on : i < 6 → (rest : List Bool) → IsMarkEol coding ahead Cut rest → MayHaveReturn coding b
  may_go_on upcoming rest (more, eol) =
      let eols = mark_eols coding (5 - i) in
      let after : AreRtcEols coding (suc (5 - i)) (ahead ++ (more ++ eols)) [] = (
        eols,
        subst (λ c. IsRtcEol coding c eols) (append_assoc ahead more eols)
            (return_eol_stays coding (ahead ++ more) [] eols eol),
        eols_are coding (5 - i) other,
      ) in
      let count : i + suc (5 - i) ≡ 6 = omega (arith, upcoming) in (
        more ++ eols,
        [],
        subst (λ k. AreRtcEols coding k (b ++ (more ++ eols)) []) count
            (eols_on coding i (suc (5 - i)) (b ++ (more ++ eols)) (ahead ++ (more ++ eols)) []
            (eols_stay coding i b ahead (more ++ eols) stand) after),
      )

  -- or none is there, whatever follows
  pub never_goes_on : i < 6 → (rest : List Bool) → IsMarkEol coding ahead Other rest → MayHaveReturn coding b → ⊥
  never_goes_on upcoming rest none (more, last, eols) =
      let count : 6 ≡ i + suc (5 - i) = omega (arith, upcoming) in
      let found = eols_back coding i (suc (5 - i)) (b ++ more) (ahead ++ more) last
      (eols_stay coding i b ahead more stand) (subst (λ k. AreRtcEols coding k (b ++ more) last) count eols) in
      none more found.0 found.1

  pub all_there : i ≡ 6 → MayHaveReturn coding b
  all_there all = (
    [],
    ahead,
    subst (λ c. AreRtcEols coding 6 c ahead) (sym (append-nil b))
        (subst (λ k. AreRtcEols coding k b ahead) all stand),
  )

-- a return to control is the end mark of MH and MR
pub may_have_mark : (coding : Coding) (b : List Bool) → coding ≢ Mmr → MayHaveReturn coding b → MayBeMarked coding b
may_have_mark Mh b other may = (may.0, (may.1, may.2))
may_have_mark Mr b other may = (may.0, (may.1, may.2))
may_have_mark Mmr b other may = absurd (other refl)

pub may_have_return : (coding : Coding) (b : List Bool) → coding ≢ Mmr → MayBeMarked coding b
    → MayHaveReturn coding b
may_have_return Mh b other may = (may.0, may.1.0, may.1.1)
may_have_return Mr b other may = (may.0, may.1.0, may.1.1)
may_have_return Mmr b other may = absurd (other refl)

-- the first bits of the end of a facsimile block, as a number, and those after them
abbrev pub front : ℕ → ℕ
front n = 4097 / 2 ^ (24 - n)

pub front_fits : (n : ℕ) → n ≤ 24 → front n < 2 ^ n
front_fits n few = grind (arith, shr_below)

block_parts : (n : ℕ) → n ≤ 24
    → end_bits Mmr ≡ code_bits n (front n) ++ code_bits (24 - n) (4097 % 2 ^ (24 - n))
block_parts n few =
    let count : n + (24 - n) ≡ 24 = omega (arith, few) in
    sym block_bits ∙ sym (ap (λ k. code_bits k 4097) count)
    ∙ ap (code_bits (n + (24 - n))) (sym (shr_split 4097 (24 - n)))
    ∙ code_bits-add n (24 - n) (front n) (4097 % 2 ^ (24 - n)) (mod_below 4097 (2 ^ (24 - n)) (pow_pos (24 - n)))

-- no bits are left
pub no_bits : (b : List Bool) → length b ≡ 0 → b ≡ []
no_bits [] none = refl
no_bits (bit ∷ b) none = absurd (omega (arith, none))

none_after : code_bits (24 - 24) (4097 % 2 ^ (24 - 24)) ≡ []
unfolding code_bits
none_after = refl

module _ (b : List Bool) where
  abbrev pub bits_there : ℕ
  bits_there = min (length b) 24

  few_there : bits_there ≤ 24
  few_there = omega arith

  pub may_be_block : (rest : List Bool) → b ≡ code_bits bits_there (front bits_there) ++ rest → MayBeMarked Mmr b
  may_be_block rest is =
      let n = bits_there in
      let low = code_bits (24 - n) (4097 % 2 ^ (24 - n)) in
      let count : length b ≡ n + length rest =
      ap length is ∙ length-append (code_bits n (front n)) rest
      ∙ ap (λ k. k + length rest) (length-code_bits n (front n)) in
      elim (cases_lt 24 (length b)) [
        | inl more ↦
            let all : n ≡ 24 = omega (arith, more) in
            let none : low ≡ [] = ap (λ k. code_bits (24 - k) (4097 % 2 ^ (24 - k))) all ∙ none_after in
            let whole : end_bits Mmr ≡ code_bits n (front n) =
            block_parts n few_there ∙ ap (λ c. code_bits n (front n) ++ c) none ∙ append-nil (code_bits n (front n)) in
            ([], (rest, append-nil b ∙ is ∙ ap (λ c. c ++ rest) (sym whole)))
        | inr few ↦
            let none : rest ≡ [] = no_bits rest (omega (arith, count, few)) in
            let same : b ≡ code_bits n (front n) =
            is ∙ ap (λ c. code_bits n (front n) ++ c) none ∙ append-nil (code_bits n (front n)) in (
              low,
              ([], ap (λ c. c ++ low) same ∙ sym (block_parts n few_there) ∙ sym (append-nil (end_bits Mmr))),
            )
      ]

  pub begins_block : MayBeMarked Mmr b → StartsWith b (code_bits bits_there (front bits_there))
  begins_block (more, (rest, is)) =
      let n = bits_there in
      let code = code_bits n (front n) in
      let low = code_bits (24 - n) (4097 % 2 ^ (24 - n)) in
      let within : n ≤ length b = omega arith in
      let whole : b ++ more ≡ code ++ (low ++ rest) =
      is ∙ ap (λ c. c ++ rest) (block_parts n few_there) ∙ append_assoc code low rest in
      let seam : take n (code ++ (low ++ rest)) ≡ code =
      ap (λ k. take k (code ++ (low ++ rest))) (sym (length-code_bits n (front n)))
      ∙ take-append_seam code (low ++ rest) in
      let first : take n b ≡ code = sym (take-append-le n b more within) ∙ ap (take n) whole ∙ seam in
      (drop n b, sym (take-append-drop n b) ∙ ap (λ c. c ++ drop n b) first)

-- the same as the program finds it
pub block_found : (coding : Coding) (b ahead rest : List Bool) (n : ℕ) → coding ≡ Mmr → b ≡ ahead
    → n ≡ min (length b) 24 → IsTaken (code_bits n (front n)) ahead true rest → MayBeMarked coding b
block_found coding b ahead rest n is same count taken =
    subst (λ c. MayBeMarked c b) (sym is)
    (may_be_block b rest (same ∙ taken ∙ ap (λ k. code_bits k (front k) ++ rest) count))

pub block_missing : (coding : Coding) (b ahead rest : List Bool) (n : ℕ) → coding ≡ Mmr → b ≡ ahead
    → n ≡ min (length b) 24 → IsTaken (code_bits n (front n)) ahead false rest → MayBeMarked coding b → ⊥
block_missing coding b ahead rest n is same count taken may =
    let begins = begins_block b (subst (λ c. MayBeMarked c b) is may) in
    taken.1 (begins.0, sym same ∙ begins.1 ∙ ap (λ k. code_bits k (front k) ++ begins.0) (sym count))
