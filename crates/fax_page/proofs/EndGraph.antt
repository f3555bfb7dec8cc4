-- How rows end, as a function says it, is how the program finds it.
use Rattle.std.proofs.Common.{arith, ◌≡◌, ℕ, zero, suc, List, ◌∷◌, ◌++◌, Bool, true, false, true≢false, refl, ap, sym}
use Rattle.std.proofs.Common.{◌∙◌, ◌↔◌, IsTrue, subst, Option, Some, None}
use Rattle.std.specs.Prelude.{MatchOption, is_some}
use Rattle.fax_bits.specs.Bits.{IsAllZeros}
use Rattle.fax_page.specs.declared.Coding.{Coding}
use Rattle.fax_page.specs.declared.Coding.TheVariants.{Mh, Mr, Mmr}
use Rattle.fax_page.specs.declared.RowsEnd.{RowsEnd}
use Rattle.fax_page.specs.declared.RowsEnd.TheVariants.{Marked, DataEnd, Fault, TooMany}
use Rattle.fax_page.specs.declared.StripFault.{StripFault}
use Rattle.fax_page.specs.Lines.{NextOne, ends_line, in_code, next_one, not_there}
use Rattle.fax_page.specs.Strip.{after_mark, after_return, after_returns, end_bits, eol_bits}
use Rattle.fax_page.specs.Uncounted.{end_by_stop, has_data_end, has_end_mark, is_not_there, rows_end, MayHaveEndMark}
use Rattle.fax_page.specs.code.Ends.{AreRtcEols, HasDataEnd, HasEndMark, IsEndMark, IsRtcEol, MayBeMarked, RowsEndAs}
use Rattle.fax_bits.proofs.CodeLemmas.{front_is}
use Rattle.fax_rows.proofs.StepReadLemmas.{is_false}
use Rattle.fax_page.proofs.StartLaws.{by_next, eol_is_not_zeros, none_at}

-- an EOL of a return to control
return_of : (coding : Coding) (b rest : List Bool) → IsRtcEol coding b rest
    → after_return coding (next_one 0 b) ≡ Some rest
return_of Mh b rest eol = ap (after_return Mh) eol
return_of Mr b rest eol = ap (after_return Mr) eol
return_of Mmr b rest eol = absurd eol

is_return : (coding : Coding) (b rest : List Bool) (one : NextOne) → next_one 0 b ≡ one
    → after_return coding one ≡ Some rest → IsRtcEol coding b rest
is_return Mh b rest (ends_line after) at found = cc (at, found)
is_return Mr b rest (ends_line (true ∷ after)) at found = cc (at, found)
is_return coding b rest one at found = absurd (cc (found))

-- the bits after EOLs of a return to control
abbrev AreAfter : Coding → ℕ → List Bool → Option (List Bool) → Type 0
AreAfter coding n b r =
    MatchOption r ((rest : List Bool) × AreRtcEols coding n b rest → ⊥) (AreRtcEols coding n b)

one_more : (coding : Coding) (n : ℕ) (b middle : List Bool) (r : Option (List Bool))
    → after_return coding (next_one 0 b) ≡ Some middle → AreAfter coding n middle r
    → AreAfter coding (suc n) b r
one_more coding n b middle (Some rest) at more =
    (middle, is_return coding b middle (next_one 0 b) refl at, more)
one_more coding n b middle None at more = λ are.
    let (rest, (other, eol, others)) = are in
    let same : Some other ≡ Some middle = sym (return_of coding b other eol) ∙ at in
    let is : other ≡ middle = cc (same) in
    more (rest, subst (λ c. AreRtcEols coding n c rest) is others)

by_return : (coding : Coding) (n : ℕ) (b : List Bool) (r : Option (List Bool))
    → after_return coding (next_one 0 b) ≡ r
    → ((c : List Bool) → AreAfter coding n c (after_returns coding n c))
    → AreAfter coding (suc n) b (elim r [ None ↦ None | Some rest ↦ after_returns coding n rest ])
by_return coding n b None at more = λ are.
    let (rest, (other, eol, others)) = are in
    let same : Some other ≡ None = sym (return_of coding b other eol) ∙ at in absurd (cc (same))
by_return coding n b (Some middle) at more = one_more coding n b middle (after_returns coding n middle) at (more middle)

returns_are : (coding : Coding) (n : ℕ) (b : List Bool) → AreAfter coding n b (after_returns coding n b)
returns_are coding zero b = refl
returns_are coding (suc n) b =
    by_return coding n b (after_return coding (next_one 0 b)) refl (returns_are coding n)

abbrev pub IsAfterMark : Coding → List Bool → Option (List Bool) → Type 0
IsAfterMark coding b r = MatchOption r (HasEndMark coding b → ⊥) (IsEndMark coding b)

pub mark_is : (coding : Coding) (b : List Bool) → IsAfterMark coding b (after_mark coding b)
mark_is Mh b = returns_are Mh 6 b
mark_is Mr b = returns_are Mr 6 b
mark_is Mmr b = front_is (end_bits Mmr) b

pub has_mark : (coding : Coding) (b : List Bool) (r : Option (List Bool)) → IsAfterMark coding b r
    → IsTrue (is_some r) ↔ HasEndMark coding b
has_mark coding b None none = (λ is. absurd (true≢false (sym is)), λ mark. absurd (none mark))
has_mark coding b (Some rest) is = (λ some. (rest, is), λ mark. refl)

pub mark_of : (coding : Coding) (b : List Bool) → HasEndMark coding b → has_end_mark coding b ≡ true
mark_of coding b mark = (has_mark coding b (after_mark coding b) (mark_is coding b)).1 mark

pub is_mark : (coding : Coding) (b : List Bool) → has_end_mark coding b ≡ true → HasEndMark coding b
is_mark coding b is = (has_mark coding b (after_mark coding b) (mark_is coding b)).0 is

-- the data ends
pub data_end_of : (row : ℕ) (b : List Bool) → HasDataEnd row b → has_data_end row b ≡ true
data_end_of zero b has = absurd (omega (arith, has.0))
data_end_of (suc row) b has = ap is_not_there (none_at b has.1)

pub is_data_end : (row : ℕ) (b : List Bool) → has_data_end row b ≡ true → HasDataEnd row b
is_data_end zero b is = absurd (true≢false (sym is))
is_data_end (suc row) b is = (omega arith, by (next_one 0 b) refl is)
  where
    by : (one : NextOne) → next_one 0 b ≡ one → is_not_there one ≡ true → IsAllZeros b
    by not_there at is = by_next b not_there at
    by in_code at is = absurd (true≢false (sym is))
    by (ends_line rest) at is = absurd (true≢false (sym is))

-- a 1 is in each end mark
mark_is_not_zeros : (coding : Coding) (b : List Bool) → HasEndMark coding b → IsAllZeros b → ⊥
mark_is_not_zeros Mh b mark all = eol_is_not_zeros b mark.1.0 mark.1.1 all
mark_is_not_zeros Mr b mark all = eol_is_not_zeros b (true ∷ mark.1.0) mark.1.1 all
mark_is_not_zeros Mmr b mark all = eol_is_not_zeros b (eol_bits ++ mark.0) (ap (next_one 0) mark.1) all

-- how rows end is defined so
by_data : (coding : Coding) (row : ℕ) (remaining : List Bool) (stop : Option StripFault) (test : Bool)
    → (HasEndMark coding remaining → ⊥)
    → has_data_end row remaining ≡ test
    → RowsEndAs coding row remaining stop (elim test [ true ↦ DataEnd | false ↦ end_by_stop stop ])
by_data coding row remaining stop true unmarked at = is_data_end row remaining at
by_data coding row remaining None false unmarked at =
    (unmarked, (λ has. true≢false (sym (data_end_of row remaining has) ∙ at)), refl)
by_data coding row remaining (Some fault) false unmarked at =
    (unmarked, (λ has. true≢false (sym (data_end_of row remaining has) ∙ at)), refl)

by_mark : (coding : Coding) (row : ℕ) (remaining : List Bool) (stop : Option StripFault) (test : Bool)
    → has_end_mark coding remaining ≡ test
    → RowsEndAs coding row remaining stop (elim test [
      | true ↦ Marked
      | false ↦ elim (has_data_end row remaining) [ true ↦ DataEnd | false ↦ end_by_stop stop ]
    ])
by_mark coding row remaining stop true at = is_mark coding remaining at
by_mark coding row remaining stop false at =
    by_data coding row remaining stop _ (λ mark. true≢false (sym (mark_of coding remaining mark) ∙ at)) refl

pub end_is : (coding : Coding) (row : ℕ) (remaining : List Bool) (stop : Option StripFault)
    → RowsEndAs coding row remaining stop (rows_end coding row remaining stop)
end_is coding row remaining stop = by_mark coding row remaining stop (has_end_mark coding remaining) refl

-- and what is defined is said
pub no_mark : (coding : Coding) (remaining : List Bool) → (HasEndMark coding remaining → ⊥)
    → has_end_mark coding remaining ≡ false
no_mark coding remaining unmarked = is_false _ (λ is. unmarked (is_mark coding remaining is))

no_data_end : (row : ℕ) (remaining : List Bool) → (HasDataEnd row remaining → ⊥) → has_data_end row remaining ≡ false
no_data_end row remaining more = is_false _ (λ is. more (is_data_end row remaining is))

pub end_of : (coding : Coding) (row : ℕ) (remaining : List Bool) (stop : Option StripFault) (end : RowsEnd)
    → RowsEndAs coding row remaining stop end
    → rows_end coding row remaining stop ≡ end
end_of coding row remaining stop Marked ends = rw (mark_of coding remaining ends, rows_end) refl
end_of coding row remaining stop DataEnd ends =
    rw (
      no_mark coding remaining (λ mark. mark_is_not_zeros coding remaining mark ends.1),
      data_end_of row remaining
          ends,
      rows_end,
    )
    refl
end_of coding row remaining stop (Fault fault) ends =
    rw (no_mark coding remaining ends.0, no_data_end row remaining ends.1, ends.2, rows_end) refl
end_of coding row remaining stop TooMany ends =
    rw (no_mark coding remaining ends.0, no_data_end row remaining ends.1, ends.2, rows_end) refl

-- as the program finds it
pub marked_end : (coding : Coding) (row : ℕ) (b : List Bool) (stop : Option StripFault) → has_end_mark coding b ≡ true
    → rows_end coding row b stop ≡ Marked
marked_end coding row b stop marked = rw (marked, rows_end) refl

pub unmarked_end : (coding : Coding) (row : ℕ) (b : List Bool) (stop : Option StripFault) (ended : Bool)
    → has_end_mark coding b ≡ false → has_data_end row b ≡ ended
    → rows_end coding row b stop ≡ (elim ended [ true ↦ DataEnd | false ↦ end_by_stop stop ])
unmarked_end coding row b stop ended unmarked ends = rw (unmarked, ends, rows_end) refl

pub is_end : (coding : Coding) (row : ℕ) (remaining : List Bool) (stop : Option StripFault) (end : RowsEnd)
    → rows_end coding row remaining stop ≡ end → RowsEndAs coding row remaining stop end
is_end coding row remaining stop end is =
    subst (RowsEndAs coding row remaining stop) is (end_is coding row remaining stop)

-- an end mark may stand where more bits follow
pub may_of : (coding : Coding) (b : List Bool) → MayBeMarked coding b → MayHaveEndMark coding b
may_of coding b (more, mark) = (more, mark_of coding (b ++ more) mark)

pub is_may : (coding : Coding) (b : List Bool) → MayHaveEndMark coding b → MayBeMarked coding b
is_may coding b (more, is) = (more, is_mark coding (b ++ more) is)
