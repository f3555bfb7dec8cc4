-- Bytes whose bits are turned round lane by lane.
use Rattle.std.proofs.Common.{◌≡◌, ℕ, zero, suc, ◌+◌, ◌-◌, ◌<◌, ◌≤◌, List, [], ◌∷◌, map, length, drop, get_or, Bool}
use Rattle.std.proofs.Common.{true}
use Rattle.std.proofs.Common.{nat_eq, refl, ap, sym, ◌∙◌, arith, replicate, inl, inr, length-drop, get_or-drop}
use Rattle.std.proofs.lemmas.Bool.{agree_below, agree_below_at, eqb-true, cases_lt}
use Rattle.std.proofs.lemmas.List.{ext_get_or, get_or-map, get_or-take, length-map, length-take-le}
use Rattle.std.proofs.lemmas.Simd.{length-put_chunk, get_or-put_chunk_below, get_or-put_chunk_at}
use Rattle.std.proofs.lemmas.Simd.{get_or-put_chunk_above}
use lib.Lanes.{zip2, Each1, chunk, put_chunk}
use mir.Syntax.{w8}
use mir.Val.{Fits}

-- the two functions are the same at each number below n
abbrev pub same_below : (ℕ → ℕ) → (ℕ → ℕ) → ℕ → Bool
same_below f g n = agree_below (λ x. nat_eq (f x) (g x)) (λ x. true) n

-- lanes are turned round by halves, pairs and single bits
abbrev halves : (or right remaining : ℕ → ℕ → ℕ) → ℕ → ℕ
halves or right remaining x = or (right x 4) (remaining x 4)

abbrev pairs : (or and right remaining : ℕ → ℕ → ℕ) → ℕ → ℕ
pairs or and right remaining x = or (and (right (halves or right remaining x) 2) 51) (remaining (and (halves or right
    remaining x) 51) 2)

abbrev pub turned_by : (or and right remaining : ℕ → ℕ → ℕ) → ℕ → ℕ
turned_by or and right remaining x = or (and (right (pairs or and right remaining x) 1) 85)
    (remaining (and (pairs or and right remaining x) 85) 1)

-- all lanes at once
abbrev halves_of : (or right remaining : ℕ → ℕ → ℕ) → ℕ → List ℕ → List ℕ
halves_of or right remaining n v = zip2 or (zip2 right v (replicate n 4)) (zip2 remaining v (replicate n 4))

abbrev pairs_of : (or and right remaining : ℕ → ℕ → ℕ) → ℕ → List ℕ → List ℕ
pairs_of or and right remaining n v =
    zip2 or (zip2 and (zip2 right (halves_of or right remaining n v) (replicate n 2)) (replicate n 51))
    (zip2 remaining (zip2 and (halves_of or right remaining n v) (replicate n 51)) (replicate n 2))

abbrev turned_of : (or and right remaining : ℕ → ℕ → ℕ) → ℕ → List ℕ → List ℕ
turned_of or and right remaining n v =
    zip2 or (zip2 and (zip2 right (pairs_of or and right remaining n v) (replicate n 1)) (replicate n 85))
    (zip2 remaining (zip2 and (pairs_of or and right remaining n v) (replicate n 85)) (replicate n 1))

each_turned : (or and right remaining : ℕ → ℕ → ℕ) (n : ℕ) (v : List ℕ) → length v ≡ n
    → turned_of or and right remaining n v
    ≡ map (turned_by or and right remaining) v
each_turned or and right remaining zero [] len = refl
each_turned or and right remaining zero (x ∷ v) len = absurd (omega arith)
each_turned or and right remaining (suc n) [] len = absurd (omega arith)
each_turned or and right remaining (suc n) (x ∷ v) len = grind (
  arith,
  each_turned or and right remaining n v (omega
      arith),
)

each_same : (f g : ℕ → ℕ) → same_below f g 256 ≡ true → (v : List ℕ) → Each1 (Fits w8) v → map f v ≡ map g v
each_same f g all [] fits = refl
each_same f g all (x ∷ v) fits =
    let here : f x ≡ g x = eqb-true _ _ (agree_below_at (λ y. nat_eq (f y) (g y)) (λ y. true) 256 x all fits.0.fits) in
    ap (λ y. y ∷ map f v) here ∙ ap (λ more. g x ∷ more) (each_same f g all v fits.1)

-- sixteen lanes, where a test of all bytes says that the steps make up a function
pub turned_lanes : (or and right remaining : ℕ → ℕ → ℕ) (g : ℕ → ℕ) (v : List ℕ) → length v ≡ 16 → Each1 (Fits w8) v
    → same_below (turned_by or and right remaining) g 256 ≡ true → turned_of or and right remaining 16 v ≡ map g v
turned_lanes or and right remaining g v len fits all =
    each_turned or and right remaining 16 v len ∙ each_same (turned_by or and right remaining) g all v fits

-- the first n elements are mapped, and those after them are as they were
pub record IsTurnedUpTo (g : ℕ → ℕ) (old new : List ℕ) (n : ℕ) : Type 0 where
  pub len : length new ≡ length old
  pub done : (k : ℕ) → k < n → k < length old → get_or new k 0 ≡ g (get_or old k 0)
  pub remaining : (k : ℕ) → n ≤ k → get_or new k 0 ≡ get_or old k 0

-- sixteen more
pub turned_group : (g : ℕ → ℕ) (old new ys : List ℕ) (n : ℕ) → IsTurnedUpTo g old new n → ys ≡ map g (chunk n 16 new)
    → n + 16 ≤ length old
    → IsTurnedUpTo g old (put_chunk n new ys) (n + 16)
turned_group g old new ys n so_far ys_is within = record {
  len = length-put_chunk n new ys ∙ so_far.len;
  done = λ k h l. elim (cases_lt k n) [
    | inl before ↦ get_or-put_chunk_below n new ys k 0 before ∙ so_far.done k before l
    | inr after ↦ in_group k after h
  ];
  remaining = λ k h. get_or-put_chunk_above n new ys k 0 (omega (arith, sixteen)) ∙ so_far.remaining k (omega arith);
}
  where
    long : length (chunk n 16 new) ≡ 16
    long = length-take-le 16 (drop n new) (omega (arith, length-drop n new, so_far.len))

    sixteen : length ys ≡ 16
    sixteen = ap length ys_is ∙ length-map (chunk n 16 new) g ∙ long

    in_group : (k : ℕ) → n ≤ k → k < n + 16 → get_or (put_chunk n new ys) k 0 ≡ g (get_or old k 0)
    in_group k after h =
        let at : n + (k - n) ≡ k = omega arith in
        let near : k - n < 16 = omega arith in
        ap (λ m. get_or (put_chunk n new ys) m 0) (sym at)
        ∙ get_or-put_chunk_at n new ys (k - n) 0 (omega (arith, sixteen)) (omega (arith, sixteen, so_far.len))
        ∙ ap (λ xs. get_or xs (k - n) 0) ys_is ∙ get_or-map g (chunk n 16 new) (k - n) 0 0 (omega (arith, long))
        ∙ ap g (get_or-take 16 (drop n new) (k - n) 0 near ∙ get_or-drop n new (k - n) 0 ∙ ap (λ m. get_or new m 0) at
        ∙ so_far.remaining k after)

pub turned_all : (g : ℕ → ℕ) (old new : List ℕ) (n : ℕ) → IsTurnedUpTo g old new n → length old ≤ n → new ≡ map g old
turned_all g old new n so_far all =
    ext_get_or 0 new (map g old) (so_far.len ∙ sym (length-map old g))
    (λ k h. so_far.done k (omega (arith, so_far.len)) (omega (arith, so_far.len))
    ∙ sym (get_or-map g old k 0 0 (omega (arith, so_far.len))))
