-- Each text is that of one cursor, or of one long cursor.
use Rattle.std.proofs.Common.{◌≡◌, ◌≢◌, ℕ, suc, ◌-◌, ◌^◌, ◌<◌, List, [], ◌∷◌, ◌++◌, length, get_or, refl, ap, sym, ◌∙◌}
use Rattle.std.proofs.Common.{append_assoc, length-append, arith}
use Rattle.std.specs.Prelude.{decimal, flat_map}
use Rattle.std.specs.List.{All}
use Rattle.std.proofs.lemmas.Fmt.{decimal_injective}
use Rattle.std.proofs.lemmas.List.{append-nil}
use Rattle.std.proofs.lemmas.List.Elements.{All-head, All-tail}
use Rattle.std.proofs.Math.Seq.{get_or-append_right}
use Rattle.fax_walk.specs.declared.cursor.Cursor.{Cursor}
use Rattle.fax_walk.specs.Pages.{IsCursor, cursor_text, IsLongCursor, LongCursorValue, long_cursor_text, runs_text}
use Rattle.fax_walk.specs.code.LongText.{and_run, number_and}
use Rattle.fax_walk.specs.laws.Cursors.{TextsNameOne}
use Rattle.fax_walk.proofs.CursorLemmas.{no_colon}
use Rattle.fax_walk.proofs.LongCursorLemmas.{no_comma, text_by_numbers}

-- this number is not in a list
abbrev IsNotIn : ℕ → List ℕ → Type 0
IsNotIn c xs = (i : ℕ) → i < length xs → get_or xs i 0 ≢ c

not_later : (c x : ℕ) (xs : List ℕ) → IsNotIn c (x ∷ xs) → IsNotIn c xs
not_later c x xs none = λ i within. none (suc i) (omega arith)

not_first : (c x : ℕ) (xs : List ℕ) → IsNotIn c (x ∷ xs) → x ≢ c
not_first c x xs none = none 0 (omega arith)

-- lists that are cut at the first of these numbers are cut at one place
cut_at : (c : ℕ) (xs ys us vs : List ℕ) → IsNotIn c xs → IsNotIn c ys → xs ++ c ∷ us ≡ ys ++ c ∷ vs
    → (xs ≡ ys) × (us ≡ vs)
cut_at c [] [] us vs none none' e = (refl, cc)
cut_at c [] (y ∷ ys) us vs none none' e = absurd (not_first c y ys none' (cc e))
cut_at c (x ∷ xs) [] us vs none none' e = absurd (not_first c x xs none (cc e))
cut_at c (x ∷ xs) (y ∷ ys) us vs none none' e =
    let later : xs ++ c ∷ us ≡ ys ++ c ∷ vs = cc e in
    let first : x ≡ y = cc e in
    let rest = cut_at c xs ys us vs (not_later c x xs none) (not_later c y ys none') later in
    (ap (λ (i : ℕ). i ∷ xs) first ∙ ap (λ (l : List ℕ). y ∷ l) rest.0, rest.1)

-- such a list is not cut at a number that is not in it
not_cut : (c : ℕ) (xs ys vs : List ℕ) → IsNotIn c xs → xs ≡ ys ++ c ∷ vs → ⊥
not_cut c xs ys vs none e =
    let zero_more : length ys - length ys ≡ 0 = omega arith in
    none (length ys) (omega (arith, ap (λ (l : List ℕ). length l) e, length-append ys (c ∷ vs)))
    (ap (λ (l : List ℕ). get_or l (length ys) 0) e ∙ get_or-append_right ys (c ∷ vs) (length ys) 0 (omega arith)
    ∙ ap (λ i. get_or (c ∷ vs) i 0) zero_more)

one_number : (n m : ℕ) → n < 2 ^ 32 → m < 2 ^ 32 → decimal n ≡ decimal m → n ≡ m
one_number n m small short e = decimal_injective n m (omega arith) (omega arith) e

-- a number before a colon
before_colon : (n m : ℕ) (us vs : List ℕ) → n < 2 ^ 32 → m < 2 ^ 32 → number_and n us ≡ number_and m vs
    → (n ≡ m) × (us ≡ vs)
before_colon n m us vs small short e = grind (arith, cut_at, no_colon, one_number)

-- the texts of cursors differ
cursors : (at other : Cursor) → IsCursor at → IsCursor other → cursor_text at ≡ cursor_text other → at ≡ other
cursors at other is is_too e = grind (arith, append_assoc, before_colon, one_number)

-- a run before others
first_and_others : (n m : ℕ) (runs others : List ℕ) → n < 2 ^ 32 → m < 2 ^ 32 → All (λ run. run < 2 ^ 32) runs
    → All (λ run. run < 2 ^ 32) others
    → decimal n ++ flat_map and_run runs ≡ decimal m ++ flat_map and_run others → (n ≡ m) × (runs ≡ others)
first_and_others n m [] [] small short all all' e = grind (arith, one_number, append-nil)
first_and_others n m [] (r ∷ others) small short all all' e =
    absurd (not_cut 44 (decimal n) (decimal m) (decimal r ++ flat_map and_run others) (no_comma n small)
    (sym (append-nil (decimal n)) ∙ e))
first_and_others n m (r ∷ runs) [] small short all all' e =
    absurd (not_cut 44 (decimal m) (decimal n) (decimal r ++ flat_map and_run runs) (no_comma m short)
    (sym (append-nil (decimal m)) ∙ sym e))
first_and_others n m (r ∷ runs) (s ∷ others) small short all all' e =
    let parts = cut_at 44 (decimal n) (decimal m) (decimal r ++ flat_map and_run runs)
    (decimal s ++ flat_map and_run others)
    (no_comma n small) (no_comma m short) e in
    let rest = first_and_others r s runs others (All-head (λ k. k < 2 ^ 32) r runs all)
    (All-head (λ k. k < 2 ^ 32) s others all')
    (All-tail (λ k. k < 2 ^ 32) r runs all) (All-tail (λ k. k < 2 ^ 32) s others all') parts.1 in
    (one_number n m small short parts.0, ap (λ (i : ℕ). i ∷ runs) rest.0 ∙ ap (λ (l : List ℕ). s ∷ l) rest.1)

one_runs : (runs others : List ℕ) → 0 < length runs → 0 < length others → All (λ run. run < 2 ^ 32) runs
    → All (λ run. run < 2 ^ 32) others → runs_text runs ≡ runs_text others → runs ≡ others
one_runs [] others some some' all all' e = absurd (omega arith)
one_runs (n ∷ runs) [] some some' all all' e = absurd (omega arith)
one_runs (n ∷ runs) (m ∷ others) some some' all all' e =
    let parts = first_and_others n m runs others (All-head (λ k. k < 2 ^ 32) n runs all)
    (All-head (λ k. k < 2 ^ 32) m others all')
    (All-tail (λ k. k < 2 ^ 32) n runs all) (All-tail (λ k. k < 2 ^ 32) m others all') e in
    ap (λ (i : ℕ). i ∷ runs) parts.0 ∙ ap (λ (l : List ℕ). m ∷ l) parts.1

one_place : (place other : LongCursorValue) → place.at ≡ other.at → place.bits ≡ other.bits → place.runs ≡ other.runs
    → place ≡ other
one_place place other ats bits runs = grind arith

-- the texts of long cursors differ
places : (place other : LongCursorValue) → IsLongCursor place → IsLongCursor other
    → long_cursor_text place ≡ long_cursor_text other
    → place ≡ other
places place other is is_too e = grind (arith, text_by_numbers, before_colon, one_place, one_runs)

apart : (at : Cursor) (place : LongCursorValue) → cursor_text at ≡ long_cursor_text place → ⊥
apart at place e = let first : ◌≡◌ {A = ℕ} 49 50 = ap (λ (l : List ℕ). get_or l 0 0) e in omega arith

pub texts_name_one : TextsNameOne
texts_name_one = record { cursors = cursors; places = places; apart = apart }
