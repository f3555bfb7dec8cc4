-- A cursor's text is cut at its colons, and its numbers are read.
use Rattle.std.proofs.Common.{◌≡◌, ◌≢◌, ℕ, ◌^◌, ◌<◌, List, [], ◌∷◌, ◌++◌, length, get_or, Result, ◌∙◌, append_assoc}
use Rattle.std.proofs.Common.{arith}
use Rattle.std.specs.Prelude.{Option, MatchOption, OnErr, decimal}
use Rattle.std.specs.Borrow.{Bor}
use Rattle.std.specs.Str.Parse.{AllDigits, digits_value}
use Rattle.std.proofs.lemmas.Fmt.{digits_decimal}
use Rattle.std.proofs.lemmas.Str.Parse.{IsNumeralModel, numerals_by_value, tells_digits, not_in_digits}
use Rattle.std.proofs.lemmas.Str.Pattern.{IsSplitOnceResult, split_after}
use Rattle.fax_walk.specs.declared.cursor.Cursor.{Cursor}
use Rattle.fax_walk.specs.Pages.{cursor_text, IsCursor}

-- what holds in any case holds where there is an error
pub held_on_err : {T E : Type 0} (r : Result T E) (P : Type 0) → P → OnErr r P
held_on_err r P h = grind arith

pub numerals : IsNumeralModel (AllDigits 10) (digits_value 10)
numerals = numerals_by_value _ tells_digits

-- the decimals of a number have no colon
pub no_colon : (n : ℕ) → n < 2 ^ 32 → (i : ℕ) → i < length (decimal n) → get_or (decimal n) i 0 ≢ 58
no_colon n small = not_in_digits numerals (decimal n) 58 (digits_decimal numerals n (omega arith)) (λ h. omega arith)

abbrev version : List ℕ
version = 49 ∷ []

version_has_no_colon : (i : ℕ) → i < length version → get_or version i 0 ≢ 58
version_has_no_colon i within = grind arith

-- the text after the first colon of a cursor's
pub after_version : (text : List ℕ) (at : Cursor) (r : Option (Bor (List ℕ) × Bor (List ℕ)))
    → IsSplitOnceResult 58 text r
    → text ≡ cursor_text at → MatchOption r ⊥ (λ x. (x.0.now ≡ version)
    × (x.1.now ≡ (decimal at.page ++ 58 ∷ []) ++ decimal at.row))
after_version text at r cut is = split_after 58 text version _ r cut (omega arith) is version_has_no_colon

-- the two numbers of a cursor's text
pub page_and_row : (place : List ℕ) (at : Cursor) (r : Option (Bor (List ℕ) × Bor (List ℕ)))
    → IsSplitOnceResult 58 place r
    → IsCursor at → place ≡ (decimal at.page ++ 58 ∷ []) ++ decimal at.row
    → MatchOption r ⊥ (λ x. (x.0.now ≡ decimal at.page) × (x.1.now ≡ decimal at.row))
page_and_row place at r cut limits is =
    split_after 58 place (decimal at.page) (decimal at.row) r cut (omega arith)
    (is ∙ append_assoc (decimal at.page) (58 ∷ []) (decimal at.row))
    (no_colon at.page limits.page)
