-- Numbers in a PBM's header: a number that is read is one, and each number is read to its end.
use Rattle.std.proofs.Common.{◌≡◌, ◌≢◌, ℕ, ◌+◌, ◌-◌, ◌*◌, true, false, ◌&&◌, List, [], ◌∷◌, ◌++◌, refl, sym, ap, ◌∙◌}
use Rattle.std.proofs.Common.{arith}
use Rattle.std.specs.Prelude.{fold, if◌then◌else◌}
use Rattle.std.specs.List.{list_all}
use Rattle.std.proofs.lemmas.Bool.{and_parts, false≢true, both_ways}
use Rattle.fax_files.specs.Pbm.{SpellsNumber}
use Rattle.fax_files.specs.code.Pbm.{is_digit, spelled_number, capped, capped_from, after_digits, has_digit}

abbrev with_digit : ℕ → ℕ → ℕ
with_digit number digit = 10 * number + (digit - 48)

capped_step : (n d : ℕ) → capped (10 * capped n + d) ≡ capped (10 * n + d)
capped_step n d = omega arith

-- the digits ahead, where this number is spelled so far
record HasDigits (n : ℕ) (bytes : List ℕ) : Type 0 where
  digits : List ℕ
  some : has_digit bytes ≡ true → digits ≢ []
  all : list_all is_digit digits ≡ true
  is : bytes ≡ digits ++ after_digits bytes
  number : capped_from (capped n) bytes ≡ capped (fold with_digit n digits)

digits_read : (n : ℕ) (bytes : List ℕ) → HasDigits n bytes
digits_read n [] = record { digits = []; some = λ h. absurd (false≢true h); all = refl; is = refl; number = refl }
digits_read n (c ∷ bytes) =
    elim (is_digit c) as (λ v. is_digit c ≡ v → HasDigits n (c ∷ bytes)) [
      | true ↦ λ digit.
          let more = digits_read (with_digit n c) bytes in
          record {
            digits = c ∷ more.digits;
            some = λ h e. cc;
            all = ap (λ v. v && list_all is_digit more.digits) digit ∙ more.all;
            is =
                ap (λ (l : List ℕ). c ∷ l) more.is
                ∙ ap (λ v. (c ∷ more.digits) ++ (if v then (after_digits bytes) else (c ∷ bytes))) (sym digit);
            number =
                ap (λ v. if v then (capped_from (capped (10 * capped n + (c - 48))) bytes) else (capped n)) digit
                ∙ ap (λ m. capped_from m bytes) (capped_step n (c - 48))
                ∙ more.number;
          }
      | false ↦ λ other. record {
        digits = [];
        some = λ h. absurd (both_ways (is_digit c) other h);
        all = refl;
        is = ap (λ v. if v then (after_digits bytes) else (c ∷ bytes)) (sym other);
        number = ap (λ v. if v then (capped_from (capped (10 * capped n + (c - 48))) bytes) else (capped n)) other;
      }
    ] refl

-- a number that is read is one
pub record HasNumber (bytes : List ℕ) : Type 0 where
  pub digits : List ℕ
  pub number : ℕ
  pub spelled : SpellsNumber digits number
  pub is : bytes ≡ digits ++ after_digits bytes
  pub read : capped_from 0 bytes ≡ capped number

pub number_is_read : (bytes : List ℕ) → has_digit bytes ≡ true → HasNumber bytes
number_is_read bytes digit =
    let has = digits_read 0 bytes in
    record {
      digits = has.digits;
      number = spelled_number has.digits;
      spelled = (has.some digit, has.all, refl);
      is = has.is;
      read = has.number;
    }

-- digits are read to their end
stops : (n : ℕ) (after : List ℕ) → has_digit after ≡ false → capped_from n after ≡ n
stops n after none = grind arith

stays : (after : List ℕ) → has_digit after ≡ false → after_digits after ≡ after
stays after none = grind arith

pub digits_passed : (digits after : List ℕ) → list_all is_digit digits ≡ true → has_digit after ≡ false
    → after_digits (digits ++ after) ≡ after
digits_passed [] after all none = stays after none
digits_passed (c ∷ digits) after all none =
    let parts = and_parts (is_digit c) (list_all is_digit digits) all in
    ap (λ v. if v then (after_digits (digits ++ after)) else (c ∷ digits ++ after)) parts.0
    ∙ digits_passed digits after parts.1 none

number_from : (n : ℕ) (digits after : List ℕ) → list_all is_digit digits ≡ true → has_digit after ≡ false
    → capped_from (capped n) (digits ++ after) ≡ capped (fold with_digit n digits)
number_from n [] after all none = stops (capped n) after none
number_from n (c ∷ digits) after all none =
    let parts = and_parts (is_digit c) (list_all is_digit digits) all in
    ap (λ v. if v then (capped_from (capped (10 * capped n + (c - 48))) (digits ++ after)) else (capped n)) parts.0
    ∙ ap (λ m. capped_from m (digits ++ after)) (capped_step n (c - 48))
    ∙ number_from (with_digit n c) digits after parts.1 none

-- each number is read
pub number_passed : (digits : List ℕ) (n : ℕ) (after : List ℕ) → SpellsNumber digits n → has_digit after ≡ false
    → capped_from 0 (digits ++ after) ≡ capped n
number_passed digits n after is none = number_from 0 digits after is.1 none ∙ ap capped (sym is.2)

pub number_begins : (digits : List ℕ) (n : ℕ) (after : List ℕ) → SpellsNumber digits n
    → has_digit (digits ++ after) ≡ true
number_begins [] n after is = absurd (is.0 refl)
number_begins (c ∷ digits) n after is = (and_parts (is_digit c) (list_all is_digit digits) is.1).0
