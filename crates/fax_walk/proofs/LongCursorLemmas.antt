-- A long cursor's text is cut at its colons and commas, and its numbers are read.
use Rattle.std.proofs.lemmas.Grind.{common_steps}
use Rattle.std.proofs.Common.{◌≡◌, ◌≢◌, ℕ, ◌^◌, ◌<◌, ◌-◌, List, [], ◌∷◌, ◌++◌, length, get_or, ap, sym, ◌∙◌}
use Rattle.std.proofs.Common.{append_assoc}
use Rattle.std.proofs.Common.{length-append, Result, Ok, Err, arith}
use Rattle.std.specs.Prelude.{OnOk, Some, None, decimal, flat_map, ⊤}
use Rattle.std.specs.Borrow.{Bor}
use Rattle.std.specs.List.{All}
use Rattle.std.proofs.lemmas.Fmt.{digits_decimal, decimal_injective, decimal_digit}
use Rattle.std.proofs.lemmas.List.{append-nil}
use Rattle.std.proofs.lemmas.List.Elements.{All-head, All-tail}
use Rattle.std.proofs.Math.Seq.{get_or-append_right}
use Rattle.std.proofs.lemmas.Str.Parse.{not_in_digits}
use Rattle.std.proofs.lemmas.Str.Pattern.{IsSplitOnceResult, split_after, split_parts}
use Rattle.fax_walk.specs.Pages.{LongCursorValue, runs_text, long_cursor_text}
use Rattle.fax_walk.specs.code.LongText.{and_run, number_and, IsNumberCut}
use Rattle.fax_walk.proofs.CursorLemmas.{numerals, no_colon}

-- the decimals of a number have no comma
pub no_comma : (n : ℕ) → n < 2 ^ 32 → (i : ℕ) → i < length (decimal n) → get_or (decimal n) i 0 ≢ 44
no_comma n small = not_in_digits numerals (decimal n) 44 (digits_decimal numerals n (omega arith)) (λ h. omega arith)

-- a run and a comma
abbrev pub run_and : ℕ → List ℕ
run_and run = decimal run ++ 44 ∷ []

-- runs after the first one, and in front of the last
after_first : (runs : List ℕ) (last : ℕ) → flat_map and_run (runs ++ last ∷ [])
    ≡ 44 ∷ (flat_map run_and runs ++ decimal last)
after_first [] last = append-nil (44 ∷ decimal last)
after_first (run ∷ runs) last = grind (arith, common_steps, after_first runs last)

pub runs_text-push : (runs : List ℕ) (last : ℕ) → runs_text (runs ++ last ∷ []) ≡ flat_map run_and runs ++ decimal last
runs_text-push [] last = append-nil (decimal last)
runs_text-push (run ∷ runs) last = grind (arith, after_first, append_assoc)

more_cut : (runs : List ℕ) (run : ℕ) (rest : List ℕ)
    → flat_map run_and (runs ++ run ∷ []) ++ rest ≡ flat_map run_and runs ++ (decimal run ++ 44 ∷ rest)
more_cut [] run rest = grind (arith, append-nil, append_assoc)
more_cut (first ∷ runs) run rest = grind (arith, common_steps, append_assoc)

-- this is the text of some runs (this project's profile)
pub record IsRunsText (text : List ℕ) : Type 0 where
  pub runs : List ℕ
  pub short : All (λ run. run < 2 ^ 32) runs
  pub some : 0 < length runs
  pub text_is : text ≡ runs_text runs

-- the digits of a number (this project's profile)
pub record IsRunText (text : List ℕ) : Type 0 where
  pub run : ℕ
  pub short : run < 2 ^ 32
  pub text_is : text ≡ decimal run

-- These runs stand in front of the rest of a text, each with a comma after it; where the text is
-- that of some runs, so is the rest
pub record AreRunsCut (text runs rest : List ℕ) : Type 0 where
  pub parts : text ≡ flat_map run_and runs ++ rest
  pub others : IsRunsText text → IsRunsText rest

-- the text before a comma is a run's, and after it stand the others
before_comma : (rest : List ℕ) (run after : Bor (List ℕ)) → IsSplitOnceResult 44 rest (Some (run, after))
    → (runs : List ℕ) → All (λ n. n < 2 ^ 32) runs → 0 < length runs → rest ≡ runs_text runs
    → IsRunText run.now × IsRunsText after.now
before_comma rest run after cut [] short some is = absurd (omega arith)
before_comma rest run after cut (n ∷ []) short some is =
    let parts = split_parts 44 rest (Some (run, after)) cut (omega arith) in
    let whole : run.now ++ 44 ∷ after.now ≡ decimal n = sym parts.0 ∙ is ∙ append-nil (decimal n) in
    let small : n < 2 ^ 32 = All-head (λ k. k < 2 ^ 32) n [] short in
    let zero_more : length run.now - length run.now ≡ 0 = omega arith in
    let at : get_or (run.now ++ 44 ∷ after.now) (length run.now) 0 ≡ 44 =
    get_or-append_right run.now (44 ∷ after.now) (length run.now) 0 (omega arith)
    ∙ ap (λ i. get_or (44 ∷ after.now) i 0) zero_more in
    absurd
    (no_comma n small (length run.now)
    (omega (arith, ap (λ (s : List ℕ). length s) whole, length-append run.now (44 ∷ after.now)))
    (ap (λ s. get_or s (length run.now) 0) (sym whole) ∙ at))
before_comma rest run after cut (n ∷ m ∷ runs) short some is =
    let small : n < 2 ^ 32 = All-head (λ k. k < 2 ^ 32) n (m ∷ runs) short in
    let parts = split_after 44 rest (decimal n) (runs_text (m ∷ runs)) (Some (run, after)) cut (omega arith) is
    (no_comma n small) in (
      record { run = n; short = small; text_is = parts.0 },
      record {
        runs = m ∷ runs;
        short = All-tail (λ k. k < 2 ^ 32) n (m ∷ runs) short;
        some = omega arith;
        text_is = parts.1;
      },
    )

-- the text of runs without a comma is that of one
no_comma_left : (rest : List ℕ) → IsSplitOnceResult 44 rest None
    → (runs : List ℕ) → All (λ n. n < 2 ^ 32) runs → 0 < length runs → rest ≡ runs_text runs → IsRunText rest
no_comma_left rest cut [] short some is = absurd (omega arith)
no_comma_left rest cut (n ∷ []) short some is =
    record { run = n; short = All-head (λ k. k < 2 ^ 32) n [] short; text_is = is ∙ append-nil (decimal n) }
no_comma_left rest cut (n ∷ m ∷ runs) short some is =
    let small : n < 2 ^ 32 = All-head (λ k. k < 2 ^ 32) n (m ∷ runs) short in
    absurd (split_after 44 rest (decimal n) (runs_text (m ∷ runs)) None cut (omega arith) is (no_comma n small))

pub run_before : (rest : List ℕ) (run after : Bor (List ℕ)) → IsSplitOnceResult 44 rest (Some (run, after))
    → IsRunsText rest
    → IsRunText run.now × IsRunsText after.now
run_before rest run after cut is = before_comma rest run after cut is.runs is.short is.some is.text_is

pub run_left : (rest : List ℕ) → IsSplitOnceResult 44 rest None → IsRunsText rest → IsRunText rest
run_left rest cut is = no_comma_left rest cut is.runs is.short is.some is.text_is

-- one run more is cut
pub run_cut : (text runs rest : List ℕ) (run after : Bor (List ℕ)) (n : ℕ) → AreRunsCut text runs rest
    → IsSplitOnceResult 44 rest (Some (run, after)) → run.now ≡ decimal n → AreRunsCut text (runs ++ n ∷ []) after.now
run_cut text runs rest run after n so_far cut is = record {
  parts =
      so_far.parts ∙ ap (λ more. flat_map run_and runs ++ more) (parts.0 ∙ ap (λ digits. digits ++ 44 ∷ after.now) is)
      ∙ sym (more_cut runs n after.now);
  others = λ whole. (run_before rest run after cut (so_far.others whole)).1;
}
  where
    parts : (rest ≡ run.now ++ 44 ∷ after.now) × ((i : ℕ) → i < length run.now → get_or run.now i 0 ≢ 44)
    parts = split_parts 44 rest (Some (run, after)) cut (omega arith)

-- a text without a colon begins with no number and a colon
pub none_before_colon : (text : List ℕ) → IsSplitOnceResult 58 text None → IsNumberCut text None
none_before_colon text cut = λ number rest small is.
    split_after 58 text (decimal number) rest None cut (omega arith) is (no_colon number small)

-- nor does one where no number stands before the colon
pub no_number_before : (text : List ℕ) (digits after : Bor (List ℕ)) → IsSplitOnceResult 58 text (Some (digits, after))
    → ((number : ℕ) → number < 2 ^ 32 → digits.now ≢ decimal number) → IsNumberCut text None
no_number_before text digits after cut none = λ number rest small is.
    let parts = split_after 58 text (decimal number) rest (Some (digits, after)) cut (omega arith) is
    (no_colon number small) in
    none number small parts.0

-- the number before the first colon is the only one
pub number_before : (text : List ℕ) (digits after : Bor (List ℕ)) (n : ℕ)
    → IsSplitOnceResult 58 text (Some (digits, after))
    → n < 2 ^ 32 → digits.now ≡ decimal n → IsNumberCut text (Some (n, after))
number_before text digits after n cut small is = (
  (split_parts 58 text (Some (digits, after)) cut (omega arith)).0 ∙ ap (λ d. d ++ 58 ∷ after.now) is,
  λ number rest short text_is.
      let parts = split_after 58 text (decimal number) rest (Some (digits, after)) cut (omega arith) text_is
      (no_colon number short) in
      (decimal_injective number n (omega arith) (omega arith) (sym parts.0 ∙ is), sym parts.1),
)

-- the version's number
two : decimal 2 ≡ 50 ∷ []
two = decimal_digit 2 (omega arith)

-- a long cursor's text, number by number
pub text_by_numbers : (place : LongCursorValue)
    → long_cursor_text place ≡ number_and 2 (number_and place.at.page
    (number_and place.at.row (number_and place.bits (runs_text place.runs))))
text_by_numbers place = rw two (simp append_assoc)

-- a text of these numbers is a long cursor's
pub is_long_text : (text after_version after_page after_row after_bits : List ℕ) (version : ℕ) (place : LongCursorValue)
    → text ≡ number_and version after_version → version ≡ 2 → after_version ≡ number_and place.at.page after_page
    → after_page ≡ number_and place.at.row after_row → after_row ≡ number_and place.bits after_bits
    → after_bits ≡ runs_text place.runs → text ≡ long_cursor_text place
is_long_text text after_version after_page after_row after_bits version place whole two page row bits runs =
    grind (arith, text_by_numbers)

-- the parts of a long cursor's text, put one after another
pub put_one_after_another : {E : Type 0} (answer : Result ⊤ E) (old t₁ t₂ t₃ t₄ t₅ t₆ t₇ t₈ new : List ℕ)
    (place : LongCursorValue)
    → t₁ ≡ old ++ decimal 2 → t₂ ≡ t₁ ++ 58 ∷ [] → t₃ ≡ t₂ ++ decimal place.at.page → t₄ ≡ t₃ ++ 58 ∷ []
    → t₅ ≡ t₄ ++ decimal place.at.row → t₆ ≡ t₅ ++ 58 ∷ [] → t₇ ≡ t₆ ++ decimal place.bits → t₈ ≡ t₇ ++ 58 ∷ []
    → OnOk answer (new ≡ t₈ ++ runs_text place.runs) → OnOk answer (new ≡ old ++ long_cursor_text place)
put_one_after_another (Err fault) old t₁ t₂ t₃ t₄ t₅ t₆ t₇ t₈ new place e₁ e₂ e₃ e₄ e₅ e₆ e₇ e₈ put = tt
put_one_after_another (Ok done) old t₁ t₂ t₃ t₄ t₅ t₆ t₇ t₈ new place e₁ e₂ e₃ e₄ e₅ e₆ e₇ e₈ put =
    rw (put, e₈, e₇, e₆, e₅, e₄, e₃, e₂, e₁, text_by_numbers place) (simp append_assoc)
