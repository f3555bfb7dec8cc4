-- What getters read of the entries of a number and of a flag.
use Rattle.std.proofs.Common.{◌≡◌, ◌∙◌, ◌<◌, ◌≤◌, ◌^◌, ap, arith, codes, sym, refl, Bool, true, false, ℕ, List, Option}
use Rattle.std.proofs.Common.{Some, None, Result}
use Rattle.std.specs.Prelude.{option_map, unwrap_or}
use Rattle.std.specs.Str.Parse.{ExplainsUnsignedError, HasUnsignedDigitsIfOk, ParsesUnsigned, digits_value}
use Rattle.std.specs.Str.Parse.{without_leading_plus}
use Rattle.std.specs.declared.num.ParseIntError.{ParseIntError}
use Rattle.clap.specs.Matches.{ReadsOne, one_text}
use Rattle.clap.specs.Walk.{Row, Text, first_of, rows_of}
use Rattle.clap.specs.declared.parser.matches.Found.{Found}
use Rattle.clap.proofs.WalkLemmas.{one_text-rows}
use Rattle.fax_tool.specs.code.CommandEntries.{HasFlag, HasNumber, given_by}
use Rattle.fax_tool.specs.Grammar.{IsNumberText}
use Rattle.fax_tool.specs.Job.{is_set, number_in}

-- what a getter of numbers of 32 bits may answer of a text
abbrev Parses : Text → Result ℕ ParseIntError → Type 0
Parses text answer = ParsesUnsigned 32 10 text answer × ExplainsUnsignedError 10 text answer
    × HasUnsignedDigitsIfOk text answer

-- what it reads of a number
pub u32_read : (f : Found) (name : Text) (most : ℕ) (r : Option ℕ) → HasNumber name most (rows_of f) → most < 2 ^ 32
    → (one_text f name ≡ None → r ≡ None) → ((t : Text) → one_text f name ≡ Some t → ReadsOne Parses t r)
    → r ≡ number_in name (given_by (rows_of f))
u32_read f name most r has fits none value = go (first_of name (rows_of f)) refl
  where
    read : one_text f name ≡ first_of name (rows_of f)
    read = one_text-rows f name ∙ has.read

    some : (t : Text) → IsNumberText most t → (o : Option ℕ) → ReadsOne Parses t o
        → o ≡ Some (digits_value 10 (without_leading_plus t))
    some t is (Some n) h = ap Some h.0.1
    some t is None h = absurd (h.1.0 (is.digits, (let within = is.within in omega arith)))

    go : (o : Option Text) → first_of name (rows_of f) ≡ o → r ≡ number_in name (given_by (rows_of f))
    go None is = none (read ∙ is) ∙ sym (ap (option_map (λ t. digits_value 10 (without_leading_plus t))) is)
    go (Some t) is = some t (has.is t is) r (value t (read ∙ is))
        ∙ sym (ap (option_map (λ t. digits_value 10 (without_leading_plus t))) is)

-- the number of such an entry is in its range
pub in_range : (name : Text) (most : ℕ) (entries : List Row) → HasNumber name most entries → (n : ℕ)
    → number_in name (given_by entries) ≡ Some n
    → (0 < n) × (n ≤ most)
in_range name most entries has n is = grind arith

-- and so is the usual one
pub in_range_or : (name : Text) (most usual : ℕ) (entries : List Row) → HasNumber name most entries → 0 < usual
    → usual ≤ most
    → (0 < unwrap_or (number_in name (given_by entries)) usual)
    × (unwrap_or (number_in name (given_by entries)) usual ≤ most)
in_range_or name most usual entries has some within = grind arith

-- what a getter reads of a flag
pub flag_read : (f : Found) (name : Text) (r : Bool) → HasFlag name (rows_of f)
    → (one_text f name ≡ None → r ≡ false) → (one_text f name ≡ Some (codes "true") → r ≡ true)
    → (one_text f name ≡ Some (codes "false") → r ≡ false) → r ≡ is_set name (given_by (rows_of f))
flag_read f name r has none set unset = grind (arith, one_text-rows)
