-- What one use of an item does to the rows of a parse.
use Rattle.std.proofs.Common.{◌≡◌, ◌<◌, ◌^◌, ◌&&◌, ◌++◌, arith, cond, refl, Bool, true, false, ℕ, append-nil, pos, List}
use Rattle.std.proofs.Common.{[], ◌∷◌, Option}
use Rattle.std.proofs.Common.{Some, None, codes, length}
use Rattle.std.specs.Prelude.{encode_utf8, not, nat_le, nat_lt}
use Rattle.clap.specs.Kinds.{Kinds, or_else}
use Rattle.clap.specs.ValueTests.{accepts}
use Rattle.clap.specs.Walk.{Row, Text, at_row, has_row, reading_by, with_values, without}
use Rattle.clap.specs.Simple.{Shape, new_shape}
use Rattle.clap.specs.declared.builder.value_parser.Reading.{Reading}
use Rattle.clap.specs.declared.builder.value_parser.ValueParser.TheVariants as parser
use Rattle.clap.specs.declared.error.kind.ErrorKind.{ErrorKind}
use Rattle.clap.specs.declared.error.kind.ErrorKind.TheVariants as kind
use Rattle.clap.specs.declared.parser.matches.ValueSource.TheVariants.{CommandLine}
use Rattle.fax_tool.specs.Grammar.{Item, Use, flag, letter, name_of, number}
use Rattle.fax_tool.specs.code.Scan.{is_number, is_taken, use_of}
use Rattle.fax_tool.proofs.RuleLemmas.{rule_of, rules_of}
use Rattle.fax_tool.proofs.clap.Flat.{guard, taken}

abbrev pub row_with : Text → Reading → Text → Row
row_with id how value = record { id = id; values = value ∷ []; count = None; source = Some CommandLine; reading = how }

abbrev pub row_of : Use → Row
row_of given = row_with (name_of given.item) (reading_by (rule_of given.item)) given.value

-- the rows after a use, unless its item was used, or does not take its text
abbrev pub enter : List Row → Use → Option (List Row)
enter rows given =
    cond (not (has_row (name_of given.item) rows) && is_taken given) (Some (rows ++ row_of given ∷ [])) None

pub at_end : (id : Text) (change : Row → List Row) (missing rows : List Row) → has_row id rows ≡ false
    → at_row id change missing rows ≡ rows ++ missing
at_end id change missing [] none = refl
at_end id change missing (r ∷ rs) none = grind (arith, at_end id change missing rs)

fresh : (id : Text) (how : Reading) (value : Text) (rows : List Row) → has_row id rows ≡ false
    → with_values id how CommandLine (value ∷ []) (without id rows) ≡ rows ++ row_with id how value ∷ []
fresh id how value rows none = grind (arith, at_end, append-nil)

-- a first use of an id, with a value that passes or not
set_step : (id : Text) (how : Reading) (value : Text) (kinds : Kinds) (ok : Bool) (k : ErrorKind) (rows : List Row)
    → ((r : Option (List Row)) → guard kinds r ≡ cond ok r None)
    → guard (or_else (cond (has_row id rows && true) (k ∷ []) []) kinds)
    (Some (with_values id how CommandLine (value ∷ []) (without id rows)))
    ≡ cond (not (has_row id rows) && ok) (Some (rows ++ row_with id how value ∷ [])) None
set_step id how value kinds ok k rows passes = grind (arith, fresh)

-- what is to be known of an item
abbrev pub IsItem : Item → Type 0
IsItem (number name most) = most < 2 ^ 63
IsItem (letter x) = (length (encode_utf8 x) ≡ 1) × (x < 128)
IsItem item = Unit {0}

both_fit : (num low : Bool) (n most : ℕ) → most < 2 ^ 63
    → (num && (nat_lt n (2 ^ 63) && (low && nat_le n most))) ≡ (num && (low && nat_le n most))
both_fit num low n most fits = grind arith

number_test : (most : ℕ) (value : Text) → most < 2 ^ 63
    → accepts false (parser.Signed (pos 1) (pos most)) value ≡ is_number most value
number_test most value fits = grind (arith, both_fit)

abbrev pub is_option : Item → Bool
is_option (flag name) = false
is_option item = true

-- a built command of these items
abbrev pub leaf : Text → List Item → Shape
leaf name items = record (new_shape name)
    { rules = rules_of items; disable_help_flag = true; disable_help_subcommand = true; is_built = true }

-- a use with a value
pub option_used : (name : Text) (items : List Item) (item : Item) (value : Text) (rows : List Row) → IsItem item
    → is_option item ≡ true
    → taken (leaf name items) (rule_of item) (value ∷ []) rows ≡ enter rows (use_of item value)
option_used name items item value rows fits is = grind (arith, set_step, number_test)

-- a use of a flag
pub flag_used : (name : Text) (items : List Item) (own : Text) (rows : List Row)
    → taken (leaf name items) (rule_of (flag own)) [] rows ≡ enter rows (use_of (flag own) (codes "true"))
flag_used name items own rows =
    set_step own (reading_by (rule_of (flag own))) (codes "true") _ true kind.ArgumentConflict rows (λ r. refl)
