-- What clap's rules are of items, and what it finds by a name.
use Rattle.std.proofs.Common.{◌≡◌, ◌∙◌, ◌&&◌, ap, arith, refl, sym, Bool, ℕ, List, [], ◌∷◌, Some, is_some, map}
use Rattle.std.proofs.Math.Bool.{or-false}
use Rattle.clap.proofs.WalkLemmas.{find-map}
use Rattle.std.specs.Prelude.{find, not, option_map}
use Rattle.std.specs.Str.{bytes_eq}
use Rattle.clap.specs.Walk.{Rule, arg_by_long, arg_by_short, has_long as rule_has_long, has_short}
use Rattle.clap.specs.Simple.{filled, with_index, new_rule}
use Rattle.std.specs.List.{slice_index_or}
use Rattle.fax_tool.specs.code.CommandLine.{file_rule, flag_rule, number_rule, text_rule}
use Rattle.fax_tool.specs.Grammar.{Item, Text, commands, file, flag, letter, name_of, number, text}
use Rattle.fax_tool.specs.code.Scan.{has_letter, has_long}

abbrev pub letter_rule : ℕ → Rule
letter_rule x = record (new_rule (x ∷ [])) { short = Some x }

-- the rule that an item is, when the command is built
abbrev pub rule_of : Item → Rule
rule_of (text name) = filled (text_rule name)
rule_of (number name most) = filled (number_rule name most)
rule_of (letter x) = filled (letter_rule x)
rule_of (flag name) = filled (flag_rule name)
rule_of file = with_index 1 (filled file_rule)

abbrev pub rules_of : List Item → List Rule
rules_of = map rule_of

abbrev pub items_at : ℕ → List Item
items_at i = (slice_index_or commands i ([], [])).1

long_test : (name : Text) (item : Item) → (not (is_some (rule_of item).index) && rule_has_long (rule_of item) name)
    ≡ has_long name item
long_test name (letter x) = refl
long_test name file = refl
long_test name item = or-false (bytes_eq (name_of item) name)

letter_test : (x : ℕ) (item : Item) → (not (is_some (rule_of item).index) && has_short (rule_of item) x)
    ≡ has_letter x item
letter_test x item = grind arith

-- a find of rules is one of items, where the tests agree
find_rule : (test : Rule → Bool) (own : Item → Bool) → ((item : Item) → test (rule_of item) ≡ own item)
    → (items : List Item)
    → find test (rules_of items) ≡ option_map rule_of (find own items)
find_rule test own same items =
    sym (find-map test rule_of items) ∙ ap (λ p. option_map rule_of (find p items)) (λ i item. same item i)

pub by_long : (items : List Item) (name : Text) → arg_by_long (rules_of items) name
    ≡ option_map rule_of (find (has_long name) items)
by_long items name = find_rule _ (has_long name) (long_test name) items

pub by_short : (items : List Item) (x : ℕ) → arg_by_short (rules_of items) x
    ≡ option_map rule_of (find (has_letter x) items)
by_short items x = find_rule _ (has_letter x) (letter_test x) items
