-- The words of a command are read as its uses.
use Rattle.std.proofs.Common.{arith, ◌≡◌, ◌∙◌, ◌==◌, ◌++◌, ap, codes, inl, inr, refl, subst, sym, Bool, true, false, ℕ}
use Rattle.std.proofs.Common.{List, [], ◌∷◌, Option, Some, None}
use Rattle.std.specs.Prelude.{option_and_then}
use Rattle.std.specs.List.{Contains}
use Rattle.std.specs.Str.{chars}
use Rattle.std.proofs.lemmas.Bool.Decides.{nat_tests}
use Rattle.std.proofs.lemmas.List.Folds.{list_any-append}
use Rattle.std.proofs.Math.Bool.{or-true}
use Rattle.clap.specs.Walk.{Row, Rule, arg_by_id, arg_by_index, attached_value, has_row}
use Rattle.fax_tool.specs.Grammar.{AreSpelled, IsPlain, IsSpelled, Item, Text, Use, file, flag}
use Rattle.fax_tool.specs.Grammar.{letter, name_of, number, text}
use Rattle.fax_tool.specs.code.Scan.{use_of}
use Rattle.fax_tool.proofs.clap.Flat.{place, read, rule_said, said, says, waits}
use Rattle.fax_tool.proofs.clap.FlatLemmas.{and_then_at}
use Rattle.fax_tool.proofs.RuleLemmas.{rule_of, rules_of}
use Rattle.fax_tool.proofs.UseLemmas.{IsItem, enter, flag_used, leaf, option_used, row_of}

-- a word that is no option goes to a place
plain_said : (c : List Rule) (word : Text) → IsPlain word → said c false word ≡ place
unfolding chars
plain_said c [] plain = refl
plain_said c (x ∷ xs) plain = go (x == 45) refl plain
  where
    go : (b : Bool) → (x == 45) ≡ b → IsPlain (x ∷ xs) → said c false (x ∷ xs) ≡ place
    go true same (inl other) = let is : x ≡ 45 = grind (arith, nat_tests) in absurd (other (ap Some is))
    go true same (inr alone) = subst (λ word. said c false word ≡ place) (sym alone) refl
    go false other plain = simp other

-- what the words of an item say
abbrev pub IsRead : List Rule → Item → Type 0
IsRead c (text name) =
    ((value : Text) → said c false (codes "--" ++ name ++ codes "=" ++ value) ≡ says (rule_of (text name)) (value ∷ []))
    × (said c false (codes "--" ++ name) ≡ waits (rule_of (text name)))
IsRead c (number name most) =
    ((value : Text) → said c false (codes "--" ++ name ++ codes "=" ++ value)
    ≡ says (rule_of (number name most)) (value ∷ []))
    × (said c false (codes "--" ++ name) ≡ waits (rule_of (number name most)))
IsRead c (letter x) =
    ((value : Text) → said c false (codes "-" ++ x ∷ codes "=" ++ value) ≡ says (rule_of (letter x)) (value ∷ []))
    × ((value : Text) → attached_value value ≡ Some value → said c false (codes "-" ++ x ∷ value)
    ≡ says (rule_of (letter x)) (value ∷ []))
    × (said c false (codes "-" ++ x ∷ []) ≡ waits (rule_of (letter x)))
IsRead c (flag name) = said c false (codes "--" ++ name) ≡ says (rule_of (flag name)) []
IsRead c file = Unit {0}

-- what is known of an item: its rule is found by its name, and how it is read
abbrev pub IsKnown : List Rule → Item → Type 0
IsKnown c item = (arg_by_id c (name_of item) ≡ Some (rule_of item)) × IsRead c item × IsItem item

-- the place of the next word for one, and after an item
abbrev pub place_of : Bool → ℕ
place_of false = 1
place_of true = 2

abbrev is_filed : Item → Bool → Bool
is_filed file filed = true
is_filed item filed = filed

-- the file's place is filled only where there is a row of it
abbrev IsFiled : Bool → List Row → Type 0
IsFiled false rows = Unit {0}
IsFiled true rows = has_row (codes "FILE") rows ≡ true

filed_more : (u : Use) (filed : Bool) (rows : List Row) → IsFiled filed rows
    → IsFiled (is_filed u.item filed) (rows ++ row_of u ∷ [])
filed_more u filed rows is = grind (arith, list_any-append, or-true)

filed_after : (u : Use) (filed : Bool) (rows r : List Row) → IsFiled filed rows → enter rows u ≡ Some r
    → IsFiled (is_filed u.item filed) r
filed_after u filed rows r is entered = grind (arith, filed_more)

-- the rows after some uses
abbrev pub entered : List Row → List Use → Option (List Row)
entered rows [] = Some rows
entered rows (u ∷ us) = option_and_then (λ r. entered r us) (enter rows u)

module _ (name : Text) (items : List Item) (first : arg_by_index (rules_of items) 1 ≡ Some (rule_of file))
    (second : arg_by_index (rules_of items) 2 ≡ None)
    (known : (item : Item) → Contains items item → IsKnown (rules_of items) item) where
  abbrev reads : List Text → Bool → List Row → Option (List Row)
  reads words filed rows = read (leaf name items) words false None (place_of filed) rows

  spelled_use : (item : Item) (value : Text) (own others : List Text) (filed : Bool) (rows : List Row)
      → IsFiled filed rows → IsRead (rules_of items) item → IsItem item → IsSpelled item value own
      → reads (own ++ others) filed rows ≡ option_and_then (reads others (is_filed item filed))
      (enter rows (use_of item value))
  spelled_use (text n) value own others filed rows is reads fits (inl spells) =
      rw (spells, reads.0 value, option_used name items (text n) value rows fits refl) refl
  spelled_use (text n) value own others filed rows is reads fits (inr (spells, plain)) =
      let used = option_used name items (text n) value rows fits refl in
      rw (spells, reads.1, plain_said (rules_of items) value plain, used)
  spelled_use (number n most) value own others filed rows is reads fits (inl spells, digits) =
      rw (spells, reads.0 value, option_used name items (number n most) value rows fits refl) refl
  spelled_use (number n most) value own others filed rows is reads fits (inr (spells, plain), digits) =
      let used = option_used name items (number n most) value rows fits refl in
      rw (spells, reads.1, plain_said (rules_of items) value plain, used)
  spelled_use (letter x) value own others filed rows is reads fits (inl (inl spells)) =
      rw (spells, reads.0 value, option_used name items (letter x) value rows fits refl) refl
  spelled_use (letter x) value own others filed rows is reads fits (inl (inr (spells, plain))) =
      let used = option_used name items (letter x) value rows fits refl in
      rw (spells, reads.2, plain_said (rules_of items) value plain, used)
  spelled_use (letter x) value own others filed rows is reads fits (inr (spells, some, no_equals)) =
      let attached : attached_value value ≡ Some value = grind arith in
      rw (spells, reads.1 value attached, option_used name items (letter x) value rows fits refl) refl
  spelled_use (flag n) value own others filed rows is reads fits (spells, true_is) =
      rw (spells, true_is, reads, flag_used name items n rows) refl
  spelled_use file value own others false rows is reads fits (spells, plain) =
      rw (spells, plain_said (rules_of items) value plain, first, option_used name items file value rows fits refl) refl
  spelled_use file value own others true rows is reads fits (spells, plain) =
      rw (spells, plain_said (rules_of items) value plain, second, is) refl

  pub spelled : (uses : List Use) (words : List Text) (filed : Bool) (rows : List Row) → IsFiled filed rows
      → AreSpelled items uses words → reads words filed rows ≡ entered rows uses
  spelled [] words filed rows is (inl none) = rw none refl
  spelled [] words filed rows is (inr ends) = rw ends refl
  spelled (u ∷ us) words filed rows is (inl (own, others, split, among, spells, more)) =
      rw split (spelled_use u.item u.value own others filed rows is (known u.item among).1 (known u.item among).2 spells
      ∙ and_then_at (enter rows u) _ _ (λ r into. spelled us others (is_filed u.item filed) r
      (filed_after u filed rows r is into) more))
  spelled (u ∷ us) words false rows is (inr (as_file, none, ends)) =
      rw (none, ends, first, as_file, option_used name items file u.value rows tt refl) refl
  spelled (u ∷ us) words true rows is (inr (as_file, none, ends)) = rw (none, ends, second, as_file, is) refl

pub letter_read : (items : List Item) (x : ℕ) →
    ((b : ℕ) (bs : Text) → said (rules_of items) false (codes "-" ++ x ∷ b ∷ bs)
    ≡ rule_said (Some (rule_of (letter x))) (attached_value (b ∷ bs)))
    → (value : Text) → attached_value value ≡ Some value
    → said (rules_of items) false (codes "-" ++ x ∷ value) ≡ says (rule_of (letter x)) (value ∷ [])
letter_read items x of [] is = cc
letter_read items x of (b ∷ bs) is = of b bs ∙ ap (rule_said (Some (rule_of (letter x)))) is
