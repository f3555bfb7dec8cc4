-- What the entries of a command are, of the uses that its words spell.
use Rattle.std.proofs.Common.{◌≡◌, ◌==◌, ◌||◌, ◌⊎◌, ◌++◌, arith, cond, codes, inl, inr, refl, sym, subst, Bool, true}
use Rattle.std.proofs.Common.{false, ℕ}
use Rattle.std.proofs.Common.{List, [], ◌∷◌, Option, Some, None, map}
use Rattle.std.specs.Prelude.{find, not, option_and_then, slice_get}
use Rattle.std.specs.List.{All, fold, list_all}
use Rattle.std.specs.Option.{ForSome}
use Rattle.std.specs.Str.{bytes_eq}
use Rattle.std.proofs.lemmas.List.Elements.{All-cons, All-contains, All-from_recursion, All-head, All-nil, All-tail}
use Rattle.clap.specs.Values.{read_as}
use Rattle.clap.specs.Walk.{Row, first_of, has_row, row_text, with_default}
use Rattle.clap.proofs.OnLiterals.{clap_on_literals}
use Rattle.fax_files.specs.Page.{most_rows}
use Rattle.clap.proofs.WalkLemmas.{both}
use Rattle.std.proofs.Math.Bool.{or-false}
use Rattle.fax_tool.specs.Grammar.{AreSpelled, IsNumberText, IsSpelled, Item, Text, Use, commands, flag, most_lines}
use Rattle.fax_tool.specs.Grammar.{name_of, number, form_items}
use Rattle.fax_tool.specs.code.CommandEntries.{HasEntries, HasFlag, HasNumber, HasOptions}
use Rattle.fax_tool.proofs.RuleLemmas.{items_at, rule_of, rules_of}
use Rattle.fax_tool.proofs.UseLemmas.{row_of}
use Rattle.fax_tool.proofs.ParsedRowLemmas.{default_row, filled_rows, flag_default, is_flag, same_either}
use Rattle.fax_tool.proofs.WordReadLemmas.{IsReadAs}

module _ (name : Text) (holds : Text → Type 0) where
  -- this holds of the text of an item, as it is written and as it is left out, where it has the
  -- name
  abbrev Fits : Item → Type 0
  Fits item = bytes_eq (name_of item) name ≡ true
      → ((value : Text) (words : List Text) → IsSpelled item value words → holds value)
      × (is_flag name item ≡ true → holds (codes "false"))

  -- the text of a row is read as it is written, and this holds of it where the row has the name
  abbrev IsGood : Row → Type 0
  IsGood r = (value : Text) → slice_get r.values 0 ≡ Some value
      → (read_as r.reading value ≡ value) × (bytes_eq r.id name ≡ true → holds value)

  abbrev AreGood : List Row → Type 0
  AreGood [] = Unit {0}
  AreGood (r ∷ rs) = IsGood r × AreGood rs

  good : (r : Row) (value : Text) → r.values ≡ value ∷ [] → read_as r.reading value ≡ value
      → (bytes_eq r.id name ≡ true → holds value) → IsGood r
  good r value values_are as_written its = grind arith

  good_more : (rows : List Row) (r : Row) → AreGood rows → IsGood r → AreGood (rows ++ r ∷ [])
  good_more [] r all one = (one, tt)
  good_more (x ∷ xs) r all one = (all.0, good_more xs r all.1 one)

  -- the rows of uses
  good_uses : (items : List Item) → All Fits items → bytes_eq (codes "FILE") name ≡ false
      → (uses : List Use) (words : List Text) → AreSpelled items uses words → AreGood (map row_of uses)
  good_uses items fits no_file [] words are = tt
  good_uses items fits no_file (u ∷ us) words (inl (own, others, is, among, spelled, rest)) =
      grind (arith, good_uses items fits no_file us others rest)
  good_uses items fits no_file (u ∷ us) words (inr (file_is, none, is)) = grind (arith, rule_of)

  -- and those of what was left out
  good_default : (item : Item) → Fits item → (rows : List Row) → AreGood rows
      → AreGood (with_default rows (rule_of item))
  good_default (flag own) fits rows all = subst AreGood (sym (flag_default own rows)) (go (has_row own rows))
    where
      go : (b : Bool) → AreGood (cond b rows (rows ++ default_row own ∷ []))
      go true = all
      go false = good_more rows (default_row own) all (good (default_row own) (codes "false") refl refl
          (λ named. (fits named).1 named))
  good_default item fits rows all = subst AreGood (sym (same_either (has_row (name_of item) rows) rows)) all

  good_defaults : (items : List Item) → All Fits items → (rows : List Row) → AreGood rows
      → AreGood (fold with_default rows (rules_of items))
  good_defaults [] fits rows all = all
  good_defaults (item ∷ items) fits rows all =
      good_defaults items (All-tail Fits item items fits) (with_default rows (rule_of item))
      (good_default item (All-head Fits item items fits) rows all)

  -- the entry of the name is read as it is written, and this holds of it
  abbrev IsEntry : Option Row → Type 0
  IsEntry o = (option_and_then row_text o ≡ option_and_then (λ r. slice_get r.values 0) o)
      × ForSome (option_and_then (λ r. slice_get r.values 0) o) holds

  found : (rows : List Row) → AreGood rows → IsEntry (find (λ r. bytes_eq r.id name) rows)
  found [] all = (refl, λ t given. cc)
  found (r ∷ rs) all = grind (arith, found rs all.1)

  -- each item fits that is of a kind that fits, or has another name
  fitting : (is_kind : Item → Bool) → ((item : Item) → is_kind item ≡ true → Fits item) → (items : List Item)
      → list_all (λ item. is_kind item || not (bytes_eq (name_of item) name)) items ≡ true → All Fits items
  fitting is_kind fits [] all = All-nil Fits
  fitting is_kind fits (item ∷ items) all =
      let parts = both (is_kind item || not (bytes_eq (name_of item) name)) _ all in
      All-cons Fits item items (λ named. fits item (rw (named, or-false) at parts.0) named)
      (fitting is_kind fits items parts.1)

  entry_of : (is_kind : Item → Bool) → ((item : Item) → is_kind item ≡ true → Fits item) → (items : List Item)
      → list_all (λ item. is_kind item || not (bytes_eq (name_of item) name)) items ≡ true
      → bytes_eq (codes "FILE") name ≡ false → (uses : List Use) (words : List Text) → AreSpelled items uses words
      → IsEntry (find (λ r. bytes_eq r.id name) (filled_rows items uses))
  entry_of is_kind fits items kinds no_file uses words are = grind (arith, fitting, found, good_defaults, good_uses)

-- a number up to this
abbrev is_number_up_to : ℕ → Item → Bool
is_number_up_to most (number own m) = m == most
is_number_up_to most item = false

number_entry : (items : List Item) (name : Text) (most : ℕ)
    → list_all (λ item. is_number_up_to most item || not (bytes_eq (name_of item) name)) items ≡ true
    → bytes_eq (codes "FILE") name ≡ false → (uses : List Use) (words : List Text) → AreSpelled items uses words
    → HasNumber name most (filled_rows items uses)
number_entry items name most kinds no_file uses words are =
    let e = entry_of name (IsNumberText most) (is_number_up_to most) fits items kinds no_file uses words are in
    record { read = e.0; is = e.1 }
  where
    fits : (item : Item) → is_number_up_to most item ≡ true → Fits name (IsNumberText most) item
    fits item kind = grind arith

abbrev is_any_flag : Item → Bool
is_any_flag (flag own) = true
is_any_flag item = false

flag_entry : (items : List Item) (name : Text)
    → list_all (λ item. is_any_flag item || not (bytes_eq (name_of item) name)) items ≡ true
    → bytes_eq (codes "FILE") name ≡ false → (uses : List Use) (words : List Text) → AreSpelled items uses words
    → HasFlag name (filled_rows items uses)
flag_entry items name kinds no_file uses words are =
    let e = entry_of name IsFlagText is_any_flag fits items kinds no_file uses words are in
    (e.0, go (first_of name (filled_rows items uses)) e.1)
  where
    IsFlagText : Text → Type 0
    IsFlagText value = (value ≡ codes "true") ⊎ (value ≡ codes "false")

    fits : (item : Item) → is_any_flag item ≡ true → Fits name IsFlagText item
    fits item kind = grind arith

    go : (o : Option Text) → ForSome o IsFlagText → (o ≡ None) ⊎ (o ≡ Some (codes "true")) ⊎ (o ≡ Some (codes "false"))
    go o is = grind arith

-- the entries of each command, of the uses that its words spell
abbrev HasItsEntries : Text × List Item → Type 0
HasItsEntries command = (uses : List Use) (words : List Text) → AreSpelled command.1 uses words
    → HasEntries command.0 (filled_rows command.1 uses)

form_entries : (uses : List Use) (words : List Text) → AreSpelled form_items uses words
    → HasOptions (filled_rows form_items uses)
unfolding clap_on_literals
form_entries uses words are = record {
  order = number_entry form_items (codes "order") 2 refl refl uses words are;
  k = number_entry form_items (codes "k") most_rows refl refl uses words are;
  strip = number_entry form_items (codes "strip") most_rows refl refl uses words are;
  align = flag_entry form_items (codes "align") refl refl uses words are;
}

have_entries : All HasItsEntries commands
unfolding clap_on_literals
have_entries = All-from_recursion HasItsEntries commands (
  (λ uses words are. record {
    list = λ is. number_entry (items_at 0) (codes "max") most_lines refl refl uses words are;
    rows = λ is. cc;
    convert = λ is. cc;
    check = λ is. cc;
    salvage = λ is. cc;
    known = refl;
  }),
  (
    (λ uses words are. record {
      list = λ is. cc;
      rows = λ is. (
        number_entry (items_at 1) (codes "max") most_lines refl refl uses words are,
        flag_entry (items_at 1) (codes "long") refl refl uses words are,
      );
      convert = λ is. cc;
      check = λ is. cc;
      salvage = λ is. cc;
      known = refl;
    }),
    (
      (λ uses words are. record {
        list = λ is. cc;
        rows = λ is. cc;
        convert = λ is. form_entries uses words are;
        check = λ is. cc;
        salvage = λ is. cc;
        known = refl;
      }),
      (
        (λ uses words are. record {
          list = λ is. cc;
          rows = λ is. cc;
          convert = λ is. cc;
          check = λ is. flag_entry (items_at 3) (codes "received") refl refl uses words are;
          salvage = λ is. cc;
          known = refl;
        }),
        (
          (λ uses words are. record {
            list = λ is. cc;
            rows = λ is. cc;
            convert = λ is. cc;
            check = λ is. cc;
            salvage = λ is. form_entries uses words are;
            known = refl;
          }),
          tt,
        ),
      ),
    ),
  ),
)

-- the entries after a command are read as they stand
pub taken_entries : (words : List Text) (name : Text) (entries : List Row) → IsReadAs words name entries
    → HasEntries name entries
taken_entries words name entries (uses, are, agrees, entries_are) = subst (HasEntries name) (sym entries_are)
    (All-contains HasItsEntries commands (name, are.items) have_entries are.known uses are.others are.written)
