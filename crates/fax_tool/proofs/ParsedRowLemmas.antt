-- What the rows of a parse are, of the uses that the words make.
use Rattle.std.proofs.Common.{arith, ◌≡◌, ◌∙◌, ◌&&◌, ◌++◌, ap, append_assoc, cond, codes, refl, sym, Bool, true, false}
use Rattle.std.proofs.Common.{List, [], ◌∷◌}
use Rattle.std.proofs.Common.{Option, Some, None, append-nil, map}
use Rattle.std.specs.Prelude.{find, not, slice_get, option_and_then, option_map}
use Rattle.std.specs.List.{All, fold, list_all, list_any}
use Rattle.std.specs.Option.{option_map_or}
use Rattle.std.specs.Str.{bytes_eq}
use Rattle.std.proofs.lemmas.List.{map-append}
use Rattle.clap.proofs.WalkLemmas.{find-map, list_any-map}
use Rattle.clap.specs.Kinds.{or_else}
use Rattle.clap.specs.Walk.{Row, Text, first_of, has_row, reading_by, rows_after, idle, nothing_held, with_default}
use Rattle.clap.specs.Takes.{is_given}
use Rattle.clap.specs.Faults.{check_fault, defaults_fault, level_fault}
use Rattle.clap.specs.declared.parser.matches.ValueSource.TheVariants.{DefaultValue}
use Rattle.fax_tool.specs.Grammar.{Item, Use, flag, name_of, text_in}
use Rattle.fax_tool.specs.code.Scan.{are_apart, is_taken, is_used}
use Rattle.fax_tool.proofs.RuleLemmas.{rule_of, rules_of}
use Rattle.fax_tool.proofs.UseLemmas.{at_end, leaf, row_of}
use Rattle.fax_tool.proofs.SpellLemmas.{entered}
use Rattle.fax_tool.proofs.clap.Flat.{IsFlat, guard, read, run, stand}
use Rattle.clap.proofs.WalkLemmas.{both}
use Rattle.std.proofs.lemmas.Bool.{not-true}
use Rattle.fax_tool.proofs.clap.FlatLemmas.{guard_twice, walk_is_read}

-- the rows of uses
pub entered_from : (before uses : List Use)
    → entered (map row_of before) uses ≡ cond (are_apart before uses && list_all is_taken uses)
    (Some (map row_of (before ++ uses))) None
entered_from before [] = ap (λ us. Some (map row_of us)) (sym (append-nil before))
entered_from before (u ∷ us) =
    rw (← list_any-map (λ r. bytes_eq r.id (name_of u.item)) row_of before)
    (go (is_used (name_of u.item) before) (is_taken u) (are_apart (before ++ u ∷ []) us) (list_all is_taken us)
    (ap (λ rs. entered rs us) (sym (map-append row_of before (u ∷ []))) ∙ (entered_from (before ++ u ∷ []) us
    ∙ ap (λ xs. cond (are_apart (before ++ u ∷ []) us && list_all is_taken us) (Some (map row_of xs)) None)
    (append_assoc before (u ∷ []) us))))
  where
    go : (used taken apart all : Bool)
        → entered (map row_of before ++ row_of u ∷ []) us ≡ cond (apart && all) (Some (map row_of (before ++ u ∷ us)))
        None
        → option_and_then (λ r. entered r us) (cond (not used && taken) (Some (map row_of before ++ row_of u ∷ []))
        None)
        ≡ cond ((not used && apart) && (taken && all)) (Some (map row_of (before ++ u ∷ us))) None
    go true taken apart all later = refl
    go false true apart all later = later
    go false false true all later = refl
    go false false false all later = refl

-- rows that come of uses
pub rows_entered : (uses : List Use) (rows : List Row) → entered [] uses ≡ Some rows
    → (are_apart [] uses ≡ true) × (rows ≡ map row_of uses)
rows_entered uses rows is = go (are_apart [] uses) (list_all is_taken uses) refl (sym (entered_from [] uses) ∙ is)
  where
    go : (apart all : Bool) → are_apart [] uses ≡ apart → cond (apart && all) (Some (map row_of uses)) None ≡ Some rows
        → (are_apart [] uses ≡ true) × (rows ≡ map row_of uses)
    go apart all apart_is into = grind arith

-- ---- defaults

no_defaults_fault : (items : List Item) (rows : List Row) → defaults_fault rows (rules_of items) ≡ []
unfolding defaults_fault
no_defaults_fault [] rows = refl
no_defaults_fault (item ∷ items) rows = grind (arith, no_defaults_fault items (with_default rows (rule_of item)))

-- a flag has a default
abbrev pub is_flag : Text → Item → Bool
is_flag name (flag own) = bytes_eq own name
is_flag name item = false

abbrev pub default_row : Text → Row
default_row name = record {
  id = name;
  values = codes "false" ∷ [];
  count = None;
  source = Some DefaultValue;
  reading = reading_by (rule_of (flag name));
}

pub same_either : (b : Bool) (rows : List Row) → cond b rows rows ≡ rows
same_either b rows = grind arith

-- a flag's default is one more row, where it has none
pub flag_default : (name : Text) (rows : List Row)
    → with_default rows (rule_of (flag name)) ≡ cond (has_row name rows) rows (rows ++ default_row name ∷ [])
flag_default name rows = grind (arith, at_end)

abbrev row_at : Text → List Row → Option Row
row_at id rows = find (λ r. bytes_eq r.id id) rows

row_at_more : (id : Text) (rows : List Row) (r : Row) → bytes_eq r.id id ≡ false
    → row_at id (rows ++ r ∷ []) ≡ row_at id rows
row_at_more id [] r other = rw other refl
row_at_more id (x ∷ xs) r other = ap (cond (bytes_eq x.id id) (Some x)) (row_at_more id xs r other)

-- the row of an item that is no flag
default_keeps : (id : Text) (item : Item) (rows : List Row) → is_flag id item ≡ false
    → row_at id (with_default rows (rule_of item)) ≡ row_at id rows
default_keeps id item rows other = grind (arith, flag_default, row_at_more)

abbrev pub is_no_flag : Text → List Item → Bool
is_no_flag id items = list_all (λ item. not (is_flag id item)) items

defaults_keep : (id : Text) (items : List Item) (rows : List Row) → is_no_flag id items ≡ true
    → row_at id (fold with_default rows (rules_of items)) ≡ row_at id rows
defaults_keep id [] rows none = refl
defaults_keep id (item ∷ items) rows none =
    let of = both (not (is_flag id item)) (is_no_flag id items) none in
    defaults_keep id items (with_default rows (rule_of item)) of.1 ∙ default_keeps id item rows (not-true _ of.0)

-- the text of a flag
abbrev pub is_true : Option Text → Bool
is_true given = option_map_or (λ value. bytes_eq value (codes "true")) given false

abbrev first_at : Option Row → Option Text
first_at = option_and_then (λ r. slice_get r.values 0)

flag_more : (id own : Text) (rows : List Row)
    → is_true (first_at (row_at id (rows ++ default_row own ∷ []))) ≡ is_true (first_at (row_at id rows))
flag_more id own [] = grind arith
flag_more id own (x ∷ xs) = grind (arith, flag_more id own xs)

default_sets : (id : Text) (item : Item) (rows : List Row)
    → is_true (first_at (row_at id (with_default rows (rule_of item)))) ≡ is_true (first_at (row_at id rows))
default_sets id item rows = grind (arith, flag_default, flag_more)

defaults_set : (id : Text) (items : List Item) (rows : List Row)
    → is_true (first_at (row_at id (fold with_default rows (rules_of items)))) ≡ is_true (first_at (row_at id rows))
defaults_set id [] rows = refl
defaults_set id (item ∷ items) rows = defaults_set id items (with_default rows (rule_of item))
    ∙ default_sets id item rows

-- the row of a name is that of its first use
row_used : (id : Text) (uses : List Use) → row_at id (map row_of uses)
    ≡ option_map row_of (find (λ u. bytes_eq (name_of u.item) id) uses)
row_used id uses = sym (find-map (λ r. bytes_eq r.id id) row_of uses)

pub first_use : (id : Text) (uses : List Use) → first_at (row_at id (map row_of uses)) ≡ text_in uses id
first_use id uses = grind (arith, row_used)

-- the rows of uses, with what was left out
abbrev pub filled_rows : List Item → List Use → List Row
filled_rows items uses = fold with_default (map row_of uses) (rules_of items)

pub text_filled : (id : Text) (items : List Item) (uses : List Use) → is_no_flag id items ≡ true
    → first_of id (filled_rows items uses) ≡ text_in uses id
text_filled id items uses none = ap first_at (defaults_keep id items (map row_of uses) none) ∙ first_use id uses

pub flag_filled : (id : Text) (items : List Item) (uses : List Use)
    → is_true (first_of id (filled_rows items uses)) ≡ is_true (text_in uses id)
flag_filled id items uses = defaults_set id items (map row_of uses) ∙ ap is_true (first_use id uses)

-- ---- a level

-- nothing is required
none_lacks : (items : List Item) (rows : List Row)
    → list_any (λ a. a.required && not (is_given a.id rows)) (rules_of items) ≡ false
none_lacks [] rows = refl
none_lacks (item ∷ items) rows = grind (arith, none_lacks items rows)

module _ (name : Text) (items : List Item) where
  abbrev pub ended : List Row → Option (List Row)
  ended rows = Some (fold with_default rows (rules_of items))

  last_checks : (rows : List Row)
      → guard (or_else (defaults_fault rows (rules_of items))
      (check_fault (leaf name items) (fold with_default rows (rules_of items)) false))
      (Some (fold with_default rows (rules_of items))) ≡ ended rows
  last_checks rows = grind (arith, no_defaults_fault, none_lacks)

  -- a level without a fault, and its rows
  pub level_is : (words : List Text)
      → guard (level_fault (leaf name items) [] nothing_held words false [])
      (Some (rows_after (rules_of items) [] words))
      ≡ option_and_then ended (run (leaf name items) (stand [] None idle 1 false) words)
  level_is words = grind (arith, leaf, rules_of, guard_twice, last_checks)

  -- a level, by how its words are read
  abbrev pub IsLevel : Type 0
  IsLevel = (words : List Text)
      → guard (level_fault (leaf name items) [] nothing_held words false [])
      (Some (rows_after (rules_of items) [] words))
      ≡ option_and_then ended (read (leaf name items) words false None 1 [])

  pub level : All (IsFlat (rules_of items)) (rules_of items) → IsLevel
  level flat words = level_is words ∙ ap (option_and_then ended) (walk_is_read (leaf name items) flat words)
