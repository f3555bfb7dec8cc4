-- Words of UTF-8 that are read are those of a command.
use Rattle.std.proofs.Common.{◌≡◌, ◌∙◌, ◌⊎◌, ◌<◌, ◌==◌, ◌++◌, ap, append-nil, append_assoc, arith, codes, inl, inr}
use Rattle.std.proofs.Common.{lit<, refl, sym}
use Rattle.std.proofs.Common.{subst, Bool, true, false, ℕ, drop, length, List, [], ◌∷◌, Option, Some, None}
use Rattle.std.specs.Prelude.{encode_utf8, find, option_and_then, option_map, slice_get}
use Rattle.std.specs.List.{All, Contains}
use Rattle.std.specs.Option.{option_map_or}
use Rattle.std.specs.Str.{IsUtf8, bytes_eq, chars, encode_utf8_all}
use Rattle.std.proofs.lemmas.Bool.Decides.{nat_tests}
use Rattle.std.proofs.lemmas.Slice.Eq.{bytes_eq-Decides}
use Rattle.std.proofs.lemmas.List.Elements.{All-head, All-tail}
use Rattle.std.proofs.lemmas.Str.{IsUtf8-past_char, byte_from_char, encode_ascii, encodes-chars}
use Rattle.clap.specs.Walk.{Row, Rule, arg_by_index, attached_value}
use Rattle.clap.specs.Lexer.{long_of, long_of_rest, name_and_value, short_of}
use Rattle.fax_tool.specs.Grammar.{AreSpelled, IsPlain, IsSpelled, Item, Text, Use, file, flag, letter, number}
use Rattle.fax_tool.specs.Grammar.{text}
use Rattle.fax_tool.specs.code.Scan.{has_letter, has_long, is_taken, takes, use_of}
use Rattle.fax_tool.proofs.GrammarLemmas.{scanned_number}
use Rattle.fax_tool.proofs.RuleLemmas.{by_long, by_short, rule_of, rules_of}
use Rattle.fax_tool.proofs.UseLemmas.{IsItem, enter, flag_used, is_option, leaf, option_used}
use Rattle.fax_tool.proofs.SpellLemmas.{entered, place_of}
use Rattle.fax_tool.proofs.clap.Flat.{Said, after, ends, if_place, option_said, place, read, rule_said, said, says}
use Rattle.fax_tool.proofs.clap.Flat.{taken, unknown, waits}
use Rattle.fax_tool.proofs.clap.FlatLemmas.{Form, found as found_in, as_end, as_letter, as_long, as_place, form}
use Rattle.fax_tool.proofs.clap.FlatLemmas.{hyphens}

same_byte : (x y : ℕ) → (x == y) ≡ true → x ≡ y
same_byte x y is = grind arith

-- what follows the hyphen has a first character, which is its byte where it is ASCII
after_hyphen : (b : ℕ) (bs : Text) → IsUtf8 (45 ∷ b ∷ bs) → (x : ℕ) × (slice_get (chars (b ∷ bs)) 0 ≡ Some x)
    × (x < 128 → b ≡ x)
after_hyphen b bs utf8 = go (chars (b ∷ bs)) (encodes-chars (b ∷ bs) (IsUtf8-past_char (45 ∷ b ∷ bs) (b ∷ bs) 45 utf8
    (ap (λ l. l ++ b ∷ bs) (sym (encode_ascii 45 (lit< tt))))))
  where
    go : (cs : Text) → encode_utf8_all cs ≡ b ∷ bs → (x : ℕ) × (slice_get cs 0 ≡ Some x) × (x < 128 → b ≡ x)
    go [] spells = cc
    go (c ∷ cs) spells = (c, refl, λ ascii. byte_from_char (b ∷ bs) (encode_utf8_all cs) c (sym spells) ascii)

-- a word for a place is no option
said_plain : (word : Text) → IsUtf8 word → bytes_eq word hyphens ≡ false → long_of word ≡ None
    → ((short_of word ≡ None) ⊎ ((b : ℕ) × (bs : Text) × (short_of word ≡ Some (b ∷ bs))
    × (slice_get (chars (b ∷ bs)) 0 ≡ None)))
    → IsPlain word
said_plain [] utf8 no_end no_long form = inl (λ is. cc)
said_plain (x ∷ xs) utf8 no_end no_long form = go (x == 45) refl
  where
    no_char : (b : ℕ) (bs : Text) → x ≡ 45 → xs ≡ b ∷ bs → slice_get (chars (b ∷ bs)) 0 ≡ None → ⊥
    no_char b bs is is_more none =
        let first = after_hyphen b bs (subst IsUtf8 (λ i. is i ∷ is_more i) utf8) in
        let no : None ≡ Some first.0 = sym none ∙ first.1 in cc

    go : (b : Bool) → (x == 45) ≡ b → IsPlain (x ∷ xs)
    go true same = more xs refl
      where
        more : (ys : Text) → xs ≡ ys → IsPlain (x ∷ xs)
        more [] none = inr (λ i. same_byte x 45 same i ∷ none i)
        more (y ∷ []) is = grind (arith, no_char)
        more (y ∷ z ∷ zs) is = grind (arith, no_char)
    go false other = inl (λ is.
        let same : x ≡ 45 = cc in
        let no : ⊥ = grind (arith, nat_tests) in no)

abbrev with_equals : Option Text → Text
with_equals v = option_map_or (λ t. 61 ∷ t) v []

-- a text, at its first `=`
at_equals : (xs : Text) → xs ≡ (name_and_value xs).0 ++ with_equals (name_and_value xs).1
at_equals [] = refl
at_equals (x ∷ xs) = grind (arith, at_equals xs)

rest_shape : (rest own : Text) (v : Option Text) → long_of_rest rest ≡ Some (own, v) → rest ≡ own ++ with_equals v
rest_shape [] own v is = cc
rest_shape (x ∷ xs) own v is =
    let pair : name_and_value (x ∷ xs) ≡ (own, v) = cc in
    at_equals (x ∷ xs) ∙ ap (λ (p : Text × Option Text). p.0 ++ with_equals p.1) pair

long_shape : (word own : Text) (v : Option Text) → long_of word ≡ Some (own, v) → word ≡ 45 ∷ 45 ∷ own ++ with_equals v
long_shape [] own v is = cc
long_shape (x ∷ []) own v is = grind arith
long_shape (x ∷ y ∷ zs) own v is = grind (arith, rest_shape)

short_shape : (word : Text) (b : ℕ) (bs : Text) → short_of word ≡ Some (b ∷ bs) → word ≡ 45 ∷ b ∷ bs
short_shape [] b bs is = cc
short_shape (x ∷ xs) b bs is = grind arith

named_text : (n own : Text) → bytes_eq n own ≡ true → n ≡ own
named_text n own is = (bytes_eq-Decides n own).0 is

joined_word : (n own word t : Text) → bytes_eq n own ≡ true → word ≡ 45 ∷ 45 ∷ own ++ 61 ∷ t
    → word ∷ [] ≡ (codes "--" ++ n ++ codes "=" ++ t) ∷ []
joined_word n own word t named shape =
    rw (shape, ← named_text n own named, ← append_assoc (45 ∷ 45 ∷ n) (61 ∷ []) t)

bare_word : (n own word : Text) → bytes_eq n own ≡ true → word ≡ 45 ∷ 45 ∷ own ++ []
    → word ∷ [] ≡ (codes "--" ++ n) ∷ []
bare_word n own word named shape =
    rw (shape, append-nil, named_text n own named)

apart_words : (n own word value : Text) → bytes_eq n own ≡ true → word ≡ 45 ∷ 45 ∷ own ++ []
    → word ∷ value ∷ [] ≡ (codes "--" ++ n) ∷ value ∷ []
apart_words n own word value named shape = ap (λ ws. ws ++ value ∷ []) (bare_word n own word named shape)

and_then_some : {A B : Type 0} (o : Option A) (K : A → Option B) (r : B) → option_and_then K o ≡ Some r
    → (q : A) × (o ≡ Some q) × (K q ≡ Some r)
and_then_some None K r is = cc
and_then_some (Some q) K r is = (q, refl, is)

entered_taken : (u : Use) (rows q : List Row) → enter rows u ≡ Some q → is_taken u ≡ true
entered_taken u rows q is = grind arith

module _ (name : Text) (items : List Item) (first : arg_by_index (rules_of items) 1 ≡ Some (rule_of file))
    (second : arg_by_index (rules_of items) 2 ≡ None) (has_file : Contains items file)
    (fits : (item : Item) → Contains items item → IsItem item) where
  -- how what a word says is spelled
  abbrev SpelledAs : Said → Text → Type 0
  SpelledAs (says a values) word =
      (u : Use) × Contains items u.item × ((rows : List Row) → taken (leaf name items) a values rows ≡ enter rows u)
      × (is_taken u ≡ true → IsSpelled u.item u.value (word ∷ []))
  SpelledAs (waits a) word =
      (item : Item) × Contains items item
      × ((value : Text) (rows : List Row) → taken (leaf name items) a (value ∷ []) rows
      ≡ enter rows (use_of item value))
      × ((value : Text) → IsPlain value → takes item value ≡ true → IsSpelled item value (word ∷ value ∷ []))
  SpelledAs ends word = word ≡ hyphens
  SpelledAs place word = IsPlain word
  SpelledAs unknown word = Unit {0}

  -- an option, by how it is spelled with its text in its word, and with the text in the next one
  option_as : (item : Item) (v : Option Text) (word : Text) → Contains items item → is_option item ≡ true
      → ((value : Text) → v ≡ Some value → takes item value ≡ true → IsSpelled item value (word ∷ []))
      → (v ≡ None → (value : Text) → IsPlain value → takes item value ≡ true → IsSpelled item value (word ∷ value ∷ []))
      → SpelledAs (option_said (rule_of item) v) word
  option_as item (Some t) word among option joined apart =
      (use_of item t, among, λ rows. option_used name items item t rows (fits item among) option, joined t refl)
  option_as item None word among option joined apart =
      (item, among, λ value rows. option_used name items item value rows (fits item among) option, apart refl)

  long_as : (item : Item) (own : Text) (v : Option Text) (word : Text) → Contains items item → has_long own item ≡ true
      → word ≡ 45 ∷ 45 ∷ own ++ with_equals v → SpelledAs (rule_said (Some (rule_of item)) v) word
  long_as (text n) own v word among named shape =
      option_as (text n) v word among refl (λ t is taken. inl (joined_word n own word t named (rw is at shape)))
      (λ is value plain taken. inr (apart_words n own word value named (rw is at shape), plain))
  long_as (number n most) own v word among named shape =
      option_as (number n most) v word among refl
      (λ t is taken. (inl (joined_word n own word t named (rw is at shape)), scanned_number most t taken))
      (λ is value plain taken.
      (inr (apart_words n own word value named (rw is at shape), plain), scanned_number most value taken))
  long_as (flag n) own (Some t) word among named shape = tt
  long_as (flag n) own None word among named shape =
      let spells = bare_word n own word named shape in
      (use_of (flag n) (codes "true"), among, λ rows. flag_used name items n rows, λ taken. (spells, refl))
  long_as item own v word among named shape = cc

  letter_as : (x : ℕ) (rest word : Text) → Contains items (letter x) → word ≡ 45 ∷ x ∷ rest
      → SpelledAs (rule_said (Some (rule_of (letter x))) (attached_value rest)) word
  letter_as x rest word among shape =
      option_as (letter x) (attached_value rest) word among refl (λ value is taken. grind arith)
      (λ is value plain taken. grind arith)

  spelled_as : (word : Text) → IsUtf8 word → Form word → SpelledAs (said (rules_of items) false word) word
  spelled_as word utf8 (as_end is_end says_is) =
      rw says_is ((bytes_eq-Decides word hyphens).0 is_end)
  spelled_as word utf8 (as_long (own, v) no_end form says_is) =
      rw (says_is, by_long) (go (find (has_long own) items) (found_in (has_long own) items))
    where
      go : (o : Option Item) → ((item : Item) → o ≡ Some item → Contains items item × (has_long own item ≡ true))
          → SpelledAs (rule_said (option_map rule_of o) v) word
      go None found = tt
      go (Some item) found = long_as item own v word (found item refl).0 (found item refl).1
          (long_shape word own v form)
  spelled_as word utf8 (as_letter b bs x no_end no_long form char says_is) =
      rw (says_is, by_short) (go (find (has_letter x) items) (found_in (has_letter x) items))
    where
      shape : word ≡ 45 ∷ b ∷ bs
      shape = short_shape word b bs form

      go : (o : Option Item) → ((item : Item) → o ≡ Some item → Contains items item × (has_letter x item ≡ true))
          → SpelledAs (rule_said (option_map rule_of o) (attached_value (drop (length (encode_utf8 x)) (b ∷ bs)))) word
      go None found = tt
      go (Some (letter l)) found =
          let of = found (letter l) refl in
          let fit = fits (letter l) of.0 in
          let same = same_byte l x of.1 in
          let byte = after_hyphen b bs (rw shape at utf8) in
          let char_is : byte.0 ≡ x = let both = sym byte.1 ∙ char in cc in
          let first = byte.2 (subst (λ x. x < 128) (same ∙ sym char_is) fit.1) ∙ char_is ∙ sym same in
          subst (λ n. SpelledAs (rule_said (Some (rule_of (letter l))) (attached_value (drop n (b ∷ bs)))) word)
          (sym fit.0 ∙ ap (λ x. length (encode_utf8 x)) same) (letter_as l bs word of.0
          (shape ∙ ap (λ b. 45 ∷ b ∷ bs) first))
      go (Some item) found = let no = (found item refl).1 in cc
  spelled_as word utf8 (as_place no_end no_long form says_is) =
      rw says_is (said_plain word utf8 no_end no_long form)

  -- the uses that words spell, from a place and rows on
  abbrev Spelling : List Text → List Row → List Row → Type 0
  Spelling words rows r = (uses : List Use) × AreSpelled items uses words × (entered rows uses ≡ Some r)

  abbrev IdleSpelled : List Text → Type 0
  IdleSpelled words = (filed : Bool) (rows r : List Row) → All IsUtf8 words
      → read (leaf name items) words false None (place_of filed) rows ≡ Some r → Spelling words rows r

  -- the first word is the text that was waited for
  abbrev Awaited : List Text → Rule → List Row → List Row → Type 0
  Awaited words a rows r = (value : Text) × (others : List Text) × (q : List Row) × (words ≡ value ∷ others)
      × IsPlain value × (taken (leaf name items) a (value ∷ []) rows ≡ Some q) × Spelling others q r

  abbrev WaitsSpelled : List Text → Type 0
  WaitsSpelled words = (a : Rule) (filed : Bool) (rows r : List Row) → All IsUtf8 words
      → read (leaf name items) words false (Some a) (place_of filed) rows ≡ Some r → Awaited words a rows r

  -- a use and those after it
  more_uses : (u : Use) (own others words : List Text) (rows q r : List Row) → words ≡ own ++ others
      → Contains items u.item → IsSpelled u.item u.value own
      → enter rows u ≡ Some q → Spelling others q r → Spelling words rows r
  more_uses u own others words rows q r split among spells into (uses, are, entered_is) =
      (u ∷ uses, inl (own, others, split, among, spells, are), rw into entered_is)

  after_end : (words : List Text) (filed : Bool) (rows r : List Row)
      → read (leaf name items) words true None (place_of filed) rows ≡ Some r → Spelling (hyphens ∷ words) rows r
  after_end [] filed rows r is = ([], inr refl, is)
  after_end (word ∷ words) true rows r is = let no = rw second at is in cc
  after_end (word ∷ []) false rows r is =
      (use_of file word ∷ [], inr (refl, refl, refl), rw (first, option_used name items file word rows tt refl) at is)
  after_end (word ∷ other ∷ words) false rows r is = let no = rw (first, second) at is in grind arith

  idle_from : (word : Text) (words : List Text) (W : Said) → SpelledAs W word → IdleSpelled words → WaitsSpelled words
      → All IsUtf8 words → (filed : Bool) (rows r : List Row)
      → after (leaf name items) W false word (place_of filed) rows (read (leaf name items) words) ≡ Some r
      → Spelling (word ∷ words) rows r
  idle_from word words (says a values) (u, among, taken_is, spells) idles waiting utf8 filed rows r is =
      let of = and_then_some (taken (leaf name items) a values rows)
      (read (leaf name items) words false None (place_of filed)) r is in
      let into = sym (taken_is rows) ∙ of.1 in
      more_uses u (word ∷ []) words (word ∷ words) rows of.0 r refl among (spells (entered_taken u rows of.0 into)) into
      (idles filed of.0 r utf8 of.2)
  idle_from word words (waits a) (item, among, taken_is, spells) idles waiting utf8 filed rows r is =
      let (value, others, q, words_are, plain, took, rest) = waiting a filed rows r utf8 is in
      let into = sym (taken_is value rows) ∙ took in
      more_uses (use_of item value) (word ∷ value ∷ []) others (word ∷ words) rows q r (ap (λ ws. word ∷ ws) words_are)
      among (spells value plain (entered_taken (use_of item value) rows q into)) into rest
  idle_from word words ends is_end idles waiting utf8 filed rows r is =
      rw is_end (after_end words filed rows r is)
  idle_from word words place plain idles waiting utf8 false rows r is =
      let of = and_then_some (taken (leaf name items) (rule_of file) (word ∷ []) rows)
      (read (leaf name items) words false None 2) r (rw first at is) in
      more_uses (use_of file word) (word ∷ []) words (word ∷ words) rows of.0 r refl has_file (refl, plain)
      (sym (option_used name items file word rows tt refl) ∙ of.1) (idles true of.0 r utf8 of.2)
  idle_from word words place plain idles waiting utf8 true rows r is = let no = rw second at is in cc
  idle_from word words unknown none idles waiting utf8 filed rows r is = cc

  waits_from : (word : Text) (words : List Text) → IdleSpelled words → WaitsSpelled (word ∷ words)
  waits_from word words idles a filed rows r utf8 is =
      go (said (rules_of items) false word) (spelled_as word (All-head IsUtf8 word words utf8) (form word)) is
    where
      go : (W : Said) → SpelledAs W word
          → if_place (leaf name items) W (option_and_then (read (leaf name items) words false None (place_of filed))
          (taken (leaf name items) a (word ∷ []) rows)) ≡ Some r
          → Awaited (word ∷ words) a rows r
      go place plain is =
          let of = and_then_some (taken (leaf name items) a (word ∷ []) rows) _ r is in
          (word, words, of.0, refl, plain, of.1, idles filed of.0 r (All-tail IsUtf8 word words utf8) of.2)
      go W spells is = cc

  pub all_spelled : (words : List Text) → IdleSpelled words × WaitsSpelled words
  all_spelled [] = (λ filed rows r utf8 is. ([], inl refl, is), λ a filed rows r utf8 is. cc)
  all_spelled (word ∷ words) =
      let others = all_spelled words in (
        λ filed rows r utf8 is. idle_from word words (said (rules_of items) false word)
            (spelled_as word (All-head IsUtf8 word words utf8) (form word)) others.0 others.1
            (All-tail IsUtf8 word words utf8) filed rows r is,
        waits_from word words others.0,
      )
