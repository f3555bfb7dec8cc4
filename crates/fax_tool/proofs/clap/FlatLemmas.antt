-- The walk of a flat command is how its words are read.
use Rattle.std.proofs.Common.{arith, ◌≡◌, ◌∙◌, ◌+◌, ◌==◌, ◌⊎◌, ◌||◌, ap, ap₂, cond, inl, inr, refl, sym, Bool, true}
use Rattle.std.proofs.Common.{false, ℕ, suc, List, [], ◌∷◌, Option, Some, None, min}
use Rattle.std.proofs.Common.{drop, length}
use Rattle.std.specs.Prelude.{encode_utf8, find, nat_lt, not, option_and_then, option_map, slice_get}
use Rattle.std.specs.List.{All, Contains}
use Rattle.std.specs.Option.{option_map_or}
use Rattle.std.specs.Str.{bytes_eq, chars}
use Rattle.std.proofs.lemmas.List.Elements.{All-contains}
use Rattle.std.proofs.lemmas.Slice.Eq.{bytes_eq-Decides}
use Rattle.clap.specs.Kinds.{Kinds, or_else}
use Rattle.clap.specs.Lexer.{long_of, short_of, usize_max}
use Rattle.clap.specs.Faults.{flags_fault, long_fault, option_fault, positional_fault, settle_fault, short_fault}
use Rattle.clap.specs.Faults.{step_fault, stray_fault, react_fault, turn_fault, use_fault, walk_fault}
use Rattle.clap.specs.Walk.{Held, Outcome, Row, Rule, Text, Walk, after_flag, after_step, arg_by_index, arg_by_long}
use Rattle.clap.specs.Walk.{arg_by_short, attached_value, bundle_met, done, idle, option_met, reacted, long_met}
use Rattle.clap.specs.Walk.{most_values, option, plain_word, settled, short_met, takes_several, takes_values}
use Rattle.clap.specs.Walk.{to_positional, used, walked}
use Rattle.clap.specs.Simple.{Shape}
use Rattle.std.proofs.Math.Bool.{and-false, or-false}
use Rattle.fax_tool.proofs.clap.Flat.{IsFlat, IsOne, Said, after, ends, guard, holding, if_place, option_said, place}
use Rattle.fax_tool.proofs.clap.Flat.{placed, read, rule_said, run, said, says, stand, taken}

pub guard_twice : {A : Type 0} (a b : Kinds) (r : Option A) → guard (or_else a b) r ≡ guard a (guard b r)
guard_twice a b r = grind arith

guard_then : {A B : Type 0} (k : Kinds) (x : A) (K : A → Option B)
    → guard k (K x) ≡ option_and_then K (guard k (Some x))
guard_then k x K = grind arith

pub and_then_at : {A B : Type 0} (o : Option A) (f g : A → Option B) → ((x : A) → o ≡ Some x → f x ≡ g x)
    → option_and_then f o ≡ option_and_then g o
and_then_at o f g same = grind arith

and_then_none : {A B : Type 0} (o : Option A) → ◌≡◌ {A = Option B} (option_and_then (λ x. None) o) None
and_then_none o = grind arith

-- what is found is among the list, and passes
pub found : {A : Type 0} (test : A → Bool) (xs : List A) (x : A) → find test xs ≡ Some x
    → Contains xs x × (test x ≡ true)
found test [] x is = cc
found test (first ∷ xs) x is = go (test first) refl is (found test xs x)
  where
    go : (t : Bool) → test first ≡ t → cond t (Some first) (find test xs) ≡ Some x
        → (find test xs ≡ Some x → Contains xs x × (test x ≡ true)) → Contains (first ∷ xs) x × (test x ≡ true)
    go true here is later = grind arith
    go false here is later =
        let of = later is in
        let low = of.0.1 in
        ((suc of.0.0, omega arith, of.0.2), of.1)

-- ---- the forms of a word

abbrev pub hyphens : Text
hyphens = 45 ∷ 45 ∷ []

-- what follows the hyphen is not empty
no_flags : (word : Text) → short_of word ≡ Some [] → ⊥
no_flags word is = grind arith

pub data Form (word : Text) : Type 0 where
  as_end : bytes_eq word hyphens ≡ true → ((c : List Rule) → said c false word ≡ ends) → Form word
  as_long : (p : Text × Option Text) → bytes_eq word hyphens ≡ false → long_of word ≡ Some p
      → ((c : List Rule) → said c false word ≡ rule_said (arg_by_long c p.0) p.1) → Form word
  as_letter : (b : ℕ) (bs : Text) (x : ℕ) → bytes_eq word hyphens ≡ false → long_of word ≡ None
      → short_of word ≡ Some (b ∷ bs) → slice_get (chars (b ∷ bs)) 0 ≡ Some x
      → ((c : List Rule) → said c false word
      ≡ rule_said (arg_by_short c x) (attached_value (drop (length (encode_utf8 x)) (b ∷ bs)))) → Form word
  as_place : bytes_eq word hyphens ≡ false → long_of word ≡ None
      → ((short_of word ≡ None) ⊎ ((b : ℕ) × (bs : Text) × (short_of word ≡ Some (b ∷ bs))
      × (slice_get (chars (b ∷ bs)) 0 ≡ None)))
      → ((c : List Rule) → said c false word ≡ place) → Form word

pub form : (word : Text) → Form word
form word = go (bytes_eq word hyphens) refl (long_of word) refl (short_of word) refl
  where
    letter : (flags : Text) (o : Option ℕ) → bytes_eq word hyphens ≡ false → long_of word ≡ None
        → short_of word ≡ Some flags → slice_get (chars flags) 0 ≡ o → Form word
    letter [] o no_end no_long short is = absurd (no_flags word short)
    letter (b ∷ bs) None no_end no_long short is = as_place no_end no_long (inr (b, bs, short, is))
        (λ c. rw (no_end, no_long, short, is) refl)
    letter (b ∷ bs) (Some x) no_end no_long short is = as_letter b bs x no_end no_long short is
        (λ c. rw (no_end, no_long, short, is) refl)

    go : (e : Bool) → bytes_eq word hyphens ≡ e → (o : Option (Text × Option Text)) → long_of word ≡ o
        → (f : Option Text) → short_of word ≡ f → Form word
    go true is o long f short = as_end is (λ c. rw is refl)
    go false is (Some p) long f short = as_long p is long (λ c. rw (is, long) refl)
    go false is None long None short = as_place is long (inl short) (λ c. rw (is, long, short) refl)
    go false is None long (Some flags) short = letter flags (slice_get (chars flags) 0) is long short refl

takes_one : (c : List Rule) (a : Rule) → IsOne c a → takes_values a ≡ true
takes_one c a one = ap (λ n. not (n == 0)) one.2

several_one : (c : List Rule) (a : Rule) → IsOne c a → takes_several a ≡ false
several_one c a one = ap₂ (λ least most. not (least == most) || nat_lt 1 least) one.1 one.2

-- one value is enough
enough : (c : List Rule) (a : Rule) → IsOne c a → nat_lt (cond (bytes_eq a.id a.id) 1 0) (most_values a) ≡ false
enough c a one = rw ((bytes_eq-Decides a.id a.id).1 refl, one.2) refl

module _ (s : Shape) (flat : All (IsFlat s.rules) s.rules) where
  abbrev c : List Rule
  c = s.rules

  abbrev again : Bool
  again = s.args_override_self

  long : (name : Text) (a : Rule) → arg_by_long c name ≡ Some a → IsFlat c a
  long name a is = All-contains (IsFlat c) c a flat (found _ c a is).0

  short : (x : ℕ) (a : Rule) → arg_by_short c x ≡ Some a → IsOne c a
  short x a is =
      let (among, test) = found _ c a is in
      elim (All-contains (IsFlat c) c a flat among) [
        | inl one ↦ one
        | inr flag ↦ let no = rw (flag.1, flag.2) at test in grind arith
      ]

  placing : (i : ℕ) (a : Rule) → arg_by_index c i ≡ Some a → IsOne c a
  placing i a is =
      let (among, test) = found _ c a is in
      elim (All-contains (IsFlat c) c a flat among) [ inl one ↦ one | inr flag ↦ let no = rw flag.3 at test in cc ]

  turn : (w : Walk) (word : Text) (words : List Text)
      → run s w (word ∷ words) ≡ guard (turn_fault s [] w word) (run s (walked c [] w word) words)
  unfolding walk_fault
  turn w word words = guard_twice (turn_fault s [] w word) _ _

  -- a rule with its one value, which is pending
  abbrev pend : Option (Rule × Text) → Option (Text × List Text)
  pend = option_map (λ p. (p.0.id, p.1 ∷ []))

  abbrev IsPending : Option (Rule × Text) → Type 0
  IsPending None = Unit {0}
  IsPending (Some p) = IsOne c p.0

  abbrev settle : Option (Rule × Text) → List Row → Option (List Row)
  settle None rows = Some rows
  settle (Some p) rows = taken s p.0 (p.1 ∷ []) rows

  -- the rest of the walk is how the words are read
  abbrev IdleOf : List Text → Type 0
  IdleOf words = (p : Option (Rule × Text)) (rows : List Row) (position : ℕ) (trailing : Bool) → IsPending p
      → run s (stand rows (pend p) idle position trailing) words
      ≡ option_and_then (read s words trailing None position) (settle p rows)

  abbrev WaitsOf : List Text → Type 0
  WaitsOf words = (a : Rule) (rows : List Row) (position : ℕ) → IsOne c a
      → run s (stand rows (Some (a.id, [])) (option a.id) position false) words
      ≡ read s words false (Some a) position rows

  -- ---- where nothing waits

  module _ (p : Option (Rule × Text)) (rows : List Row) (position : ℕ) (is : IsPending p) where
    abbrev h : Held
    h = holding rows (pend p)

    settle_then : (K : List Row → Option (List Row)) → guard (settle_fault c again h) (K (settled c h).rows)
        ≡ option_and_then K (settle p rows)
    settle_then K = grind arith

    module _ (word : Text) (words : List Text) (idles : IdleOf words) where
      place_form : (a : Rule) (trailing : Bool) → IsOne c a
          → guard (positional_fault c again a h) (run s (to_positional c (Some a) word
          (stand rows (pend p) idle position trailing) h) words)
          ≡ guard (settle_fault c again h)
          (run s (stand (settled c h).rows (pend (Some (a, word))) idle (min (position + 1) usize_max) trailing) words)
      place_form a trailing one = grind (arith, and-false, or-false, several_one)

      -- a word at its place
      placed_is : (trailing : Bool) (o : Option Rule) → ((a : Rule) → o ≡ Some a → IsOne c a)
          → guard (option_map_or (λ a. positional_fault c again a h) o (stray_fault s))
          (run s (to_positional c o word (stand rows (pend p) idle position trailing) h) words)
          ≡ option_and_then (λ r. placed s o word r (read s words trailing None (min (position + 1) usize_max)))
          (settle p rows)
      placed_is trailing None one = grind (arith, and_then_none)
      placed_is trailing (Some a) one =
          place_form a trailing (one a refl)
          ∙ settle_then (λ r. run s (stand r (pend (Some (a, word))) idle (min (position + 1) usize_max) trailing)
          words)
          ∙ and_then_at (settle p rows) _ _ (λ r at. idles (Some (a, word)) r (min (position + 1) usize_max) trailing
          (one a refl))

      module _ (waiting : WaitsOf words) where
        abbrev reads : Said → Option (List Row)
        reads W = option_and_then (λ r. after s W false word position r (read s words)) (settle p rows)

        -- the walk past a flag or an option
        abbrev past : Kinds → Held × Outcome → Option (List Row)
        past fault m =
            let step = after_flag c idle word m.0 m.1 in
            guard (or_else fault (step_fault s position step.0 step.1))
            (run s (after_step c word (stand rows (pend p) idle position false) step.0 step.1) words)

        used_is : (a : Rule) (values : List Text) → past (react_fault c again a values h) (reacted c a values h, done)
            ≡ reads (says a values)
        used_is a values =
            guard_twice (react_fault c again a values h) [] _ ∙ guard_twice (settle_fault c again h) _ _
            ∙ settle_then (λ r. guard (use_fault again a values r)
            (run s (stand (used a values r) None idle position false) words))
            ∙ and_then_at (settle p rows) _ _ (λ r at. guard_then (use_fault again a values r) (used a values r) _
            ∙ and_then_at (taken s a values r) _ _ (λ q into. idles None q position false tt))

        option_is : (a : Rule) (v : Option Text) → IsOne c a → past (option_fault c again a v h) (option_met c a v h)
            ≡ reads (option_said a v)
        option_is a (Some t) one = used_is a (t ∷ [])
        option_is a None one =
            guard_twice (settle_fault c again h) [] _
            ∙ settle_then (λ r. run s (stand r (Some (a.id, [])) (option a.id) position false) words)
            ∙ and_then_at (settle p rows) _ _ (λ r at. waiting a r position one)

        long_is : (o : Option Rule) (v : Option Text) → ((a : Rule) → o ≡ Some a → IsFlat c a)
            → past (long_fault c again o v h) (long_met c o v h) ≡ reads (rule_said o v)
        long_is None v flat_is = sym (and_then_none (settle p rows))
        long_is (Some a) v flat_is = go v (flat_is a refl)
          where
            go : (v : Option Text) → IsFlat c a → past (long_fault c again (Some a) v h) (long_met c (Some a) v h)
                ≡ reads (rule_said (Some a) v)
            go v (inl one) = rw (takes_one c a one) (option_is a v one)
            go (Some t) (inr flag) = rw flag.0 (sym (and_then_none (settle p rows)))
            go None (inr flag) = rw flag.0 (used_is a [])

        letter_is : (o : Option Rule) (rest : Text) (fault : Held → Kinds) (next : Held → Held × Outcome)
            → ((a : Rule) → o ≡ Some a → IsOne c a)
            → past (short_fault c again o rest h fault) (short_met c o rest h next)
            ≡ reads (rule_said o (attached_value rest))
        letter_is None rest fault next one = sym (and_then_none (settle p rows))
        letter_is (Some a) rest fault next one = rw (takes_one c a (one a refl))
            (option_is a (attached_value rest) (one a refl))

        idle_word : Form word → run s (stand rows (pend p) idle position false) (word ∷ words)
            ≡ reads (said c false word)
        unfolding walked walk_fault bundle_met flags_fault
        idle_word w = turn (stand rows (pend p) idle position false) word words ∙ go w
          where
            go : Form word → guard (turn_fault s [] (stand rows (pend p) idle position false) word)
                (run s (walked c [] (stand rows (pend p) idle position false) word) words) ≡ reads (said c false word)
            go (as_end is_end says_is) = rw is_end (idles p rows position true is) ∙ ap reads (sym (says_is c))
            go (as_long q no_end form says_is) = rw (no_end, form) (long_is (arg_by_long c q.0) q.1 (long q.0))
                ∙ ap reads (sym (says_is c))
            go (as_letter b bs x no_end no_long form char says_is) =
                rw (no_end, no_long, form, char) (letter_is (arg_by_short c x) (drop (length (encode_utf8 x)) (b ∷ bs))
                _ _ (short x))
                ∙ ap reads (sym (says_is c))
            go (as_place no_end no_long (inl form) says_is) =
                rw (no_end, no_long, form) (placed_is false (arg_by_index c position) (placing position))
                ∙ ap reads (sym (says_is c))
            go (as_place no_end no_long (inr (b, bs, form, char)) says_is) =
                rw (no_end, no_long, form, char) (placed_is false (arg_by_index c position) (placing position))
                ∙ ap reads (sym (says_is c))

  -- ---- where an option waits

  module _ (a : Rule) (rows : List Row) (position : ℕ) (one : IsOne c a) where
    abbrev unfilled : Held
    unfilled = holding rows (Some (a.id, []))

    abbrev waits_at : Bool → Walk
    waits_at trailing = stand rows (Some (a.id, [])) (option a.id) position trailing

    unsettled : (r : Option (List Row)) → guard (settle_fault c again unfilled) r ≡ None
    unsettled r = grind arith

    unsettled_place : (o : Option Rule) → ((b : Rule) → o ≡ Some b → IsOne c b) → (r : Option (List Row))
        → guard (option_map_or (λ b. positional_fault c again b unfilled) o (stray_fault s)) r ≡ None
    unsettled_place o is r = grind (arith, several_one, unsettled, and-false)

    -- `--`
    unsettled_trail : (words : List Text) → run s (waits_at true) words ≡ None
    unfolding walked walk_fault
    unsettled_trail [] = unsettled _
    unsettled_trail (word ∷ words) = turn (waits_at true) word words
        ∙ unsettled_place (arg_by_index c position) (placing position) _

    module _ (word : Text) (words : List Text) (idles : IdleOf words) where
      abbrev reads_value : Said → Option (List Row)
      reads_value W = if_place s W (option_and_then (read s words false None position) (taken s a (word ∷ []) rows))

      -- another option does not go with it
      other_option : (o : Option Rule) (v : Option Text) (later : Kinds) (r : Option (List Row))
          → guard (or_else (long_fault c again o v unfilled) later) r ≡ reads_value (rule_said o v)
      other_option None v later r = refl
      other_option (Some b) v later r = grind (arith, unsettled, guard_twice)

      other_letter : (o : Option Rule) (rest : Text) (fault : Held → Kinds) (later : Kinds) (r : Option (List Row))
          → guard (or_else (short_fault c again o rest unfilled fault) later) r
          ≡ reads_value (rule_said o (attached_value rest))
      other_letter None rest fault later r = refl
      other_letter (Some b) rest fault later r = grind (arith, unsettled, guard_twice)

      value_is : run s (after_step c word (waits_at false) (plain_word c (option a.id) word unfilled).0
          (plain_word c (option a.id) word unfilled).1) words ≡ reads_value place
      value_is = rw (one.0, enough c a one) (idles (Some (a, word)) rows position false one)

      value_word : Form word → run s (waits_at false) (word ∷ words) ≡ reads_value (said c false word)
      unfolding walked walk_fault bundle_met flags_fault
      value_word w = turn (waits_at false) word words ∙ go w
        where
          go : Form word → guard (turn_fault s [] (waits_at false) word)
              (run s (walked c [] (waits_at false) word) words) ≡ reads_value (said c false word)
          go (as_end is_end says_is) = rw is_end (unsettled_trail words) ∙ ap reads_value (sym (says_is c))
          go (as_long q no_end form says_is) =
              rw (no_end, form) (other_option (arg_by_long c q.0) q.1 _ _) ∙ ap reads_value (sym (says_is c))
          go (as_letter b bs x no_end no_long form char says_is) =
              rw (no_end, no_long, form, char) (other_letter (arg_by_short c x) (drop (length (encode_utf8 x)) (b ∷ bs))
              _ _ _)
              ∙ ap reads_value (sym (says_is c))
          go (as_place no_end no_long (inl form) says_is) = rw (no_end, no_long, form) value_is
              ∙ ap reads_value (sym (says_is c))
          go (as_place no_end no_long (inr (b, bs, form, char)) says_is) =
              rw (no_end, no_long, form, char) value_is ∙ ap reads_value (sym (says_is c))

  idle_step : (word : Text) (words : List Text) → IdleOf words → WaitsOf words → IdleOf (word ∷ words)
  unfolding walked walk_fault
  idle_step word words idles waiting p rows position true is =
      turn (stand rows (pend p) idle position true) word words
      ∙ placed_is p rows position is word words idles true (arg_by_index c position) (placing position)
  idle_step word words idles waiting p rows position false is =
      idle_word p rows position is word words idles waiting (form word)

  walks : (words : List Text) → IdleOf words × WaitsOf words
  unfolding walk_fault
  walks [] = (
    λ p rows position trailing is. settle_then p rows position is (λ r. Some r),
    λ a rows position one. unsettled a rows position one _,
  )
  walks (word ∷ words) =
      let (idles, waiting) = walks words in (
        idle_step word words idles waiting,
        λ a rows position one. value_word a rows position one word words idles (form word),
      )

  -- the rows at the end of a walk
  pub walk_is_read : (words : List Text) → run s (stand [] None idle 1 false) words ≡ read s words false None 1 []
  walk_is_read words = (walks words).0 None [] 1 false tt
