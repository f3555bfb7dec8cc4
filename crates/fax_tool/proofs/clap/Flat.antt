-- How clap reads the words of a flat command: one without subcommands, of options that take one
-- value, of flags that have no letter, and of words at places, each of which takes one.
use Rattle.std.specs.Prelude.{◌≡◌, ◌⊎◌, ◌+◌, ℕ, Bool, true, false, List, [], ◌∷◌, Option, Some, None, min, drop, length}
use Rattle.std.specs.Prelude.{encode_utf8, if◌then◌else◌, option_and_then, slice_get}
use Rattle.std.specs.Str.{bytes_eq, chars}
use Rattle.std.specs.List.{fold}
use Rattle.clap.specs.Facts.{unwrap_or_range}
use Rattle.clap.specs.Faults.{settle_fault, use_fault, walk_fault}
use Rattle.clap.specs.Kinds.{Kinds}
use Rattle.clap.specs.Lexer.{long_of, short_of, usize_max}
use Rattle.clap.specs.Simple.{Shape}
use Rattle.clap.specs.Walk.{Held, Row, Rule, Text, Waiting, Walk, action_of, arg_by_id, arg_by_index, arg_by_long}
use Rattle.clap.specs.Walk.{arg_by_short}
use Rattle.clap.specs.Walk.{attached_value, is_append, most_values, settled, takes_values, used, walked}

-- a rule that takes one value, and is found by its id
abbrev pub IsOne : List Rule → Rule → Type 0
IsOne c a = (arg_by_id c a.id ≡ Some a) × ((unwrap_or_range a.range).start_inclusive ≡ 1) × (most_values a ≡ 1)
    × (is_append (action_of a) ≡ false) × (a.trailing_var_arg ≡ false)

-- a flag that has no letter
abbrev pub IsFlag : Rule → Type 0
IsFlag a = (takes_values a ≡ false) × (a.short ≡ None) × (a.short_aliases ≡ []) × (a.index ≡ None)

abbrev pub IsFlat : List Rule → Rule → Type 0
IsFlat c a = IsOne c a ⊎ IsFlag a

-- what continues where there is no fault
abbrev pub guard : {A : Type 0} → Kinds → Option A → Option A
guard [] r = r
guard (k ∷ ks) r = None

-- ---- one word

-- what a word says, where no option before it waits for its value
pub data Said : Type 0 where
  -- a flag, or an option with its value
  says : Rule → List Text → Said
  -- an option, of which the value is the next word
  waits : Rule → Said
  -- `--`
  ends : Said
  -- a word for a place
  place : Said
  unknown : Said

abbrev pub option_said : Rule → Option Text → Said
option_said a (Some v) = says a (v ∷ [])
option_said a None = waits a

abbrev pub flag_said : Rule → Option Text → Said
flag_said a (Some v) = unknown
flag_said a None = says a []

abbrev pub rule_said : Option Rule → Option Text → Said
rule_said None v = unknown
rule_said (Some a) v = if takes_values a then option_said a v else flag_said a v

abbrev pub letter_said : List Rule → Text → Option ℕ → Said
letter_said c flags None = place
letter_said c flags (Some x) = rule_said (arg_by_short c x) (attached_value (drop (length (encode_utf8 x)) flags))

abbrev pub short_said : List Rule → Option Text → Said
short_said c None = place
short_said c (Some flags) = letter_said c flags (slice_get (chars flags) 0)

abbrev pub long_said : List Rule → Text → Option (Text × Option Text) → Said
long_said c word None = short_said c (short_of word)
long_said c word (Some p) = rule_said (arg_by_long c p.0) p.1

abbrev pub said : List Rule → Bool → Text → Said
said c trailing word =
    if trailing then place else (if bytes_eq word (45 ∷ 45 ∷ []) then ends else long_said c word (long_of word))

-- ---- all words

module _ (s : Shape) where
  -- the rows after a use, where it has no fault
  abbrev pub taken : Rule → List Text → List Row → Option (List Row)
  taken a values rows = guard (use_fault s.args_override_self a values rows) (Some (used a values rows))

  -- a word at its place
  abbrev pub placed : Option Rule → Text → List Row → (List Row → Option (List Row)) → Option (List Row)
  placed None word rows next = None
  placed (Some a) word rows next = option_and_then next (taken a (word ∷ []) rows)

  -- what a word says, and the words after it: whether `--` was there, what waits, the place and the
  -- rows
  abbrev pub Rest : Type 0
  Rest = Bool → Option Rule → ℕ → List Row → Option (List Row)

  abbrev pub after : Said → Bool → Text → ℕ → List Row → Rest → Option (List Row)
  after (says a values) trailing word position rows next = option_and_then (next trailing None position)
      (taken a values rows)
  after (waits a) trailing word position rows next = next trailing (Some a) position rows
  after ends trailing word position rows next = next true None position rows
  after place trailing word position rows next =
      placed (arg_by_index s.rules position) word rows (next trailing None (min (position + 1) usize_max))
  after unknown trailing word position rows next = None

  abbrev pub if_place : Said → Option (List Row) → Option (List Row)
  if_place place r = r
  if_place other r = None

  -- the rows after the words
  abbrev pub read : List Text → Rest
  read [] trailing None position rows = Some rows
  read [] trailing (Some a) position rows = None
  read (word ∷ words) trailing None position rows = after (said s.rules trailing word) trailing word position rows
      (read words)
  read (word ∷ words) trailing (Some a) position rows =
      if_place (said s.rules trailing word) (option_and_then (read words trailing None position)
      (taken a (word ∷ []) rows))

-- ---- the walk

abbrev pub holding : List Row → Option (Text × List Text) → Held
holding rows pending = record { rows = rows; pending = pending; skip = 0 }

abbrev pub stand : List Row → Option (Text × List Text) → Waiting → ℕ → Bool → Walk
stand rows pending waiting position trailing = record {
  held = holding rows pending;
  waiting = waiting;
  position = position;
  is_trailing = trailing;
  stopped = None;
}

-- the rows at the end of a walk without a fault
abbrev pub run : Shape → Walk → List Text → Option (List Row)
run s w words =
    let end = (fold (walked s.rules []) w words).held in
    guard (walk_fault s [] w words)
    (guard (settle_fault s.rules s.args_override_self end) (Some (settled s.rules end).rows))
