-- Where clap takes the words, they are read, and the entries are as they say.
use Rattle.std.proofs.Common.{arith, ◌≡◌, ◌∙◌, ◌⊎◌, ap, ap₂, codes, inl, inr, lit<, refl, sym}
use Rattle.std.proofs.Common.{subst, true, false, List, [], ◌∷◌, Option, Some, None, is_some, map}
use Rattle.std.specs.Prelude.{find, option_and_then, option_map}
use Rattle.std.specs.List.{All, AllByRecursion, Contains, fold, list_all}
use Rattle.std.proofs.lemmas.List.Elements.{All-contains, All-from_recursion, All-tail}
use Rattle.std.proofs.Math.Bool.{and-false}
use Rattle.std.specs.Str.{IsUtf8, bytes_eq}
use Rattle.std.proofs.lemmas.Slice.Eq.{bytes_eq-Decides}
use Rattle.clap.specs.Kinds.{Kinds, or_else}
use Rattle.clap.specs.Walk.{Row, Rule, Text, Walk, arg_by_id, arg_by_index, bundle_met, answers_to, first_of, idle}
use Rattle.clap.specs.Walk.{nothing_held}
use Rattle.clap.specs.Walk.{rows_after, finished, settled, subcommand_met, walk_from, walked}
use Rattle.clap.specs.Simple.{App, Shape, built, entered, label_of, names_of, subcommand_of}
use Rattle.clap.specs.Faults.{check_fault, defaults_fault, entered_fault, fault_of, flags_fault, level_fault}
use Rattle.clap.specs.Faults.{settle_fault, walk_fault}
use Rattle.clap.proofs.FaultLemmas.{stopped_fault}
use Rattle.clap.proofs.WalkLemmas.{walk_stopped}
use Rattle.clap.proofs.OnLiterals.{clap_on_literals}
use Rattle.fax_tool.specs.code.CommandLine.{faxpages_app}
use Rattle.fax_tool.specs.Grammar.{AreOfCommand, AreOfNoCommand, AreSpelled, IsSpelled, Item, Use, commands, file, flag}
use Rattle.fax_tool.specs.Grammar.{name_of, number, text_in, form_items}
use Rattle.fax_tool.specs.code.Scan.{is_taken, takes}
use Rattle.fax_tool.proofs.GrammarLemmas.{apart_scanned, number_scanned, scanned_apart}
use Rattle.fax_tool.proofs.RuleLemmas.{items_at, rule_of, rules_of}
use Rattle.fax_tool.proofs.UseLemmas.{leaf, row_of}
use Rattle.fax_tool.proofs.SpellLemmas.{IsKnown, letter_read, spelled}
use Rattle.fax_tool.proofs.ShapeLemmas.{all_spelled}
use Rattle.fax_tool.proofs.clap.Flat.{IsFlat, guard, read}
use Rattle.fax_tool.proofs.clap.FlatLemmas.{Form, found as found_in, as_end, as_letter, as_long, as_place, form}
use Rattle.fax_tool.proofs.ParsedRowLemmas.{ended, entered_from, filled_rows, flag_filled, is_true}
use Rattle.fax_tool.proofs.ParsedRowLemmas.{level, rows_entered, text_filled}

-- each text is one that its item takes
use_taken : (item : Item) (value : Text) (own : List Text) → IsSpelled item value own → takes item value ≡ true
use_taken (number name most) value own is = number_scanned most value is.1
use_taken item value own is = refl

uses_taken : (items : List Item) (uses : List Use) (words : List Text) → AreSpelled items uses words
    → list_all is_taken uses ≡ true
uses_taken items [] words is = refl
uses_taken items (u ∷ us) words (inl (own, others, split, among, is, more)) =
    grind (arith, use_taken, uses_taken items us others more)
uses_taken items (u ∷ us) words (inr (as_file, none, is)) = rw (as_file, none) refl

-- ---- the command's name

abbrev program : App
program = built faxpages_app

abbrev stand_at : Walk
stand_at = walk_from nothing_held

abbrev level_body : Kinds → Walk → Kinds
level_body turns w =
    or_else turns (or_else (entered_fault program w.stopped) (or_else
    (settle_fault program.top.rules program.top.args_override_self w.held)
    (or_else (defaults_fault (settled program.top.rules w.held).rows program.top.rules)
    (check_fault program.top (finished program.top.rules w.held) (is_some (entered program w.stopped))))))

named_fault : (name : Text) (rest : List Text) → subcommand_met (names_of program) idle name ≡ Some name
    → walk_fault program.top (names_of program) stand_at (name ∷ rest) ≡ []
unfolding walk_fault walked
named_fault name rest met = rw (met, and-false (bytes_eq name (codes "help")))
    (stopped_fault program.top (names_of program) stand_at (name, []) rest)

named_walk : (name : Text) (rest : List Text) → subcommand_met (names_of program) idle name ≡ Some name
    → fold (walked program.top.rules (names_of program)) stand_at (name ∷ rest)
    ≡ record stand_at { stopped = Some (name, rest) }
unfolding walked
named_walk name rest met = rw met (sym (walk_stopped program.top.rules (names_of program) stand_at name [] rest))

or_nothing : (a : Kinds) → or_else a [] ≡ a
or_nothing a = grind arith

fault_named : (own name : Text) (rest : List Text) (s : Shape) → subcommand_met (names_of program) idle name ≡ Some name
    → find (λ s. answers_to name (label_of s)) program.subs ≡ Some s
    → fault_of faxpages_app (own ∷ name ∷ rest) ≡ level_fault s [] nothing_held rest false []
unfolding defaults_fault
fault_named own name rest s met found =
    ap₂ level_body (named_fault name rest met) (named_walk name rest met) ∙ rw found (or_nothing _)

command_named : (own name : Text) (rest : List Text) (s : Shape)
    → subcommand_met (names_of program) idle name ≡ Some name
    → find (λ s. answers_to name (label_of s)) program.subs ≡ Some s
    → subcommand_of faxpages_app (own ∷ name ∷ rest) ≡ Some (s.name, rows_after s.rules [] rest)
command_named own name rest s met found = grind (arith, named_walk)

-- ---- a word that names no command

unnamed : (word : Text) (rest : List Text) → Form word → subcommand_met (names_of program) idle word ≡ None
    → level_body (walk_fault program.top (names_of program) stand_at (word ∷ rest))
    (fold (walked program.top.rules (names_of program)) stand_at (word ∷ rest)) ≡ [] → ⊥
unfolding walk_fault walked bundle_met flags_fault defaults_fault
unnamed word [] (as_end is_end says_is) met none = let h = rw (met, is_end) at none in cc
unnamed word (other ∷ rest) (as_end is_end says_is) met none = let h = rw (met, is_end) at none in cc
unnamed word rest (as_long p no_end form says_is) met none = let h = rw (met, no_end, form) at none in cc
unnamed word rest (as_letter b bs x no_end no_long form char says_is) met none = grind arith
unnamed word rest (as_place no_end no_long (inl short) says_is) met none =
    let h = rw (met, no_end, no_long, short) at none in cc
unnamed word rest (as_place no_end no_long (inr (b, bs, form, short)) says_is) met none = grind arith

-- ---- one command

abbrev pub AreTaken : List Text → Type 0
AreTaken words = fault_of faxpages_app words ≡ []

abbrev pub command_of : List Text → Option (Text × List Row)
command_of = subcommand_of faxpages_app

-- ---- all commands

-- the entries give what the uses give
pub record Agrees (entries : List Row) (uses : List Use) : Type 0 where
  pub cursor : first_of (codes "cursor") entries ≡ text_in uses (codes "cursor")
  pub max : first_of (codes "max") entries ≡ text_in uses (codes "max")
  pub target : first_of (codes "o") entries ≡ text_in uses (codes "o")
  pub order : first_of (codes "order") entries ≡ text_in uses (codes "order")
  pub k : first_of (codes "k") entries ≡ text_in uses (codes "k")
  pub strip : first_of (codes "strip") entries ≡ text_in uses (codes "strip")
  pub name : first_of (codes "FILE") entries ≡ text_in uses (codes "FILE")
  pub long : is_true (first_of (codes "long") entries) ≡ is_true (text_in uses (codes "long"))
  pub align : is_true (first_of (codes "align") entries) ≡ is_true (text_in uses (codes "align"))
  pub received : is_true (first_of (codes "received") entries) ≡ is_true (text_in uses (codes "received"))

abbrev AreAgreeing : Text × List Item → Type 0
AreAgreeing command = (uses : List Use) → Agrees (filled_rows command.1 uses) uses

all_agree : All AreAgreeing commands
all_agree = grind (arith, text_filled, flag_filled)

-- the words are those of this command, and the entries are those of its uses, with which they agree
abbrev pub IsReadAs : List Text → Text → List Row → Type 0
IsReadAs words name entries = (uses : List Use) × (are : AreOfCommand words name uses) × Agrees entries uses
    × (entries ≡ filled_rows are.items uses)

-- clap takes the words and they are read, or neither
abbrev Outcome : List Text → Type 0
Outcome words = ((AreTaken words → ⊥) × AreOfNoCommand words)
    ⊎ (AreTaken words × (name : Text) × (entries : List Row) × (command_of words ≡ Some (name, entries))
    × IsReadAs words name entries)

-- what is known of a command
pub record IsOwn (command : Text × List Item) : Type 0 where
  met : subcommand_met (names_of program) idle command.0 ≡ Some command.0
  named : find (λ s. answers_to command.0 (label_of s)) program.subs ≡ Some (leaf command.0 command.1)
  first : arg_by_index (rules_of command.1) 1 ≡ Some (rule_of file)
  second : arg_by_index (rules_of command.1) 2 ≡ None
  has_file : Contains command.1 file
  each : AllByRecursion (IsKnown (rules_of command.1)) command.1

flat_item : (c : List Rule) (item : Item) → arg_by_id c (name_of item) ≡ Some (rule_of item) → IsFlat c (rule_of item)
flat_item c (flag own) id = inr (refl, refl, refl, refl)
flat_item c item id = inl (id, refl, refl, refl, refl)

flat_items : (c : List Rule) (items : List Item) → AllByRecursion (IsKnown c) items
    → AllByRecursion (IsFlat c) (rules_of items)
flat_items c [] known = tt
flat_items c (item ∷ items) known = (flat_item c item known.0.0, flat_items c items known.1)

-- a command, by what computes at its words
own_of : (name : Text) (items : List Item) → subcommand_met (names_of program) idle name ≡ Some name
    → find (λ s. answers_to name (label_of s)) program.subs ≡ Some (leaf name items)
    → arg_by_index (rules_of items) 1 ≡ Some (rule_of file) → arg_by_index (rules_of items) 2 ≡ None
    → Contains items file → AllByRecursion (IsKnown (rules_of items)) items → IsOwn (name, items)
own_of name items met named first second has_file each = record {
  met = met;
  named = named;
  first = first;
  second = second;
  has_file = has_file;
  each = each;
}

-- what may stand after a command that writes pages
form_items_known : AllByRecursion (IsKnown (rules_of form_items)) form_items
unfolding clap_on_literals
form_items_known = (
  (refl, (λ value. refl, letter_read form_items 111 (λ b bs. refl), refl), (refl, lit< tt)),
  (
    (refl, (λ value. refl, refl), lit< tt),
    (
      (refl, (λ value. refl, refl), lit< tt),
      (
        (refl, (λ value. refl, refl), lit< tt),
        ((refl, refl, tt), ((refl, tt, tt), tt)),
      ),
    ),
  ),
)

pub own_commands : All IsOwn commands
unfolding clap_on_literals
own_commands = All-from_recursion IsOwn commands (
  own_of (codes "list") (items_at 0) refl refl refl refl (2, lit< tt, refl)
      ((refl, (λ value. refl, refl), tt), ((refl, (λ value. refl, refl), lit< tt), ((refl, tt, tt), tt))),
  (
    own_of (codes "rows") (items_at 1) refl refl refl refl (2, lit< tt, refl) (
      (refl, (λ value. refl, refl), tt),
      (
        (refl, (λ value. refl, refl), lit< tt),
        ((refl, tt, tt), ((refl, refl, tt), tt)),
      ),
    ),
    (
      own_of (codes "convert") form_items refl refl refl refl (5, lit< tt, refl) form_items_known,
      (
        own_of (codes "check") (items_at 3) refl refl refl refl (0, lit< tt, refl)
            ((refl, tt, tt), ((refl, refl, tt), tt)),
        (own_of (codes "salvage") form_items refl refl refl refl (5, lit< tt, refl) form_items_known, tt),
      ),
    ),
  ),
)

-- ---- the commands' words

-- the command that the words name, and the rows of the words after it
abbrev pub command_rows : List Text → Option (Text × List Row)
command_rows (own ∷ name ∷ words) = option_and_then (λ c. option_map {U = Text × List Row} (λ rows. (c.0, rows))
    (read (leaf c.0 c.1) words false None 1 [])) (find (λ c. bytes_eq c.0 name) commands)
command_rows words = None

known_item : {command : Text × List Item} → IsOwn command → (item : Item) → Contains command.1 item
    → IsKnown (rules_of command.1) item
known_item is item among = All-contains (IsKnown _) _ item (All-from_recursion (IsKnown _) _ is.each) among

abbrev IsNamed : Text × List Item → Type 0
IsNamed command = (program : Text) (words : List Text) → command_rows (program ∷ command.0 ∷ words)
    ≡ option_map {U = Text × List Row} (λ rows. (command.0, rows))
    (read (leaf command.0 command.1) words false None 1 [])

all_named : All IsNamed commands
all_named = grind arith

-- the words of a command are read as the rows of its uses
pub command_is_read : (words : List Text) (name : Text) (uses : List Use) → AreOfCommand words name uses
    → command_rows words ≡ Some (name, map row_of uses)
command_is_read words name uses is =
    let own = All-contains IsOwn commands (name, is.items) own_commands is.known in
    let named = All-contains IsNamed commands (name, is.items) all_named is.known is.program is.others in
    let reads = spelled name is.items own.first own.second (known_item own) uses is.others false [] tt is.written in
    let taken = uses_taken is.items uses is.others is.written in
    rw (is.are, named, reads, entered_from [] uses, apart_scanned uses is.once, taken)

-- and words that are not read are those of no command
pub unread_is_no_command : (words : List Text) → command_rows words ≡ None → AreOfNoCommand words
unread_is_no_command words none name uses is = let read_is = sym none ∙ command_is_read words name uses is in cc

-- rows that are read are those of uses that the words spell
of_command : (command : Text × List Item) → Contains commands command
    → (own : Text) (rest : List Text) (rows : List Row)
    → All IsUtf8 rest → read (leaf command.0 command.1) rest false None 1 [] ≡ Some rows
    → (uses : List Use) × (are : AreOfCommand (own ∷ command.0 ∷ rest) command.0 uses) × (rows ≡ map row_of uses)
    × (are.items ≡ command.1)
of_command command among own rest rows utf8 is =
    let known = All-contains IsOwn commands command own_commands among in
    let (uses, written, into) = (all_spelled command.0 command.1 known.first known.second known.has_file
    (λ item of. (known_item known item of).2) rest).0 false [] rows utf8 is in
    let of = rows_entered uses rows into in (
      uses,
      record {
        program = own;
        items = command.1;
        others = rest;
        are = refl;
        known = among;
        written = written;
        once = scanned_apart uses of.0;
      },
      of.1,
      refl,
    )

-- where a word names a command
named_command : (word : Text) → (find (λ c. bytes_eq c.0 word) commands ≡ None)
    ⊎ ((items : List Item) × Contains commands (word, items))
named_command word = go (find (λ c. bytes_eq c.0 word) commands) refl
  where
    go : (o : Option (Text × List Item)) → find (λ c. bytes_eq c.0 word) commands ≡ o
        → (find (λ c. bytes_eq c.0 word) commands ≡ None) ⊎ ((items : List Item) × Contains commands (word, items))
    go None at = inl at
    go (Some (name, items)) at =
        let (among, named) = found_in (λ c. bytes_eq c.0 word) commands (name, items) at in
        inr (items, rw ((bytes_eq-Decides name word).0 named) at among)

pub read_is_of_command : (words : List Text) (name : Text) (rows : List Row) → All IsUtf8 words
    → command_rows words ≡ Some (name, rows)
    → (uses : List Use) × AreOfCommand words name uses × (rows ≡ map row_of uses)
read_is_of_command [] name rows utf8 is = cc
read_is_of_command (own ∷ []) name rows utf8 is = cc
read_is_of_command (own ∷ word ∷ rest) name rows utf8 is = elim (named_command word) [
  | inl none ↦ let no = rw none at is in cc
  | inr (items, among) ↦ go items among (read (leaf word items) rest false None 1 []) refl
      (sym (All-contains IsNamed commands (word, items) all_named among own rest) ∙ is)
]
  where
    go : (items : List Item) → Contains commands (word, items) → (o : Option (List Row))
        → read (leaf word items) rest false None 1 [] ≡ o
        → option_map {U = Text × List Row} (λ rows. (word, rows)) o ≡ Some (name, rows)
        → (uses : List Use) × AreOfCommand (own ∷ word ∷ rest) name uses × (rows ≡ map row_of uses)
    go items among None reads is = cc
    go items among (Some r) reads is =
        let pair : ◌≡◌ {A = Text × List Row} (word, r) (name, rows) = cc in
        let of = of_command (word, items) among own rest r (All-tail IsUtf8 word rest
        (All-tail IsUtf8 own (word ∷ rest) utf8)) reads in
        subst (λ (c : Text × List Row). (uses : List Use) × AreOfCommand (own ∷ word ∷ rest) c.0 uses
        × (c.1 ≡ map row_of uses)) pair (of.0, of.1, of.2)

guard_none : {A : Type 0} (k : Kinds) (x : A) → guard k (Some x) ≡ None → k ≡ [] → ⊥
guard_none k x is none = grind arith

guard_some : {A : Type 0} (k : Kinds) (x y : A) → guard k (Some x) ≡ Some y → (k ≡ []) × (x ≡ y)
guard_some [] x y is = (refl, cc)
guard_some (k ∷ ks) x y is = cc

-- words of this command
outcome : (name : Text) (items : List Item) → Contains commands (name, items) → (own : Text) (rest : List Text)
    → All IsUtf8 rest → Outcome (own ∷ name ∷ rest)
outcome name items among own rest utf8 =
    go (read (leaf name items) rest false None 1 []) refl (level name items
    (All-from_recursion (IsFlat (rules_of items)) (rules_of items) (flat_items (rules_of items) items is.each)) rest)
  where
    is : IsOwn (name, items)
    is = All-contains IsOwn commands (name, items) own_commands among

    entries : List Row
    entries = rows_after (rules_of items) [] rest

    fault_is : fault_of faxpages_app (own ∷ name ∷ rest) ≡ level_fault (leaf name items) [] nothing_held rest false []
    fault_is = fault_named own name rest (leaf name items) is.met is.named

    go : (o : Option (List Row)) → read (leaf name items) rest false None 1 [] ≡ o
        → guard (level_fault (leaf name items) [] nothing_held rest false []) (Some entries)
        ≡ option_and_then (ended name items) o
        → Outcome (own ∷ name ∷ rest)
    go None none at = inl (
      λ taken. guard_none _ entries at (sym fault_is ∙ taken),
      unread_is_no_command (own ∷ name ∷ rest)
          (rw (All-contains IsNamed commands (name, items) all_named among own rest, none)),
    )
    go (Some rows) reads at =
        let (uses, are, same, items_are) = of_command (name, items) among own rest rows utf8 reads in
        let (none, entries_are) = guard_some _ entries (filled_rows items uses) (at ∙ ap (ended name items) same) in
        let named = command_named own name rest (leaf name items) is.met is.named in
        let agree = All-contains AreAgreeing commands (name, items) all_agree among uses in
        inr (fault_is ∙ none, name, entries, named, (uses, are, rw entries_are agree, rw items_are entries_are))

-- no command is met by a word that is no command's name
unnamed_met : (word : Text) (all : List (Text × List Item)) → find (λ command. bytes_eq command.0 word) all ≡ None
    → subcommand_met (map (λ command. (command.0, [])) all) idle word ≡ None
unnamed_met word [] none = refl
unnamed_met word (command ∷ all) none = grind (arith, unnamed_met word all)

read_or_not : (words : List Text) → All IsUtf8 words → Outcome words
unfolding clap_on_literals
read_or_not [] utf8 = inl (λ taken. cc, unread_is_no_command [] refl)
read_or_not (own ∷ []) utf8 = inl (λ taken. cc, unread_is_no_command (own ∷ []) refl)
read_or_not (own ∷ word ∷ rest) utf8 = elim (named_command word) [
  | inl none ↦
      let no_command = unread_is_no_command (own ∷ word ∷ rest) (rw none refl) in
      inl (unnamed word rest (form word) (unnamed_met word commands none), no_command)
  | inr (items, among) ↦ outcome word items among own rest (All-tail IsUtf8 word rest
      (All-tail IsUtf8 own (word ∷ rest) utf8))
]

-- words that clap takes are read
pub taken_is_read : (words : List Text) (name : Text) (entries : List Row) → All IsUtf8 words → AreTaken words
    → command_of words ≡ Some (name, entries) → IsReadAs words name entries
taken_is_read words name entries utf8 taken named = elim (read_or_not words utf8) [
  | inl (untaken, unread) ↦ absurd (untaken taken)
  | inr (_, own, rows, own_is, reads) ↦
      let pair : ◌≡◌ {A = Text × List Row} (own, rows) (name, entries) = let both = sym own_is ∙ named in cc in
      subst (λ (c : Text × List Row). IsReadAs words c.0 c.1) pair reads
]

-- and those that it does not take are those of no command
pub untaken_is_unread : (words : List Text) → All IsUtf8 words → (AreTaken words → ⊥) → AreOfNoCommand words
untaken_is_unread words utf8 untaken = elim (read_or_not words utf8)
    [ inl (_, unread) ↦ unread | inr of ↦ absurd (untaken of.0) ]
