use Rattle.std.proofs.Common.{arith, ◌≡◌, ◌∙◌, inl, inr, refl, rules, subst, sym, true, List, [], Option, Some}
use Rattle.std.proofs.Common.{None, Ok, Err}
use Rattle.std.specs.Prelude.{◌≢◌, option_map, IfErr, Result}
use Rattle.std.specs.List.{All}
use Rattle.std.specs.Result.{IsErrAnd}
use Rattle.std.specs.Str.{IsUtf8}
use Rattle.clap.proofs.TakesLemmas.{passed_up}
use Rattle.clap.specs.Walk.{Row}
use Rattle.clap.specs.Faults.{fault_of, is_simple_and_free}
use Rattle.clap.specs.Simple.{App, HasMatchesOf, is_simple, subcommand_of, subcommand_rows}
use Rattle.clap.specs.Matches.{subcommand_name_of}
use Rattle.clap.proofs.WalkLemmas.{both}
use Rattle.clap.specs.declared.parser.matches.ArgMatches.TheViews.{out-ArgMatches}
use Rattle.clap.specs.declared.parser.matches.ArgMatches.{ArgMatches}
use Rattle.clap.proofs.OnLiterals.{clap_on_literals}
use Rattle.clap.specs.Kinds.{FailsBy, HasKind}
use Rattle.clap.specs.Values.{kind_of}
use Rattle.clap.specs.declared.error.Error.{Error}
use Rattle.clap.specs.declared.error.kind.ErrorKind.TheVariants.{OutOfMemory}
use Rattle.fax_tool.specs.Grammar.{Text, texts}
use Rattle.fax_tool.specs.code.CommandLine.{faxpages_app}
use Rattle.fax_tool.specs.code.CommandEntries.{IsCommandFault, entries_of, given_by}
use Rattle.fax_tool.specs.Job.{IsJobFault}
use Rattle.fax_tool.specs.declared.args.WordsFault.{WordsFault}
use Rattle.fax_tool.specs.declared.args.WordsFault.TheVariants.{Memory, NotACursor, Usage}
use Rattle.fax_tool.proofs.AgreeLemmas.{command_agrees, no_use_agrees}
use Rattle.fax_tool.proofs.CommandEntryLemmas.{taken_entries}
use Rattle.fax_tool.proofs.WordReadLemmas.{AreTaken, IsReadAs, command_of, taken_is_read, untaken_is_unread}
use Rattle.fax_tool.proofs.args.job_of.Goals as goal
use Rattle.fax_tool.proofs.args.job_of.Goals.{In-Some}

-- words are taken where a parse gives matches
taken_by : (own app : App) (words : List Text) (r : Result ArgMatches Error) (m : ArgMatches) → own ≡ app
    → is_simple_and_free app ≡ true → (is_simple_and_free own ≡ true → FailsBy (fault_of own words) r) → r ≡ Ok m
    → fault_of app words ≡ []
taken_by own app words r m is simple kinds ok =
    let fails = subst (λ a. is_simple_and_free a ≡ true → FailsBy (fault_of a words) r) is kinds simple in
    rw ok at fails

-- and its error is of a kind that they give
failed_by : (own app : App) (words : List Text) (r : Result ArgMatches Error) (e : Error) → own ≡ app
    → is_simple_and_free app ≡ true → (is_simple_and_free own ≡ true → FailsBy (fault_of own words) r) → r ≡ Err e
    → HasKind (fault_of app words) e
failed_by own app words r e is simple kinds err =
    let fails = subst (λ a. is_simple_and_free a ≡ true → FailsBy (fault_of a words) r) is kinds simple in
    rw err at fails

pair_of : {P A B : Type 0} (s : Option P) (f : P → A) (g : P → B) (a : A) (b : B) → Some a ≡ option_map f s
    → Some b ≡ option_map (λ p. p.1) (option_map {U = A × B} (λ x. (f x, g x)) s)
    → option_map {U = A × B} (λ x. (f x, g x)) s ≡ Some (a, b)
pair_of None f g a b first second = cc
pair_of (Some x) f g a b first second = let one : a ≡ f x = cc in let two : b ≡ g x = cc in rw (one, two) refl

-- the command that a parse met
named_by : (own app : App) (words : List Text) (m : ArgMatches) (a : Text) (b : List Row) → own ≡ app
    → is_simple_and_free app ≡ true → HasMatchesOf own words m → Some a ≡ subcommand_name_of m
    → Some b ≡ option_map (λ p. p.1) (subcommand_rows (out-ArgMatches m).subcommand)
    → subcommand_of app words ≡ Some (a, b)
named_by own app words m a b is simple matches name rows =
    let has = subst (λ x. HasMatchesOf x words m) is matches (both (is_simple app) _ simple).0 in
    sym has.1 ∙ pair_of (out-ArgMatches m).subcommand _ _ a b name rows

is_simple_app : is_simple_and_free faxpages_app ≡ true
unfolding clap_on_literals
is_simple_app = refl

taken : (c : In-Some) → AreTaken (texts c.args.words.now)
taken c =
    taken_by _ faxpages_app (texts c.args.words.now) c.try_get_matches_from.result c.in_ok-matches.matches
    c.in_ok-command_line.ensures.0 is_simple_app c.try_get_matches_from.ensures.kinds c.in_ok-matches.was

named : (c : In-Some) → command_of (texts c.args.words.now) ≡ Some
    (c.in-Some.name.now, entries_of c.in-Some.of_command.now)
named c =
    named_by _ faxpages_app (texts c.args.words.now) c.in_ok-matches.matches c.in-Some.name.now
    (entries_of c.in-Some.of_command.now) c.in_ok-command_line.ensures.0 is_simple_app c.in_ok-matches.ensures.matches
    c.in-Some.ensures.name c.in-Some.ensures.rows

-- the words are texts
utf8 : (c : In-Some) → All IsUtf8 (texts c.args.words.now)
utf8 c = search rules

-- what the words are read as
of_words : (c : In-Some) → IsReadAs (texts c.args.words.now) c.in-Some.name.now (entries_of c.in-Some.of_command.now)
of_words c =
    taken_is_read (texts c.args.words.now) c.in-Some.name.now (entries_of c.in-Some.of_command.now) (utf8 c) (taken c)
    (named c)

pub command_of-requires : goal.command_of-requires
command_of-requires c =
    taken_entries (texts c.args.words.now) c.in-Some.name.now (entries_of c.in-Some.of_command.now) (of_words c)

refused : (words : List Text) (name : Text) (entries : List Row) (fault : WordsFault) → IsReadAs words name entries
    → IsCommandFault name (given_by entries) fault → IsJobFault words fault
refused words name entries Usage (uses, are, agrees, _) is = inr (record {
  name = name;
  uses = uses;
  named = are;
  command = no_use_agrees entries uses agrees name is;
})
refused words name entries NotACursor of is = grind arith
refused words name entries Memory of is = tt

pub returns-in_err-command_of-clause-fault : goal.returns-in_err-command_of-clause-fault
returns-in_err-command_of-clause-fault c =
    let at = (goal.at.returns-in_err-command_of-clause-fault c).In-Some in
    let words = texts c.args.words.now in
    passed_up c.from_residual-in_err-command_of.result c.in_err-command_of.field-0.0 (IsJobFault words)
    c.from_residual-in_err-command_of.ensures.1
    (refused words c.in-Some.name.now (entries_of c.in-Some.of_command.now) c.in_err-command_of.field-0.0 (of_words at)
    c.in_err-command_of.ensures.fault)

pub returns-clause-job : goal.returns-clause-job
returns-clause-job c =
    let of = of_words (goal.at.returns-clause-job c).In-Some in
    let entries = entries_of c.in-Some.of_command.now in
    record {
      name = c.in-Some.name.now;
      uses = of.0;
      named = of.1;
      command = command_agrees entries of.0 of.2 c.in-Some.name.now c.in_ok-command_of.field-0
          c.in_ok-command_of.ensures.command;
      cursors = c.in_ok-command_of.ensures.cursors;
      file = c.in_ok-file_of.ensures ∙ of.2.name;
    }

-- words that clap does not take
unread : (words : List Text) → All IsUtf8 words → (AreTaken words → ⊥) → IsJobFault words Usage
unread words utf8 untaken = inl (untaken_is_unread words utf8 untaken)

untaken_up : {T : Type 0} (r : Result T WordsFault) (words : List Text) (error : Error) → All IsUtf8 words
    → IsErrAnd r (λ gives. (gives ≢ NotACursor) × (gives ≡ Usage → kind_of error ≢ OutOfMemory))
    → HasKind (fault_of faxpages_app words) error → IfErr r (IsJobFault words)
untaken_up r words error utf8 gives is = grind (arith, unread)

pub returns-in_err-matches-clause-fault : goal.returns-in_err-matches-clause-fault
returns-in_err-matches-clause-fault c =
    let words = texts c.args.words.now in
    let texts_are : All IsUtf8 words = search rules in
    let kinds = failed_by _ faxpages_app words c.try_get_matches_from.result c.in_err-matches.field-0.0
    c.in_ok-command_line.ensures.0 is_simple_app c.try_get_matches_from.ensures.kinds c.in_err-matches.was in
    untaken_up c.from_residual-in_err-matches.result words c.in_err-matches.field-0.0 texts_are
    c.from_residual-in_err-matches.ensures.1 kinds
