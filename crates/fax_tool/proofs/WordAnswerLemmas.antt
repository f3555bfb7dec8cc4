-- The answers of words exclude one another.
use Rattle.std.proofs.Common.{arith, ◌≡◌, ◌∙◌, Bool, ap, codes, inl, inr, refl, subst, sym, List, Option, Some, None}
use Rattle.std.proofs.Common.{map}
use mathlib.Core.HLevel.{is_prop→PathP}
use native.Mathlib.Bridge.{le_prop}
use Rattle.std.specs.Prelude.{false, true, ◌⊎◌, ◌≢◌, ◌<◌}
use Rattle.std.specs.Option.{ForSome}
use Rattle.fax_tool.specs.Grammar.{AreOfCommand, AreOfNoCommand, AskForVersion, Text, Use, text_in}
use Rattle.clap.specs.Walk.{Row, first_of}
use Rattle.clap.proofs.OnLiterals.{clap_on_literals}
use Rattle.fax_tool.proofs.WordReadLemmas.{command_is_read, command_rows, unread_is_no_command}
use Rattle.fax_tool.proofs.ParsedRowLemmas.{first_use}
use Rattle.fax_tool.proofs.UseLemmas.{row_of}
use Rattle.fax_walk.specs.Pages.{IsCursor}
use Rattle.fax_tool.specs.Text.{WalkStart}
use Rattle.fax_walk.specs.declared.options.Options.{Options}
use Rattle.fax_walk.specs.declared.options.Target.TheVariants.{Mmr, Pbm}
use Rattle.fax_walk.specs.views.Walk.{start_place}
use Rattle.fax_tool.specs.laws.Runs.{IsStartInRange}
use Rattle.fax_tool.proofs.BeginLemmas.{StartsBy, inside_of, one_started}
use Rattle.fax_tool.specs.Job.{AreOptions, Given, HasCursors, HasNoCursor, HasNoOption, HasNoTarget, IsCommand}
use Rattle.fax_tool.specs.Job.{IsFault, IsJob, IsNoUse, target_of}
use Rattle.fax_tool.specs.Job.{IsJobFault, IsJobOfCommand, IsPart, is_set}
use Rattle.fax_tool.specs.Run.{origin_of}
use Rattle.fax_walk.specs.Items.{start_cursor}
use Rattle.fax_tool.specs.code.CommandEntries.{IsNoCursor, IsNoLongCursor}
use Rattle.fax_tool.specs.Program.{file_name}
use Rattle.fax_tool.specs.laws.Words.{AskTheSame, WordsHaveOneAnswer}
use Rattle.fax_walk.specs.laws.Cursors.{TextsNameOne}
use Rattle.fax_tool.specs.declared.args.Command.{Command}
use Rattle.fax_tool.specs.declared.args.Command.TheVariants.{Check, Convert, List as Forms, Rows, Salvage, SalvageFile}
use Rattle.fax_tool.specs.declared.args.Job.{Job}
use Rattle.fax_tool.specs.declared.args.Selection.{Selection}
use Rattle.fax_tool.specs.declared.args.WordsFault.{WordsFault}
use Rattle.fax_tool.specs.declared.args.WordsFault.TheVariants.{NotACursor, Usage}
use Rattle.std.specs.Prelude.{option_and_then, option_map}
use Rattle.std.specs.String.{string_bytes}

-- words that ask for the version are those of no command
no_version : (words : List Text) → AskForVersion words → AreOfNoCommand words
unfolding clap_on_literals
no_version words (program, is) = unread_is_no_command words (ap command_rows is)

-- the words name one command, and give one text for a name
same_uses : (words : List Text) (a b : Text) (xs ys : List Use) → AreOfCommand words a xs → AreOfCommand words b ys
    → ◌≡◌ {A = Text × Given} (a, text_in xs) (b, text_in ys)
same_uses words a b xs ys remaining right =
    let both : ◌≡◌ {A = Option (Text × List Row)} (Some (a, map row_of xs)) (Some (b, map row_of ys)) =
    sym (command_is_read words a xs remaining) ∙ command_is_read words b ys right in
    let pair : ◌≡◌ {A = Text × List Row} (a, map row_of xs) (b, map row_of ys) = cc in
    let rows = ap (λ (c : Text × List Row). c.1) pair in
    λ i. ((pair i).0, λ id. (sym (first_use id xs) ∙ ap (first_of id) rows ∙ first_use id ys) i)

-- options are given by one that has a target
options_or_none : (given : Given) (options : Options) → AreOptions given options → HasNoTarget given → ⊥
options_or_none given options are none = grind arith

-- and where they are given nothing says that there is none
options_or_nothing : (given : Given) (options : Options) → AreOptions given options → HasNoOption given → ⊥
options_or_nothing given options are none =
    let target = are.target in
    let no_target = ap (option_and_then target_of) none.0 in
    let both : None ≡ Some options.target = sym no_target ∙ target in cc both

command_or_usage : (name : Text) (given : Given) (command : Command) → IsCommand name given command
    → IsNoUse name given → ⊥
command_or_usage name given command is none = grind (arith, options_or_none)

job_or_usage : (words : List Text) (job : Job) → IsJobOfCommand words job → IsJobFault words Usage → ⊥
job_or_usage words job is (inl none) = none is.name is.uses is.named
job_or_usage words job is (inr refused) =
    let same = same_uses words refused.name is.name refused.uses is.uses refused.named is.named in
    let command = subst (λ (c : Text × Given). IsNoUse c.0 c.1) same refused.command in
    command_or_usage is.name (text_in is.uses) job.command is.command command

usage_or_no_cursor : (words : List Text) → IsJobFault words Usage → IsJobFault words NotACursor → ⊥
usage_or_no_cursor words (inl none) no_cursor = none no_cursor.name no_cursor.uses no_cursor.named
usage_or_no_cursor words (inr refused) no_cursor = grind arith

-- a text of no cursor, nor of a long one where the part may have one, names nothing that the part
-- begins with
no_started : (o : Option Text) (text : Text) (part : Selection) → o ≡ Some text → HasCursors (Rows part)
    → StartsBy o (origin_of part) → IsNoCursor text → (part.from ≡ None) ⊎ IsNoLongCursor text → ⊥
no_started o text part given in_range begins none others = grind arith

-- the cursors of a part with no place inside a strip
without_place : (part : Selection) → part.from ≡ None → IsCursor part.cursor → HasCursors (Rows part)
without_place part none in_range = (in_range, rw none tt)

command_or_no_cursor : (name : Text) (given : Given) (command : Command) → HasCursors command
    → IsCommand name given command → HasNoCursor name given → ⊥
command_or_no_cursor name given command in_range is none = grind (arith, no_started)

job_or_no_cursor : (words : List Text) (job : Job) → IsJobOfCommand words job → IsJobFault words NotACursor → ⊥
job_or_no_cursor words job is none =
    let same = same_uses words none.name is.name none.uses is.uses none.named is.named in
    command_or_no_cursor is.name (text_in is.uses) job.command is.cursors is.command
    (subst (λ (c : Text × Given). HasNoCursor c.0 c.1) same none.command)

-- the numbers of what a part begins with are in their ranges
started_in_range : (part : Selection) → HasCursors (Rows part) → IsStartInRange (origin_of part)
started_in_range part in_range = grind arith

-- a text names one thing to begin with
one_named : TextsNameOne → (o : Option Text) (origin other : WalkStart) → IsStartInRange origin → IsStartInRange other
    → StartsBy o origin
    → StartsBy o other → origin ≡ other
one_named names o origin other in_range in_range' is is' = grind (arith, one_started)

one_part : TextsNameOne → (given : Given) (long : Bool) (part other : Selection) → HasCursors (Rows part)
    → HasCursors (Rows other) → IsPart given long part → IsPart given long other → part ≡ other
one_part names given long part other in_range in_range' first second =
    let origin = one_named names (given (codes "cursor")) (origin_of part) (origin_of other) (started_in_range part
    in_range)
    (started_in_range other in_range') first.begins second.begins in
    let cursor = first.cursor ∙ ap start_cursor origin ∙ sym second.cursor in
    let from = sym (inside_of part.from part.cursor) ∙ ap start_place origin ∙ inside_of other.from other.cursor in
    let max = first.max ∙ sym second.max in
    let flag = first.long_is ∙ sym second.long_is in
    λ i. record { cursor = cursor i; max = max i; long = flag i; from = from i }

one_options : (given : Given) (options other : Options) → AreOptions given options → AreOptions given other
    → options ≡ other
one_options given options other first second =
    let target : options.target ≡ other.target = let both = sym first.target ∙ second.target in cc both in
    let order = first.order ∙ sym second.order in
    let k = first.k ∙ sym second.k in
    let strip = first.strip ∙ sym second.strip in
    let aligned = first.aligned ∙ sym second.aligned in
    λ i. record {
      target = target i;
      order = order i;
      k = k i;
      strip = strip i;
      aligned = aligned i;
      some_k = is_prop→PathP (λ j. 0 < k j) (λ j. le_prop) options.some_k other.some_k i;
      some_strip = is_prop→PathP (λ j. ForSome (strip j) (λ rows. 0 < rows)) (λ j. hlevel le_prop) options.some_strip
          other.some_strip i;
      aligned_is_no_pbm = is_prop→PathP (λ j. aligned j ≡ true → target j ≢ Pbm) (λ j. hlevel)
          options.aligned_is_no_pbm other.aligned_is_no_pbm i;
      aligned_is_no_mmr = is_prop→PathP (λ j. aligned j ≡ true → target j ≢ Mmr) (λ j. hlevel)
          options.aligned_is_no_mmr other.aligned_is_no_mmr i;
    }

-- a command's name and what is given after it give one command
one_command : TextsNameOne → (name : Text) (given : Given) (command other : Command) → HasCursors command
    → HasCursors other → IsCommand name given command → IsCommand name given other → command ≡ other
one_command names name given (Forms part) (Forms other) in_range in_range' first second =
    ap (λ (p : Selection). Forms p) (one_part names given false part other (without_place part first.2 in_range)
    (without_place other second.2 in_range') first.1 second.1)
one_command names name given (Rows part) (Rows other) in_range in_range' first second =
    ap (λ (p : Selection). Rows p)
    (one_part names given (is_set (codes "long") given) part other in_range in_range' first.1 second.1)
one_command names name given (Convert options) (Convert other) in_range in_range' first second =
    ap (λ (o : Options). Convert o) (one_options given options other first.1 second.1)
one_command names name given (Check received) (Check other) in_range in_range' first second =
    ap (λ (flag : Bool). Check flag) (first.1 ∙ sym second.1)
one_command names name given Salvage Salvage in_range in_range' first second = refl
one_command names name given (SalvageFile options) (SalvageFile other) in_range in_range' first second =
    ap (λ (o : Options). SalvageFile o) (one_options given options other first.1 second.1)
one_command names name given Salvage (SalvageFile options) in_range in_range' first second =
    absurd (options_or_nothing given options second.1 first.1)
one_command names name given (SalvageFile options) Salvage in_range in_range' first second =
    absurd (options_or_nothing given options first.1 second.1)
one_command names name given command other in_range in_range' first second = grind arith

same_of_command : TextsNameOne → (words : List Text) (job other : Job) → IsJobOfCommand words job
    → IsJobOfCommand words other → AskTheSame job other
same_of_command names words job other first second =
    let same = same_uses words second.name first.name second.uses first.uses second.named first.named in
    let command = subst (λ (c : Text × Given). IsCommand c.0 c.1 other.command) same second.command in
    let file = subst (λ (c : Text × Given). file_name other ≡ c.1 (codes "FILE")) same second.file in
    record {
      command = one_command names first.name (text_in first.uses) job.command other.command first.cursors second.cursors
          first.command command;
      file = first.file ∙ sym file;
    }

one_job : TextsNameOne → (words : List Text) (job other : Job) → IsJob words job → IsJob words other
    → AskTheSame job other
one_job names words job other (inl first) (inl second) = same_of_command names words job other first second
one_job names words job other (inl first) (inr asked) =
    absurd (no_version words asked.0 first.name first.uses first.named)
one_job names words job other (inr asked) (inl second) =
    absurd (no_version words asked.0 second.name second.uses second.named)
one_job names words job other (inr (asked, command, file)) (inr (asked', command', file')) = record {
  command = command ∙ sym command';
  file = ap (option_map string_bytes) (file ∙ sym file');
}

-- a job, where a job of a command is none
no_other : (words : List Text) (job : Job) (fault : WordsFault) → IsJob words job → IsFault words fault
    → (IsJobOfCommand words job → IsJobFault words fault → ⊥) → ⊥
no_other words job fault (inl is) (of, unasked) none = none is of
no_other words job fault (inr is) (of, unasked) none = unasked is.0

pub words_have_one_answer : TextsNameOne → WordsHaveOneAnswer
words_have_one_answer names words = record {
  one_job = one_job names words;
  job_or_usage = λ job is of. no_other words job Usage is of (job_or_usage words job);
  job_or_no_cursor = λ job is of. no_other words job NotACursor is of (job_or_no_cursor words job);
  usage_or_no_cursor = λ usage no_cursor. usage_or_no_cursor words usage.0 no_cursor.0;
}
