-- The examples of words, computed.
use Rattle.std.proofs.Common.{◌≡◌, ◌∙◌, ◌<◌, ap, arith, codes, refl, Bool, true, List, [], ◌∷◌, Option, Some, None, ℕ}
use Rattle.std.proofs.Common.{sym}
use Rattle.std.specs.Prelude.{nat_lt, option_map}
use Rattle.std.specs.List.{All, list_all}
use Rattle.std.specs.Str.{IsUtf8}
use Rattle.std.proofs.lemmas.List.Elements.{All-cons, All-nil}
use Rattle.std.proofs.lemmas.Bool.Decides.{nat_tests}
use Rattle.std.proofs.lemmas.Str.{IsUtf8-from_ascii}
use Rattle.std.proofs.lemmas.Str.Ascii.{IsAscii-from_all}
use Rattle.clap.proofs.OnLiterals.{clap_on_literals}
use Rattle.clap.proofs.WalkLemmas.{both}
use Rattle.clap.specs.Walk.{Row, first_of}
use Rattle.fax_tool.specs.Grammar.{Text}
use Rattle.fax_tool.specs.Job.{Given}
use Rattle.fax_tool.specs.laws.WordExamples.{AreNotTaken, AreSpellingsRead, Gives, GivesNothing, words_of}
use Rattle.fax_tool.proofs.WordReadLemmas.{command_rows, read_is_of_command, unread_is_no_command}
use Rattle.fax_tool.proofs.ParsedRowLemmas.{first_use}

-- each byte is ASCII
abbrev is_ascii : Text → Bool
is_ascii = list_all (λ b. nat_lt b 128)

ascii_bytes : (word : Text) → is_ascii word ≡ true → All (λ b. b < 128) word
ascii_bytes [] ascii = All-nil (λ b. b < 128)
ascii_bytes (b ∷ bs) ascii =
    let of = both (nat_lt b 128) (is_ascii bs) ascii in
    let test = of.0 in
    All-cons (λ b. b < 128) b bs (grind (arith, nat_tests)) (ascii_bytes bs of.1)

all_utf8 : (words : List Text) → list_all is_ascii words ≡ true → All IsUtf8 words
all_utf8 [] ascii = All-nil IsUtf8
all_utf8 (word ∷ words) ascii =
    let of = both (is_ascii word) (list_all is_ascii words) ascii in
    All-cons IsUtf8 word words (IsUtf8-from_ascii word (IsAscii-from_all word (ascii_bytes word of.0)))
    (all_utf8 words of.1)

-- what is read of a line is what it gives
gives : {A : Type 0} (line : List ℕ) (view : Given → A) (value : A) → list_all is_ascii (words_of line) ≡ true
    → option_map (λ c. view (λ id. first_of id c.1)) (command_rows (words_of line)) ≡ Some value → Gives line view value
gives {A} line view value ascii is = go (command_rows (words_of line)) refl is
  where
    go : (o : Option (Text × List Row)) → command_rows (words_of line) ≡ o
        → option_map (λ c. view (λ id. first_of id c.1)) o ≡ Some value
        → Gives line view value
    go None reads is = cc
    go (Some c) reads is =
        let of = read_is_of_command (words_of line) c.0 c.1 (all_utf8 (words_of line) ascii) reads in
        let viewed : view (λ id. first_of id c.1) ≡ value = cc in
        record {
          name = c.0;
          uses = of.0;
          are = of.1;
          gives = ap view (λ i id. sym (first_use id of.0) i) ∙ ap (λ (rows : List Row). view (λ id. first_of id rows))
              (sym of.2) ∙ viewed;
        }

nothing : (line : List ℕ) → command_rows (words_of line) ≡ None → GivesNothing line
nothing line is = unread_is_no_command (words_of line) is

pub are_read : AreSpellingsRead
unfolding clap_on_literals
are_read = grind (arith, gives)

pub are_not_taken : AreNotTaken
unfolding clap_on_literals
are_not_taken = record {
  none = unread_is_no_command (codes "faxpages" ∷ []) refl;
  name = nothing (codes "row") refl;
  help = nothing (codes "--help") refl;
  help_of_rows = nothing (codes "rows --help") refl;
  help_of_salvage = nothing (codes "salvage --help") refl;
  version_of_rows = nothing (codes "rows --version") refl;
  command_after_version = nothing (codes "--version list") refl;
  command_after = nothing (codes "-- list") refl;
  one_file = nothing (codes "list a b") refl;
  no_value = nothing (codes "list --max") refl;
  value = nothing (codes "list --cursor --max=3") refl;
  once = nothing (codes "list --cursor=a --cursor=a") refl;
  zero = nothing (codes "list --max=0") refl;
  too_many = nothing (codes "rows --max=4294967296") refl;
  k = nothing (codes "convert -omr --k=1000001") refl;
  order = nothing (codes "convert -omr --order=3") refl;
  long = nothing (codes "list --long") refl;
  received = nothing (codes "rows --received") refl;
  flag_value = nothing (codes "rows --long=true") refl;
  no_target = gives _ _ _ refl refl;
}
