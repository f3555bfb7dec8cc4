-- What the program says of words that name no job.
-- A definition without a citation is this project's profile.
use Rattle.std.specs.Prelude.{ℕ, Bool, false, List, ◌∷◌, ◌++◌, codes, if◌then◌else◌}
use Rattle.std.specs.Str.{bytes_eq}
use Rattle.fax_tool.specs.Grammar.{Text}
use Rattle.fax_tool.specs.declared.args.WordsFault.{WordsFault}
use Rattle.fax_tool.specs.declared.args.WordsFault.TheVariants.{Usage, NotACursor, Memory}

-- the four lines of the usage, which has the commands that were there first
abbrev pub usage_text : List ℕ
usage_text =
    codes "usage: faxpages list [--cursor C] [--max N] [FILE]\n"
    ++ codes "       faxpages rows [--cursor C] [--max N] [--long] [FILE]\n"
    ++ codes "       faxpages convert -o pbm|mh|mr|mmr [--order 1|2] [--k K] [--strip ROWS]"
    ++ codes " [--align] [FILE]\n"
    ++ codes "       faxpages check [FILE]\n"

-- the usage of `salvage`
abbrev pub salvage_usage_text : List ℕ
salvage_usage_text =
    codes "usage: faxpages salvage [-o pbm|mh|mr|mmr [--order 1|2] [--k K] [--strip ROWS]"
    ++ codes " [--align]] [FILE]\n"

-- words, the program's name first, name `salvage`
abbrev pub names_salvage : List Text → Bool
names_salvage (program ∷ name ∷ others) = bytes_eq name (codes "salvage")
names_salvage words = false

-- the usage for words: that of `salvage` where they name it
abbrev pub usage_for : List Text → List ℕ
usage_for words = if names_salvage words then salvage_usage_text else usage_text

-- the version's line
abbrev pub version_text : List ℕ
version_text = codes "faxpages 1.15.0\n"

-- the text for the error stream, for these words
abbrev pub words_text : List Text → WordsFault → List ℕ
words_text words Usage = usage_for words
words_text words NotACursor = codes "fault cursor: NotACursor\n"
words_text words Memory = codes "fault: Memory\n"

-- the program's status
abbrev pub words_status : WordsFault → ℕ
words_status Usage = 2
words_status NotACursor = 2
words_status Memory = 3
