-- The words of a command line: how uses of a command's items are written, in bytes of UTF-8.
-- A definition without a citation is this project's profile.
use Rattle.std.specs.Prelude.{◌≡◌, ◌≢◌, ◌⊎◌, ◌<◌, ◌≤◌, ℕ, List, [], ◌∷◌, ◌++◌, codes, map}
use Rattle.std.specs.Prelude.{Option, Some, find, option_map, slice_get}
use Rattle.std.specs.Borrow.{Bor}
use Rattle.std.specs.List.{AllPairs, Contains}
use Rattle.std.specs.Str.{bytes_eq}
use Rattle.std.specs.Str.Parse.{IsNumeral, digits_value, without_leading_plus}
use Rattle.fax_files.specs.Page.{most_rows}

-- a text, as its bytes
abbrev pub Text : Type 0
Text = List ℕ

-- the words after references
abbrev pub texts : List (Bor Text) → List Text
texts = map (λ word. word.now)

-- what may stand after a command's name
pub data Item : Type 0 where
  -- `--name TEXT`
  text : Text → Item
  -- `--name N`, of 1 up to the most
  number : Text → ℕ → Item
  -- `-x TEXT`
  letter : ℕ → Item
  -- `--name`
  flag : Text → Item
  -- a word that is no option
  file : Item

-- the most lines that are asked for
abbrev pub most_lines : ℕ
most_lines = 4294967295

-- the name by which the text of an item is asked for
abbrev pub name_of : Item → Text
name_of (text name) = name
name_of (number name most) = name
name_of (letter x) = x ∷ []
name_of (flag name) = name
name_of file = codes "FILE"

-- what may stand after `list`, and after `rows` with a flag more
abbrev pub part : List Item
part = text (codes "cursor") ∷ number (codes "max") most_lines ∷ file ∷ []

-- what may stand after `convert`, and after `salvage`: k is no more than the most rows of a strip;
-- 111 is `o`
abbrev pub form_items : List Item
form_items = letter 111 ∷ number (codes "order") 2 ∷ number (codes "k") most_rows
    ∷ number (codes "strip") most_rows ∷ flag (codes "align") ∷ file ∷ []

-- each command's name, and what may stand after it, in any order
abbrev pub commands : List (Text × List Item)
commands = (codes "list", part) ∷ (codes "rows", part ++ flag (codes "long") ∷ [])
    ∷ (codes "convert", form_items) ∷ (codes "check", file ∷ flag (codes "received") ∷ [])
    ∷ (codes "salvage", form_items) ∷ []

-- one use of an item, with its text: a flag's is `true`
pub record Use : Type 0 where
  pub item : Item
  pub value : Text

-- the text that is given for a name
abbrev pub text_in : List Use → Text → Option Text
text_in uses name =
    option_map (λ given. given.value) (find (λ given. bytes_eq (name_of given.item) name) uses)

-- the word is no option: it does not begin with `-` (45), or is `-` alone
abbrev pub IsPlain : Text → Type 0
IsPlain word = (slice_get word 0 ≢ Some 45) ⊎ (word ≡ codes "-")

-- the text is a number of 1 up to the most: a plus may stand first, and zeros may lead
pub record IsNumberText (most : ℕ) (text : Text) : Type 0 where
  pub digits : IsNumeral 10 (without_leading_plus text)
  pub some : 0 < digits_value 10 (without_leading_plus text)
  pub within : digits_value 10 (without_leading_plus text) ≤ most

-- `--name=TEXT`, or `--name TEXT` where the text is no option
abbrev pub IsOption : Text → Text → List Text → Type 0
IsOption option value words = (words ≡ (option ++ codes "=" ++ value) ∷ [])
    ⊎ ((words ≡ option ∷ value ∷ []) × IsPlain value)

-- `-xTEXT`, where the text is not empty and does not begin with `=` (61)
abbrev pub IsAttached : Text → Text → List Text → Type 0
IsAttached option value words =
    (words ≡ (option ++ value) ∷ []) × (value ≢ []) × (slice_get value 0 ≢ Some 61)

-- the words in which the use of an item with this text is written
abbrev pub IsSpelled : Item → Text → List Text → Type 0
IsSpelled (text name) value words = IsOption (codes "--" ++ name) value words
IsSpelled (number name most) value words =
    IsOption (codes "--" ++ name) value words × IsNumberText most value
IsSpelled (letter x) value words = IsOption (codes "-" ++ x ∷ []) value words
    ⊎ IsAttached (codes "-" ++ x ∷ []) value words
IsSpelled (flag name) value words =
    (words ≡ (codes "--" ++ name) ∷ []) × (value ≡ codes "true")
IsSpelled file value words = (words ≡ value ∷ []) × IsPlain value

-- the words in which uses are written, in their order: the file may stand last, after `--`
abbrev pub AreSpelled : List Item → List Use → List Text → Type 0
AreSpelled items [] words = (words ≡ []) ⊎ (words ≡ codes "--" ∷ [])
AreSpelled items (first ∷ uses) words =
    ((own others : List Text) × (words ≡ own ++ others) × Contains items first.item
    × IsSpelled first.item first.value own × AreSpelled items uses others)
    ⊎ ((first.item ≡ file) × (uses ≡ []) × (words ≡ codes "--" ∷ first.value ∷ []))

-- the words are the program's name, a command's, and those of these uses, of each item one at most
pub record AreOfCommand (words : List Text) (name : Text) (uses : List Use) : Type 0 where
  pub program : Text
  pub items : List Item
  pub others : List Text
  pub are : words ≡ program ∷ name ∷ others
  pub known : Contains commands (name, items)
  pub written : AreSpelled items uses others
  pub once : AllPairs (λ one other. name_of one.item ≢ name_of other.item) uses

-- the words are those of no command
abbrev pub AreOfNoCommand : List Text → Type 0
AreOfNoCommand words = (name : Text) (uses : List Use) → ¬ AreOfCommand words name uses

-- the words ask for the version: `--version` stands alone after the program's name
abbrev pub AskForVersion : List Text → Type 0
AskForVersion words = (program : Text) × (words ≡ program ∷ codes "--version" ∷ [])
