-- Tests of uses: by which option an item is written, whether it takes a text, and whether no item
-- is used twice. They speak of our proof alone: `specs/Grammar.antt` says the same as relations.
use Rattle.std.specs.Prelude.{◌==◌, ◌&&◌, ℕ, Bool, true, false, not, List, [], ◌∷◌, ◌++◌}
use Rattle.std.specs.Prelude.{length, nat_le, nat_lt}
use Rattle.std.specs.Char.{digit_value}
use Rattle.std.specs.List.{list_all, list_any}
use Rattle.std.specs.Str.{bytes_eq}
use Rattle.std.specs.Str.Parse.{digits_value, without_leading_plus}
use Rattle.fax_tool.specs.Grammar.{Item, Text, Use, flag, letter, name_of, number, text}

-- the use of an item with this text
abbrev pub use_of : Item → Text → Use
use_of item value = record { item = item; value = value }

-- the item is written `--name`
abbrev pub has_long : Text → Item → Bool
has_long name (text own) = bytes_eq own name
has_long name (number own most) = bytes_eq own name
has_long name (flag own) = bytes_eq own name
has_long name item = false

-- the item is written `-x`
abbrev pub has_letter : ℕ → Item → Bool
has_letter x (letter own) = own == x
has_letter x item = false

-- digits, where a plus may stand first and zeros may lead, of a number of 1 up to the most
abbrev pub is_number : ℕ → Text → Bool
is_number most value =
    let digits = without_leading_plus value in
    (nat_lt 0 (length digits) && list_all (λ d. nat_lt (digit_value d) 10) digits)
    && (nat_le 1 (digits_value 10 digits) && nat_le (digits_value 10 digits) most)

-- the item may have this text
abbrev pub takes : Item → Text → Bool
takes (number name most) value = is_number most value
takes item value = true

-- its item may have its text
abbrev pub is_taken : Use → Bool
is_taken given = takes given.item given.value

-- the name is used
abbrev pub is_used : Text → List Use → Bool
is_used name uses = list_any (λ given. bytes_eq (name_of given.item) name) uses

-- no name is used twice, nor one that is used before
abbrev pub are_apart : List Use → List Use → Bool
are_apart before [] = true
are_apart before (first ∷ uses) =
    not (is_used (name_of first.item) before) && are_apart (before ++ first ∷ []) uses
