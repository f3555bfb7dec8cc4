-- What stands before a row's codes, and its codes, as they are read.
use Rattle.std.specs.Prelude.{◌≡◌, ◌⊎◌, ◌<◌, ◌++◌, ℕ, Bool, true, false, List, replicate}
use Rattle.fax_rows.specs.declared.RowFault.{RowFault}
use Rattle.fax_page.specs.declared.StripFault.{StripFault}
use Rattle.fax_page.specs.declared.StripFault.TheVariants.{DataEnds, EndMarker, MissingEol}
use Rattle.fax_page.specs.Lines.{ends_line, in_code, next_one, not_there, strip_fault}

-- the bits begin with fill and an EOL, or with a code where one is expected
abbrev pub IsEndOfLine : List Bool → List Bool → Type 0
IsEndOfLine b rest = next_one 0 b ≡ ends_line rest

abbrev pub BeginsBelowEleven : List Bool → Type 0
BeginsBelowEleven b = next_one 0 b ≡ in_code

-- fill and an EOL were read, or there is none, where a row may lack it
abbrev pub HasEol : Bool → List Bool → List Bool → Type 0
HasEol may_lack b rest = IsEndOfLine b rest ⊎ ((may_lack ≡ true) × BeginsBelowEleven b × (b ≡ rest))

-- there is no 1 left, or no EOL where a row needs one
abbrev pub HasNoEol : Bool → List Bool → StripFault → Type 0
HasNoEol may_lack b fault =
    ((next_one 0 b ≡ not_there) × (fault ≡ DataEnds))
    ⊎ ((may_lack ≡ false) × BeginsBelowEleven b × (fault ≡ MissingEol))

-- eleven zeros stand where a row's first code is expected, or fewer zeros and nothing after them
abbrev pub IsFirstCodeFault : List Bool → StripFault → Type 0
IsFirstCodeFault b fault =
    ((after : List Bool) × (b ≡ replicate 11 false ++ after) × (fault ≡ EndMarker))
    ⊎ ((zeros : ℕ) × (zeros < 11) × (b ≡ replicate zeros false) × (fault ≡ DataEnds))

-- a row's first code is not there, or it is, and the codes stop for this cause
abbrev pub IsStop : List Bool → RowFault → StripFault → Type 0
IsStop b cause fault =
    IsFirstCodeFault b fault ⊎ (BeginsBelowEleven b × (fault ≡ strip_fault cause))
