-- Where the code that begins the bits of a number stands in a table.
use Rattle.std.specs.Prelude.{ℕ, zero, suc, ◌-◌, ◌/◌, ◌^◌, Bool, true, false, ◌&&◌, ◌==◌, nat_le}
use Rattle.std.specs.Prelude.{List, [], ◌∷◌}
use Rattle.fax_bits.specs.declared.codes.CodeEntry.{CodeEntry}

-- the entry's code begins the `width` bits that a number spells (T.4, section 4.1.1)
abbrev pub begins : {M : Type 0} → CodeEntry M → ℕ → ℕ → Bool
begins entry width number =
    nat_le entry.len width && (number / 2 ^ (width - entry.len) == entry.code)

-- an index of a table, by whether its first entry is meant
abbrev pub index_after : Bool → ℕ → ℕ
index_after true index = zero
index_after false index = suc index

-- the index of the first entry whose code begins the bits, or the length of the table where there
-- is none
abbrev pub index_of : {M : Type 0} → List (CodeEntry M) → ℕ → ℕ → ℕ
index_of [] width number = zero
index_of (entry ∷ table) width number =
    index_after (begins entry width number) (index_of table width number)
