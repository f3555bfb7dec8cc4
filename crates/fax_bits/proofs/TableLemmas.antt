-- Codes of a table, by the entries gone through so far.
use Rattle.std.proofs.lemmas.Grind.{common_steps}
use Rattle.std.proofs.Common.{◌≡◌, ℕ, ◌+◌, ◌<◌, ◌≤◌, List, ◌++◌, length, drop, Bool, arith}
use Rattle.std.specs.Prelude.{Some, slice_get, Contains}
use Rattle.std.proofs.lemmas.Option.{slice_get_within, get_or_from_slice_get, slice_get_read}
use Rattle.fax_bits.specs.declared.codes.CodeEntry.{CodeEntry}

pub listed : {M : Type 0} (table : List (CodeEntry M)) (i : ℕ) (entry : CodeEntry M) → slice_get table i ≡ Some entry
    → Contains table entry
listed table i entry found = (i, slice_get_within table i entry found, get_or_from_slice_get table i entry entry found)

-- a fact of each entry below i
abbrev pub EachBelow : {M : Type 0} → (CodeEntry M → Type 0) → List (CodeEntry M) → ℕ → Type 0
EachBelow {M} P table i = (k : ℕ) → k < i → (entry : CodeEntry M) → slice_get table k ≡ Some entry → P entry

pub each_below_more : {M : Type 0} (P : CodeEntry M → Type 0) (table : List (CodeEntry M)) (i : ℕ) (entry : CodeEntry M)
    → EachBelow P table i → slice_get table i ≡ Some entry → P entry → EachBelow P table (i + 1)
each_below_more P table i entry below found here = grind (arith, common_steps)

pub each-from_below : {M : Type 0} (P : CodeEntry M → Type 0) (table : List (CodeEntry M)) (i : ℕ)
    → length table ≤ i → EachBelow P table i → (entry : CodeEntry M) → Contains table entry → P entry
each-from_below P table i all below entry at = grind (arith, slice_get_read)

-- the bits after a code that was skipped
pub left_after : (remaining code rest : List Bool) (n : ℕ) → remaining ≡ code ++ rest → length code ≡ n
    → remaining ≡ code ++ drop n remaining
left_after remaining code rest n ahead len = grind (arith, common_steps)
