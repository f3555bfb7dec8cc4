-- How many bytes a packed row has.
use Rattle.std.proofs.Common.{arith, ◌≡◌, ℕ, zero, suc, List, Bool, length, drop, refl, ap}
use Rattle.std.specs.Simd.{first_chunks}
use Rattle.std.proofs.lemmas.List.{length-map}
use Rattle.fax_bits.specs.Bits.{packed}
use Rattle.fax_rows.specs.Rows.{Colour}
use Rattle.fax_rows.specs.Coded.{packed_len, packed_row}

length-first_chunks : (n k : ℕ) (bits : List Bool) → length (first_chunks n k bits) ≡ k
length-first_chunks n zero bits = refl
length-first_chunks n (suc k) bits = ap suc (length-first_chunks n k (drop n bits))

pub has_packed_len : (row : List Colour) → length (packed_row row) ≡ packed_len (length row)
unfolding packed_row packed
has_packed_len row = grind (arith, length-map, length-first_chunks)
