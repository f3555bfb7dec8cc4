-- A row in a raster: its bytes, and zeros after them.
use Rattle.std.proofs.Common.{◌≡◌, ℕ, ◌+◌, ◌-◌, ◌≤◌, List, ◌++◌, length, take, drop, max, replicate, append_assoc, ap}
use Rattle.std.proofs.Common.{arith, length-append}
use Rattle.std.proofs.Common.{[], ◌∷◌, ◌∙◌, append-nil}
use Rattle.std.proofs.lemmas.List.Concat.{flat_map-append}
use Rattle.std.specs.Prelude.{Some, flat_map}
use Rattle.std.proofs.lemmas.List.{length-replicate, length-take-le}
use Rattle.fax_rows.specs.Rows.{Colour}
use Rattle.fax_rows.specs.Coded.{packed_len, packed_row}
use Rattle.fax_c.specs.Raster.{padded_row}
use Rattle.fax_c.specs.code.CallSteps.{IsPutAt}
use Rattle.fax_c.proofs.ListLemmas.{more_put}
use Rattle.fax_c.proofs.PackedLenLemmas.{has_packed_len}

pub length-padded : (stride : ℕ) (row : List Colour) → length (padded_row stride row)
    ≡ max (packed_len (length row)) stride
length-padded stride row = grind (arith, length-replicate, length-append, has_packed_len)

-- a row fills its place in a raster
pub fills_stride : (stride : ℕ) (row : List Colour) → packed_len (length row) ≤ stride
    → length (padded_row stride row) ≡ stride
fills_stride stride row short = omega (arith, length-padded stride row, short)

-- a row takes no less than its bytes
pub same_padded : (stride : ℕ) (row : List Colour)
    → padded_row (max (packed_len (length row)) stride) row ≡ padded_row stride row
same_padded stride row =
    let bytes = packed_row row in
    ap (λ n. bytes ++ replicate n 0) (omega (arith, has_packed_len row))

-- a row is written, and then zeros after it
pub padded : (stride : ℕ) (row : List Colour) (old mid new : List ℕ) (at end : ℕ)
    → packed_len (length row) ≤ stride → at + stride ≤ length old
    → IsPutAt (packed_row row) old at (Some end) mid
    → new ≡ take end mid ++ replicate (at + stride - end) 0 ++ drop (at + stride) mid
    → IsPutAt (padded_row stride row) old at (Some (at + stride)) new
padded stride row old mid new at end short within (end_is, end_within, mid_is) new_is =
    grind (arith, has_packed_len, length-append, length-take-le, length-replicate, more_put, append_assoc)

-- one row more
pub padded_push : (stride : ℕ) (rows : List (List Colour)) (row : List Colour)
    → flat_map (padded_row stride) (rows ++ row ∷ []) ≡ flat_map (padded_row stride) rows ++ padded_row stride row
padded_push stride rows row =
    flat_map-append (padded_row stride) rows (row ∷ [])
    ∙ ap (λ l. flat_map (padded_row stride) rows ++ l) (append-nil (padded_row stride row))
