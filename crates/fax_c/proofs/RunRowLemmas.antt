-- Rows of a table whose runs stand apart.
use Rattle.std.proofs.Common.{◌≡◌, ℕ, zero, suc, ◌+◌, ◌<◌, List, [], ◌∷◌, ◌++◌, length, arith, subst}
use Rattle.fax_rows.specs.Rows.{Colour}
use Rattle.fax_c.specs.declared.rows.FaxRow.{FaxRow}
use Rattle.fax_c.specs.views.StripRuns.{AreRowsAt, IsRowAt}

-- one row more
pub rows_more : (width : ℕ) (table : List FaxRow) (runs : List ℕ) (i n : ℕ) (rows : List (List Colour))
    (row : List Colour)
    → AreRowsAt width table runs i rows → n ≡ i + length rows → IsRowAt width table runs n row
    → AreRowsAt width table runs i (rows ++ row ∷ [])
rows_more width table runs i n [] row none n_is here = grind arith
rows_more width table runs i n (first ∷ rows) row (is, more) n_is here =
    (is, rows_more width table runs (i + 1) n rows row more (omega (arith, n_is)) here)

-- a row of them
row_of : (width : ℕ) (table : List FaxRow) (runs : List ℕ) (i n : ℕ) (rows : List (List Colour))
    → AreRowsAt width table runs i rows
    → n < length rows → (row : List Colour) × IsRowAt width table runs (i + n) row
row_of width table runs i n [] none below = absurd (omega (arith, below))
row_of width table runs i zero (first ∷ rows) (is, more) below = grind arith
row_of width table runs i (suc n) (first ∷ rows) (is, more) below =
    grind (arith, row_of width table runs (i + 1) n rows more (omega (arith, below)))

-- a row of all
pub row_there : (width : ℕ) (table : List FaxRow) (runs : List ℕ) (n : ℕ) (rows : List (List Colour))
    → AreRowsAt width table runs 0 rows
    → n < length rows → (row : List Colour) × IsRowAt width table runs n row
row_there width table runs n rows are below =
    let found = row_of width table runs 0 n rows are below in
    let same : 0 + n ≡ n = omega arith in
    (found.0, subst (λ m. IsRowAt width table runs m found.0) same found.1)
