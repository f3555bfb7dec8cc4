-- Where a walk from a cursor begins.
use Rattle.std.proofs.Common.{◌≡◌, ℕ, ◌+◌, ◌*◌, ◌<◌, ◌⊎◌, true, false, List, Result, Ok, Err, refl, arith}
use Rattle.std.proofs.lemmas.Bool.Decides.{nat_tests}
use Rattle.std.specs.Prelude.{nat_lt, ◌==◌}
use Rattle.fax_walk.specs.declared.walk_start.WalkStart.TheVariants.{AtCursor}
use Rattle.fax_walk.specs.declared.cursor.Cursor.{Cursor}
use Rattle.fax_walk.specs.declared.end.End.{End}
use Rattle.fax_walk.specs.declared.end.End.TheVariants.{Outside}
use Rattle.fax_walk.specs.Pages.{FilePage, read_page}
use Rattle.fax_walk.specs.Items.{StartsOnPage, RowPosition, first_at}
use Rattle.fax_walk.specs.views.Walk.{Begins}
use Rattle.fax_walk.specs.code.RowPlaces.{row_in_strip, strip_at}

-- a walk from a cursor begins at the strip of its row, after the page's last row on the next page,
-- and past that nowhere
module _ (file : List ℕ) (at : Cursor) (here : FilePage) (page : read_page file at ≡ Ok here) where
  abbrev strip : RowPosition
  strip = first_at at.page (strip_at here.form at.row * here.form.rows_per_strip)

  pub begins_in : at.row < here.form.rows → Begins file (AtCursor at) (Ok (strip, row_in_strip here.form at.row))
  begins_in below =
      let test : nat_lt at.row here.form.rows ≡ true = grind (arith, nat_tests, below) in
      rw (page, test) refl

  pub begins_after : at.row ≡ here.form.rows → Begins file (AtCursor at) (Ok (first_at (at.page + 1) 0, 0))
  begins_after last =
      let below : nat_lt at.row here.form.rows ≡ false = grind (arith, nat_tests, last) in
      let test : (at.row == here.form.rows) ≡ true = grind (arith, nat_tests, last) in
      rw (page, below, test) refl

  pub begins_past : here.form.rows < at.row → Begins file (AtCursor at) (Err Outside)
  begins_past past =
      let below : nat_lt at.row here.form.rows ≡ false = grind (arith, nat_tests, past) in
      let test : (at.row == here.form.rows) ≡ false = grind (arith, nat_tests, past) in
      rw (page, below, test) refl

pub same_place : (from at : RowPosition) (k n : ℕ) → ◌≡◌ {A = Result (RowPosition × ℕ) End} (Ok (from, k)) (Ok (at, n))
    → from ≡ at
same_place from at k n e = grind arith

-- the place where a walk from a cursor begins: the first row of the cursor's strip, or of the page
-- after
pub started_cases : (file : List ℕ) (at : Cursor) (here : FilePage) (from : RowPosition) (k : ℕ)
    → StartsOnPage file (AtCursor at) here (Ok (from, k))
    → ((at.row < here.form.rows) × (from ≡ first_at at.page (strip_at here.form at.row * here.form.rows_per_strip)))
    ⊎ (from ≡ first_at (at.page + 1) 0)
started_cases file at here from k is = grind (arith, nat_tests)
