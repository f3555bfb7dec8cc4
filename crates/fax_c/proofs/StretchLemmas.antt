-- Stretches of lost rows, before and after a row that is found.
use Rattle.std.proofs.Common.{◌≡◌, ℕ, suc, ◌+◌, List, [], ◌∷◌, ◌++◌, length, Ok, Err, refl, sym, ap, ◌∙◌, arith}
use Rattle.std.proofs.Common.{append_assoc}
use Rattle.std.proofs.Common.{length-append}
use Rattle.fax_rows.specs.Rows.{Colour}
use Rattle.fax_files.specs.declared.Cause.{Cause}
use Rattle.fax_walk.specs.Salvaged.{PageRow, SalvagedItem, row_found, rows_lost, page_refused, lost_before, page_items}
use Rattle.fax_c.specs.declared.salvaged_raster.FaxLost.{FaxLost}
use Rattle.fax_c.specs.SalvagedRaster.{lost_from, lost_of, lost_rows}
use Rattle.fax_c.specs.views.SalvagedFrom.{EndsFound}

lost_of-append : (items more : List SalvagedItem) → lost_of (items ++ more) ≡ lost_of items ++ lost_of more
lost_of-append [] more = refl
lost_of-append (row_found p r row ∷ items) more = lost_of-append items more
lost_of-append (rows_lost p r rows cause ∷ items) more =
    ap (λ (l : List FaxLost). lost_rows r rows cause ∷ l) (lost_of-append items more)
lost_of-append (page_refused p fault ∷ items) more = lost_of-append items more

-- a row that is lost before items changes the first of them at most
lost_before-append : (p r : ℕ) (cause : Cause) (item : SalvagedItem) (items more : List SalvagedItem)
    → lost_before p r cause (item ∷ (items ++ more)) ≡ lost_before p r cause (item ∷ items) ++ more
lost_before-append p r cause (row_found q s row) items more = refl
lost_before-append p r cause (rows_lost q s rows why) items more = refl
lost_before-append p r cause (page_refused q fault) items more = refl

lost_before_some : (p r : ℕ) (cause : Cause) (item : SalvagedItem) (items : List SalvagedItem)
    → (first : SalvagedItem) × (others : List SalvagedItem) × (lost_before p r cause (item ∷ items) ≡ first ∷ others)
lost_before_some p r cause (row_found q s row) items = (rows_lost p r 1 cause, row_found q s row ∷ items, refl)
lost_before_some p r cause (rows_lost q s rows why) items = (rows_lost p r (rows + 1) cause, items, refl)
lost_before_some p r cause (page_refused q fault) items = (rows_lost p r 1 cause, page_refused q fault ∷ items, refl)

-- rows of which the last is found give an item
some_items : (p r : ℕ) (before : List PageRow) (row : List Colour)
    → (first : SalvagedItem) × (others : List SalvagedItem) × (page_items p r (before ++ Ok row ∷ []) ≡ first ∷ others)
some_items p r [] row = (row_found p r row, [], refl)
some_items p r (Ok x ∷ before) row = (row_found p r x, page_items p (r + 1) (before ++ Ok row ∷ []), refl)
some_items p r (Err cause ∷ before) row =
    let more = some_items p (r + 1) before row in
    let here = lost_before_some p r cause more.0 more.1 in
    (here.0, here.1, ap (lost_before p r cause) more.2 ∙ here.2)

items_in_parts : (p r : ℕ) (before : List PageRow) (row : List Colour) (rest : List PageRow)
    → page_items p r (before ++ Ok row ∷ rest)
    ≡ page_items p r (before ++ Ok row ∷ []) ++ page_items p (r + (length before + 1)) rest
items_in_parts p r [] row rest = refl
items_in_parts p r (Ok x ∷ before) row rest =
    let count : r + 1 + (length before + 1) ≡ r + (suc (length before) + 1) = omega arith in
    ap (λ items. row_found p r x ∷ items) (items_in_parts p (r + 1) before row rest)
    ∙ ap (λ n. row_found p r x ∷ (page_items p (r + 1) (before ++ Ok row ∷ []) ++ page_items p n rest)) count
items_in_parts p r (Err cause ∷ before) row rest =
    let count : r + 1 + (length before + 1) ≡ r + (suc (length before) + 1) = omega arith in
    let first = some_items p (r + 1) before row in
    let later = page_items p (r + 1 + (length before + 1)) rest in
    ap (lost_before p r cause) (items_in_parts p (r + 1) before row rest ∙ ap (λ items. items ++ later) first.2)
    ∙ lost_before-append p r cause first.0 first.1 later
    ∙ ap (λ items. lost_before p r cause items ++ later) (sym first.2)
    ∙ ap (λ n. lost_before p r cause (page_items p (r + 1) (before ++ Ok row ∷ [])) ++ page_items p n rest) count

pub in_parts : (p r : ℕ) (first rest : List PageRow) → EndsFound first
    → lost_from p r (first ++ rest) ≡ lost_from p r first ++ lost_from p (r + length first) rest
in_parts p r first rest (before, row, is) =
    let count : length before + 1 ≡ length first = omega (
      arith,
      length-append before (Ok row ∷ []),
      ap (λ (l : List PageRow). length l) is,
    ) in
    ap (λ (l : List PageRow). lost_from p r (l ++ rest)) is
    ∙ ap (lost_from p r) (append_assoc before (Ok row ∷ []) rest)
    ∙ ap lost_of (items_in_parts p r before row rest)
    ∙ lost_of-append (page_items p r (before ++ Ok row ∷ [])) (page_items p (r + (length before + 1)) rest)
    ∙ ap (λ n. lost_from p r (before ++ Ok row ∷ []) ++ lost_from p (r + n) rest) count
    ∙ ap (λ (l : List PageRow). lost_from p r l ++ lost_from p (r + length first) rest) (sym is)
