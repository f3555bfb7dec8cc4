-- What is returned of a page: rows, and stretches of rows that are lost.
use Rattle.std.proofs.Common.{◌≡◌, ℕ, zero, suc, ◌+◌, ◌-◌, ◌<◌, ◌≤◌, List, [], ◌∷◌, ◌++◌, replicate, true, false}
use Rattle.std.proofs.Common.{Option, Some, None, Ok, Err, refl, sym, ap, ◌∙◌, arith, subst}
use Rattle.fax_rows.specs.Rows.{Colour}
use Rattle.fax_walk.specs.declared.salvage.LostRows.{LostRows}
use Rattle.fax_files.specs.Page.{most_rows}
use Rattle.fax_walk.specs.Pages.{Cause, PageForm}
use Rattle.fax_walk.specs.Salvaged.{PageRow, SalvagedItem, row_found, lost_before, page_items}
use Rattle.fax_walk.specs.code.SalvageItems.{RowsState, AreRowsLeft, IsPart, StaysOnPage, upcoming_row}
use Rattle.fax_walk.specs.declared.salvage.SalvageItem.TheVariants.{Row, Lost as Lost_}
use Rattle.fax_walk.specs.declared.salvage_rows.SalvagedPart.TheVariants.{Found, Lost}
use Rattle.fax_walk.specs.Items.{exchanged}
use Rattle.fax_walk.specs.code.SalvagePage.{SalvagePageState, EndsOnPage, GivesOfPage, HasPassedLost}
use Rattle.fax_walk.specs.code.SalvagePage.{IsGoneThrough, IsLeftOnPage, yielded_of, row_after, rows_of}
use Rattle.fax_walk.specs.views.LostRows.{longer}
use Rattle.std.proofs.Common.{Bool}
use Rattle.fax_walk.specs.code.SalvagePage.{with_lost, with_waiting}
use Rattle.std.specs.Prelude.{if◌then◌else◌}

abbrev stretch_of : ℕ → ℕ → ℕ → Cause → LostRows
stretch_of p r count cause = record { page = p; row = r; rows = count; cause = cause }

-- one row that is lost
lost_one : (p r : ℕ) (cause : Cause) (items : List SalvagedItem)
    → lost_before p r cause items ≡ with_lost (Some (stretch_of p r 1 cause)) items
lost_one p r cause items = grind arith

-- a row that is lost before others
lost_more : (p r : ℕ) (cause : Cause) (stretch : LostRows) (items : List SalvagedItem)
    → lost_before p r cause (with_lost (Some stretch) items)
    ≡ with_lost (Some (stretch_of p r (stretch.rows + 1) cause)) items
lost_more p r cause stretch items = grind arith

-- two stretches, one after the other
lost_both : (first : LostRows) (p r count : ℕ) (cause : Cause) (items : List SalvagedItem)
    → with_lost (Some first) (with_lost (Some (stretch_of p r count cause)) items)
    ≡ with_lost (Some (longer (Some first) p r count cause)) items
lost_both first p r count cause items = grind arith

-- rows that are lost, one after another
count_lost : (p r count : ℕ) (cause : Cause) (rows : List PageRow)
    → page_items p r (replicate (suc count) (Err cause) ++ rows)
    ≡ with_lost (Some (stretch_of p r (suc count) cause)) (page_items p (r + suc count) rows)
count_lost p r zero cause rows = lost_one p r cause (page_items p (r + 1) rows)
count_lost p r (suc count) cause rows = grind (arith, count_lost p (r + 1) count cause rows, lost_more)

-- and after others
pub lost_on : (lost : Option LostRows) (p r count : ℕ) (cause : Cause) (rows : List PageRow) → 0 < count
    → with_lost lost (page_items p r (replicate count (Err cause) ++ rows))
    ≡ with_lost (Some (longer lost p r count cause)) (page_items p (r + count) rows)
lost_on lost p r count cause rows some = grind (arith, count_lost, lost_both)

-- where no row waits
unwaited : (state : SalvagePageState) (items : List SalvagedItem) → state.waits ≡ false → with_waiting state items
    ≡ items
unwaited state items none = rw none refl

module _ {start now : SalvagePageState} (passed : HasPassedLost start now) {p i : ℕ} {form : PageForm}
    {waits : Bool} {last : Option (List Colour)} (gone : IsGoneThrough p form now.rows i now.lost waits last) where
  abbrev r : ℕ
  r = row_after now

  few_lost : rows_of now.lost ≤ r
  few_lost = omega (arith, gone.few, gone.row_is)

  limit : now.rows.form.rows ≤ most_rows
  limit = rw gone.form_is gone.limits.rows

  -- what is left where no row waits
  left_on : (rows : List PageRow) → AreRowsLeft now.rows rows
      → IsLeftOnPage start (with_lost now.lost (page_items now.page r rows))
  left_on rows is =
      passed.followed (with_lost now.lost (page_items now.page r rows))
      (rows, is, sym (unwaited now (with_lost now.lost (page_items now.page r rows)) passed.none_waits))

  -- as many items were returned
  count_is : yielded_of now ≡ r - rows_of now.lost
  count_is = rw passed.none_waits (omega arith)

  longer_rows : (count : ℕ) (cause : Cause) (lost : Option LostRows)
      → rows_of (Some (longer lost now.page r count cause)) ≡ rows_of lost + count
  longer_rows count cause lost = grind arith

  lost_count : (count : ℕ) (cause : Cause) (rows : RowsState) → upcoming_row rows ≡ r + count
      → upcoming_row rows - rows_of (Some (longer now.lost now.page r count cause)) - (if now.waits then 1 else 0)
      ≡ yielded_of now
  lost_count count cause rows row_is = grind (arith, longer_rows)

  -- more rows are lost
  pub lost_passed : (count : ℕ) (cause : Cause) (rows : RowsState) (shown : List Colour)
      → IsPart now.rows (Some (Lost count cause)) rows
      → HasPassedLost start
      (record now { rows = rows; lost = Some (longer now.lost now.page r count cause); shown = shown })
  lost_passed count cause rows shown (over, some, row_is, within) = record {
    page_is = passed.page_is;
    stays = (over.stays.0 ∙ passed.stays.0, over.stays.1 ∙ passed.stays.1);
    none_waits = passed.none_waits;
    count = lost_count count cause rows row_is ∙ passed.count;
    followed = λ items is.
        let new : SalvagePageState =
        record now { rows = rows; lost = Some (longer now.lost now.page r count cause); shown = shown } in
        let items_are : items
        ≡ with_lost (Some (longer now.lost now.page r count cause)) (page_items now.page (r + count) is.0) =
        is.2 ∙ unwaited new _ passed.none_waits
        ∙ ap (λ n. with_lost (Some (longer now.lost now.page r count cause)) (page_items now.page n is.0)) row_is in
        subst (IsLeftOnPage start) (lost_on now.lost now.page r count cause is.0 some ∙ sym items_are)
        (left_on (replicate count (Err cause) ++ is.0) (over.followed is.0 is.1));
  }

  -- as many were returned before a stretch
  before_stretch : (stretch : LostRows) → now.lost ≡ Some stretch
      → (yielded_of now ≡ r - stretch.rows) × (0 < stretch.rows) × (stretch.rows ≤ r)
  before_stretch stretch some = grind (arith, count_is, few_lost)

  module _ (rows : RowsState) (part : IsPart now.rows (Some Found) rows) where
    -- within the limit of a page's rows
    below : upcoming_row rows ≤ most_rows
    below = grind (arith, limit)

    abbrev row : List Colour
    row = exchanged rows.form rows.reader.reference

    stays : StaysOnPage start.rows rows
    stays = (part.0.stays.0 ∙ passed.stays.0, part.0.stays.1 ∙ passed.stays.1)

    -- where the row stands
    stands : upcoming_row rows - 1 ≡ r
    stands = omega (arith, part.1)

    -- one item more is returned
    found_count : now.lost ≡ None → yielded_of now < yielded_of (record now { rows = rows; shown = row })
    found_count none = rw (none, passed.none_waits) (omega (arith, part.1))

    -- a row is found, and none is lost before it
    pub found_alone : now.lost ≡ None
        → GivesOfPage start (Row (record { page = now.page; row = upcoming_row rows - 1 }))
        (record now { rows = rows; shown = row })
    found_alone none = record {
      page_is = passed.page_is;
      stays = stays;
      count = omega (arith, found_count none, passed.count);
      few = omega (arith, below);
      followed = λ items is.
          let new : SalvagePageState = record now { rows = rows; shown = row } in
          let items_are : items ≡ page_items now.page (r + 1) is.0 =
          is.2 ∙ unwaited new _ passed.none_waits ∙ ap (λ l. with_lost l (page_items now.page (upcoming_row rows) is.0))
          none
          ∙ ap (λ n. page_items now.page n is.0) part.1 in
          rw (stands, items_are)
          (rw none at (left_on (Ok row ∷ is.0) (part.0.followed is.0 is.1)));
    }

    -- rows are lost before it: they are returned, and it waits
    pub found_after : (stretch : LostRows) → now.lost ≡ Some stretch
        → GivesOfPage start (Lost_ stretch)
        (record now { rows = rows; lost = None; waits = true; shown = row })
    found_after stretch some = record {
      page_is = passed.page_is;
      stays = stays;
      count = omega (arith, before_stretch stretch some, passed.count, part.1);
      few = omega (arith, below);
      followed = λ items is.
          let items_are : items ≡ row_found now.page r row ∷ page_items now.page (r + 1) is.0 =
          is.2 ∙ ap (λ n. row_found now.page n row ∷ page_items now.page (upcoming_row rows) is.0) stands
          ∙ ap (λ n. row_found now.page r row ∷ page_items now.page n is.0) part.1 in
          rw items_are (rw some at (left_on (Ok row ∷ is.0) (part.0.followed is.0 is.1)));
    }

  module _ (rows : RowsState) (part : IsPart now.rows None rows) where
    ends : StaysOnPage start.rows rows
    ends = (part.0.stays.0 ∙ passed.stays.0, part.0.stays.1 ∙ passed.stays.1)

    -- nothing is left
    none_left : (new : SalvagePageState) → new.waits ≡ false → new.lost ≡ None → new.rows ≡ rows
        → (items : List SalvagedItem) → IsLeftOnPage new items → items ≡ []
    none_left new no_row none rows_are items is =
        let rows_left = rw rows_are at is.1 in
        is.2 ∙ unwaited new _ no_row ∙ rw (none, part.4 is.0 rows_left) refl

    -- and no row is lost before it
    pub ended_alone : (shown : List Colour) → now.lost ≡ None
        → EndsOnPage start (record now { rows = rows; shown = shown })
    ended_alone shown none = record {
      page_is = passed.page_is;
      stays = ends;
      count = ap (λ n. n - rows_of now.lost - (if now.waits then 1 else 0)) part.1 ∙ passed.count;
      ended = rw none at (left_on [] (part.0.followed [] part.3));
      still = (
        [],
        part.3,
        sym (unwaited (record now { rows = rows; shown = shown }) (with_lost now.lost []) passed.none_waits
            ∙ ap (λ l. with_lost l []) none),
      );
      none = none_left (record now { rows = rows; shown = shown }) passed.none_waits none refl;
      whole = part.5;
    }

    -- the last rows are lost
    pub ended_after : (stretch : LostRows) (shown : List Colour) → now.lost ≡ Some stretch
        → GivesOfPage start (Lost_ stretch) (record now { rows = rows; lost = None; shown = shown })
    ended_after stretch shown some = record {
      page_is = passed.page_is;
      stays = ends;
      count = rw passed.none_waits (omega (arith, before_stretch stretch some, passed.count, part.1));
      few =
          let same : rows.form.rows ≡ now.rows.form.rows = ap (λ (f : PageForm). f.rows) part.0.stays.1 in
          omega (arith, part.2, same, limit);
      followed = λ items is.
          let items_are =
          none_left (record now { rows = rows; lost = None; shown = shown }) passed.none_waits refl refl items is in
          rw items_are (rw some at (left_on [] (part.0.followed [] part.3)));
    }
