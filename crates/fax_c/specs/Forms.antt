-- The forms of pages, written one after another.
-- A definition without a citation is this project's profile.
use Rattle.std.specs.Prelude.{◌≡◌, ℕ, ◌+◌, ◌<◌, ◌≤◌, List, [], ◌∷◌, ◌++◌, length, map, take, drop}
use Rattle.fax_walk.specs.declared.cursor.Cursor.{Cursor}
use Rattle.fax_walk.specs.declared.end.End.{End}
use Rattle.fax_files.specs.declared.PageForm.{PageForm}
use Rattle.fax_walk.specs.Pages.{FormItem, IsFormTail}
use Rattle.fax_c.specs.declared.fill.Filled.{Filled}
use Rattle.fax_c.specs.declared.fill.Stop.{Stop}
use Rattle.fax_c.specs.declared.fill.Stop.TheVariants.{Done, Ended}
use Rattle.fax_c.specs.declared.forms.FaxForm.{FaxForm}
use Rattle.fax_c.specs.declared.told.FaxTold.{FaxTold}
use Rattle.fax_c.specs.Numbers.{bool_number, coding_number, order_number}
use Rattle.fax_c.specs.Told.{IsTold}

-- a form as it stands in memory of the caller
abbrev pub form_numbers : PageForm → FaxForm
form_numbers form = record {
  width = form.width;
  rows = form.rows;
  coding = coding_number form.coding;
  order = order_number form.order;
  aligned = bool_number form.aligned;
  exchanged = bool_number form.exchanged;
  rows_per_strip = form.rows_per_strip;
  strips = form.strips;
  x_numerator = form.x.0;
  x_denominator = form.x.1;
  y_numerator = form.y.0;
  y_denominator = form.y.1;
  unit = form.unit;
}

-- the cursor after pages, which began so
abbrev pub cursor_after_pages : Cursor → List FormItem → Cursor
cursor_after_pages from [] = from
cursor_after_pages from (item ∷ items) =
    cursor_after_pages (record { page = item.page + 1; row = 0 }) items

-- so many forms are written, with room for so many: all, or fewer, since there are no more of them
abbrev pub StopsAfterForms : List FormItem → End → ℕ → ℕ → Stop → Type 0
StopsAfterForms items end room count Done = count ≡ room
StopsAfterForms items end room count (Ended met) =
    (count < room) × (count ≡ length items) × (met ≡ end)
StopsAfterForms items end room count stop = ⊥

-- the first forms from a cursor on are written, one after another, and nothing else is changed
pub record AreFormsFilled (file : List ℕ) (from : Cursor) (old : List FaxForm) (filled : Filled)
    (new : List FaxForm) : Type 0 where
  pub items : List FormItem
  pub end : End
  pub tail : IsFormTail file from items end
  pub few : filled.count ≤ length items
  pub asked : filled.count ≤ length old
  pub written : new ≡ map (λ item. form_numbers item.form) (take filled.count items)
      ++ drop filled.count old
  pub cursor : filled.cursor ≡ cursor_after_pages from (take filled.count items)
  pub none_used : filled.used ≡ 0
  pub stops : StopsAfterForms items end (length old) filled.count filled.stop

-- the forms of a file from a page on are written and reported
abbrev pub TellsForms : List ℕ → ℕ → List FaxForm → List FaxForm → FaxTold → ℕ → Type 0
TellsForms file page old new told status =
    (filled : Filled) × AreFormsFilled file (record { page = page; row = 0 }) old filled new
    × IsTold filled told status
