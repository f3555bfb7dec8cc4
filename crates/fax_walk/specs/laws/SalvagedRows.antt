-- Laws of the remaining rows, which a function of the module `laws` proves. A definition without a
-- citation is this project's profile.
use Rattle.std.specs.Prelude.{◌≡◌, ℕ, ◌<◌, ◌≤◌, List, ◌++◌, None, Ok}
use Rattle.fax_files.specs.Page.{strip_form}
use Rattle.fax_walk.specs.Items.{StripPosition, before}
use Rattle.fax_walk.specs.Pages.{FilePage, read_page}
use Rattle.fax_walk.specs.Salvaged.{AreRowsFrom, AreRowsOfPage, IsSalvaged, SalvagedItem, PageRow}
use Rattle.fax_walk.specs.Salvaged.{page_items}
use Rattle.fax_walk.specs.views.SalvagedRows.{LeftOf, AreLeftOf}

-- the remaining rows of a page or a strip are one list
pub record AreLeftOneWay (its : LeftOf) : Type 0 where
  pub rows : List PageRow
  pub are : AreLeftOf its rows
  pub one : (others : List PageRow) → AreLeftOf its others → others ≡ rows

-- what is returned of page p of a file stands together in what is returned of the file
abbrev pub PagesAreLeft : Type 0
PagesAreLeft =
    (file : List ℕ) (p : ℕ) (here : FilePage) (rows : List PageRow) (items : List SalvagedItem)
    → read_page file (record { page = p; row = 0 }) ≡ Ok here → AreRowsOfPage file here rows
    → IsSalvaged file items
    → (before later : List SalvagedItem) × (items ≡ before ++ page_items p 0 rows ++ later)

-- what is left of a page from a place on is one list; from its first row on it is what is left of
-- the page
pub record AreLeftFromPlaces : Type 0 where
  pub one : (file : List ℕ) (here : FilePage) (s i : ℕ) (at : StripPosition) (rows others : List
      PageRow)
      → i ≤ (strip_form here.form s).rows → AreRowsFrom file here s i at rows
      → AreRowsFrom file here s i at others → rows ≡ others
  pub all : (file : List ℕ) (here : FilePage) (rows : List PageRow) → 0 < here.form.strips
      → AreRowsFrom file here 0 0 (before here.form.width None) rows
      → AreRowsOfPage file here rows
