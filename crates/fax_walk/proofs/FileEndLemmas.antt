-- Where the rows of a file end: at the place after an item, or after it.
use Rattle.std.proofs.Common.{◌≡◌, ℕ, ◌+◌, ◌*◌, ◌≤◌, ◌⊎◌, inl, inr, List, [], ◌∷◌, Option, None, Ok, refl, arith}
use Rattle.std.proofs.lemmas.List.{drop_all}
use Rattle.fax_files.specs.declared.PageForm.{PageForm}
use Rattle.fax_files.specs.declared.Cause.{Cause}
use Rattle.fax_files.specs.Page.{strip_bytes}
use Rattle.fax_walk.specs.declared.end.End.{End}
use Rattle.fax_walk.specs.declared.end.End.TheVariants.{Fault, Outside, EndOfPages}
use Rattle.fax_walk.specs.Pages.{AreFrom, FilePage, read_page, goes_on, ends_as}
use Rattle.fax_walk.specs.Items.{AreItems, IsInStrip, IsRow, RowItem, RowPosition, cursor_after, first_at}
use Rattle.fax_walk.specs.code.RowPlaces.{cursor_at, strip_at}
use Rattle.fax_walk.specs.views.Walk.{EndsBefore}
use Rattle.fax_walk.specs.laws.Printed.{ItemsEndInTheFile}
use Rattle.fax_walk.specs.laws.Tails.{TailsEndAfter}
use Rattle.fax_walk.proofs.PageLawLemmas.{IsUpcoming, end_upcoming}
use Rattle.fax_walk.proofs.RowLawLemmas.{IsRead, after_read, its_page, read_at, inner_after}
use Rattle.fax_walk.proofs.TailLawLemmas.{same_strip, split_at_number, strip_begin}

-- the rows end properly, or at a place or after it
abbrev pub EndsFrom : RowPosition → End → Type 0
EndsFrom at end =
    (end ≡ EndOfPages) ⊎ ((p r : ℕ) × (cause : Cause) × (end ≡ Fault p r cause) × (at.page ≤ p)
    × (at.page ≡ p → at.row ≤ r))

inside : (at : RowPosition) (end : End) → EndsFrom at end → end ≡ Outside → ⊥
inside at end from e = grind arith

-- in a strip they end at the next row; where there is no strip, at its first row
in_strip : (form : PageForm) (at : RowPosition) (found : Option (List ℕ)) (end : End)
    → IsInStrip form at found (ends_as end)
    → (found ≡ None → at.row ≤ strip_at form at.row * form.rows_per_strip) → EndsFrom at end
in_strip form at found end stop first = grind arith

-- the place after an item is below it, or on a page after
pub follows : (file : List ℕ) (at : RowPosition) (item : RowItem) (to : RowPosition) → IsRow file at (goes_on item to)
    → (item.page ≡ at.page) × (item.row ≡ at.row) × (item.page ≤ to.page)
    × (to.page ≡ item.page → to.row ≡ item.row + 1)
follows file at item to step = grind arith

module _ (file : List ℕ) where
  -- on the next page
  on_upcoming : (p : ℕ) → IsUpcoming file p → (end : End) → IsRow file (first_at p 0) (ends_as end)
      → EndsFrom (first_at p 0) end
  on_upcoming p upcoming end h = grind (arith, end_upcoming)

  -- at a row of a page
  on_page : (at : RowPosition) (here : FilePage) → read_page file (cursor_at at) ≡ Ok here
      → (strip_bytes here.endian file here.offset (strip_at here.form at.row) ≡ None
      → at.row ≤ strip_at here.form at.row * here.form.rows_per_strip)
      → (end : End) → IsRow file at (ends_as end) → EndsFrom at end
  on_page at here page first end stop = grind (arith, in_strip)

  -- after an item
  module _ (at : RowPosition) (item : RowItem) (to : RowPosition) (end : End) where
    after_item : IsRead file at item to → IsRow file to (ends_as end) → EndsFrom to end
    after_item read = after_read file (λ t. IsRow file t (ends_as end) → EndsFrom t end) at item to read
        (λ last. on_upcoming (item.page + 1) (inr (cursor_after item, read.here, page_there (item.row + 1), refl)) end)
        (λ within begins. on_page (first_at item.page (item.row + 1)) read.here (page_there (item.row + 1))
        (λ none. let begin = strip_begin read.here.form.rows_per_strip (item.row + 1) begins in omega (arith, begin))
        end)
        (λ within some. on_page (inner_after read.here.form item) read.here (page_there (item.row + 1))
        (λ none. let same = same_strip file at item to read some in
        let there = rw (← same.0) at read.bytes_are in absurd (cc (none, there))) end)
      where
        page_there : (r : ℕ) → read_page file (record { page = item.page; row = r }) ≡ Ok read.here
        page_there = its_page file at item to read

  ends_there : (at : RowPosition) (items : List RowItem) (end : End)
      → ((e : End) → IsRow file at (ends_as e) → EndsFrom at e)
      → AreFrom (IsRow file) at items end → end ≡ Outside → ⊥
  ends_there at [] end stops is = inside at end (stops end is)
  ends_there at (x ∷ items) end stops (to, step, rest) =
      ends_there to items end (λ e stop. after_item at x to e (read_at file at x to step) stop) rest

  pub never_outside : (items : List RowItem) → AreItems file items Outside → ⊥
  never_outside items are = ends_there (first_at 0 0) items Outside (on_upcoming 0 (inl refl)) are refl

pub items_end_in_the_file : ItemsEndInTheFile
items_end_in_the_file file items end are outside = grind (arith, never_outside)

not_before : (item : RowItem) (to : RowPosition) (end : End) → item.page ≤ to.page
    → (to.page ≡ item.page → to.row ≡ item.row + 1)
    → EndsFrom to end → EndsBefore end (cursor_after item) → ⊥
not_before item to end later below h before = grind arith

pub tails_end_after : TailsEndAfter
tails_end_after file origin all end n item tail there last before =
    let row = (split_at_number file origin all end n item tail there).row in
    let stop : IsRow file row.to (ends_as end) = rw (drop_all (n + 1) all (omega (arith, last))) at row.rest in
    let read = read_at file row.at item row.to row.step in
    let (page, row_is, later, below) = follows file row.at item row.to row.step in
    not_before item row.to end later below (after_item file row.at item row.to end read stop) before
