-- What is returned of a page stands together in what is returned of its file.
use Rattle.std.proofs.Common.{◌≡◌, ℕ, zero, suc, ◌+◌, List, [], ◌∷◌, ◌++◌, Some, Result, Ok}
use Rattle.std.proofs.Common.{refl, sym, ap, ◌∙◌, arith, append_assoc}
use Rattle.std.specs.Prelude.{slice_get}
use Rattle.fax_page.specs.laws.Salvage.{SalvagesStripsOneWay}
use Rattle.fax_files.specs.declared.Endian.{Endian}
use Rattle.fax_files.specs.declared.FileFault.{FileFault}
use Rattle.fax_files.specs.declared.PageForm.{PageForm}
use Rattle.fax_files.specs.Directory.{Header, read_chain}
use Rattle.fax_files.specs.Page.{page}
use Rattle.fax_walk.specs.declared.cursor.Cursor.{Cursor}
use Rattle.fax_walk.specs.declared.end.End.{End}
use Rattle.fax_walk.specs.Pages.{FilePage, page_with_form, read_page}
use Rattle.fax_walk.specs.Salvaged.{AreRowsOfPage, IsPageLeftAs, ArePagesLeft, IsSalvaged, SalvagedItem, PageRow}
use Rattle.fax_walk.specs.Salvaged.{page_items}
use Rattle.fax_walk.specs.laws.SalvagedRows.{PagesAreLeft}
use Rattle.fax_walk.proofs.PageLawLemmas.{in_chain}
use Rattle.fax_walk.proofs.SalvageLawLemmas.{one_strips}

abbrev StandsIn : List SalvagedItem → List SalvagedItem → Type 0
StandsIn own items = (before later : List SalvagedItem) × (items ≡ before ++ own ++ later)

-- what is left of a page stands in what is left of the pages from one on
page_stands : (endian : Endian) (file : List ℕ) (first n q : ℕ) (offsets : List ℕ) (items : List SalvagedItem)
    → slice_get offsets n ≡ Some q → ArePagesLeft endian file first offsets items
    → (own : List SalvagedItem) × IsPageLeftAs endian file (first + n) q (page endian file q) own × StandsIn own items
page_stands endian file first zero q [] items at are = absurd cc
page_stands endian file first (suc n) q [] items at are = absurd cc
page_stands endian file first zero q (x ∷ offsets) items at (own, others, is, are, items_are) =
    let same : x ≡ q = cc in
    let none : first + 0 ≡ first = omega arith in
    (own, rw none (rw same at is), ([], others, items_are))
page_stands endian file first (suc n) q (x ∷ offsets) items at (own, others, is, are, items_are) =
    let later = page_stands endian file (first + 1) n q offsets others at are in
    let number : first + 1 + n ≡ first + suc n = omega arith in (
      later.0,
      rw number at later.1,
      (
        own ++ later.2.0,
        later.2.1,
        items_are ∙ ap (λ (l : List SalvagedItem). own ++ l) later.2.2
            ∙ sym (append_assoc own (later.2.0 ++ later.0) later.2.1)
            ∙ ap (λ (l : List SalvagedItem). l ++ later.2.1) (sym (append_assoc own later.2.0 later.0)),
      ),
    )

module _ (salvages : SalvagesStripsOneWay) (file : List ℕ) (p : ℕ) (here : FilePage)
    (rows : List PageRow) (are : AreRowsOfPage file here rows) (items : List SalvagedItem) where
  abbrev at : Cursor
  at = record { page = p; row = 0 }

  -- it is what its rows are returned as
  its_items : (endian : Endian) (q : ℕ) (answer : Result PageForm FileFault) (own : List SalvagedItem)
      → ◌≡◌ {A = Result FilePage End} (Ok here) (page_with_form endian q p answer)
      → IsPageLeftAs endian file p q answer own → own ≡ page_items p 0 rows
  its_items endian q answer own is remaining = grind (arith, one_strips)

  stands_at : (head : Header) (offsets : List ℕ) (q : ℕ) → slice_get offsets p ≡ Some q
      → page_with_form head.endian q p (page head.endian file q) ≡ Ok here
      → ArePagesLeft head.endian file 0 offsets items → StandsIn (page_items p 0 rows) items
  stands_at head offsets q there is remaining = grind (arith, page_stands, its_items)

  in_file : read_page file at ≡ Ok here → IsSalvaged file items → StandsIn (page_items p 0 rows) items
  in_file is remaining =
      let found = in_chain file at here is in
      let its : page_with_form found.head.endian here.offset p (page found.head.endian file here.offset) ≡ Ok here =
      rw (found.endian, found.fields) refl in
      stands_at found.head (read_chain found.head file).offsets here.offset found.there its (rw found.is_head at
      remaining)

pub pages_left_in_file : SalvagesStripsOneWay → PagesAreLeft
pages_left_in_file salvages file p here rows items there are remaining =
    in_file salvages file p here rows are items there remaining
