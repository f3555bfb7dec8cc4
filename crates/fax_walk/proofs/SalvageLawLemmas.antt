-- What is left of a damaged file is one list.
use Rattle.std.proofs.Common.{◌≡◌, ℕ, zero, suc, ◌+◌, List, [], ◌∷◌, ◌++◌, map, None, Result}
use Rattle.std.proofs.Common.{Ok, Err, refl, sym, ap, ◌∙◌, arith}
use Rattle.std.specs.Prelude.{MatchResult, flat_map}
use Rattle.fax_bits.specs.Bits.{bits}
use Rattle.fax_page.specs.Lines.{white_row}
use Rattle.fax_page.specs.laws.Salvage.{SalvagesStripsOneWay}
use Rattle.fax_files.specs.declared.Endian.{Endian}
use Rattle.fax_files.specs.declared.FileFault.{FileFault}
use Rattle.fax_files.specs.declared.PageForm.{PageForm}
use Rattle.fax_files.specs.Directory.{Header, header, read_chain}
use Rattle.fax_files.specs.Page.{page, strip_form}
use Rattle.fax_walk.specs.Pages.{FilePage}
use Rattle.fax_walk.specs.Salvaged.{PageRow, SalvagedItem, page_refused, page_items, on_page, strip_left, AreStripsLeft}
use Rattle.fax_walk.specs.Salvaged.{IsStripLeft, IsPageLeftAs, ArePagesLeft}
use Rattle.fax_walk.proofs.InOrderLemmas.{IsOneAnswer}
use Rattle.fax_walk.proofs.PageLawLemmas.{only_it}
use Rattle.fax_walk.specs.laws.Salvaged.{IsSalvagedOneWay}

module _ (salvages : SalvagesStripsOneWay) where
  -- the rows of the strips from one on
  pub strips_left : (file : List ℕ) (here : FilePage) (count s : ℕ) → s + count ≡ here.form.strips
      → (strips : List (List PageRow)) × AreStripsLeft file here s strips
  strips_left file here zero s all = ([], omega (arith, all))
  strips_left file here (suc count) s all =
      let remaining = strip_left here file s in
      let own =
      salvages (strip_form here.form s) 0 None (white_row here.form.width) (bits here.form.order remaining.0)
      (omega arith) in
      let later = strips_left file here count (s + 1) (omega (arith, all)) in
      (map (on_page here.form remaining.1) own.rows ∷ later.0, (omega (arith, all), (own.rows, own.are, refl), later.1))

  -- are one list
  one_strip : (file : List ℕ) (here : FilePage) (s : ℕ) (rows others : List PageRow) → IsStripLeft file here s rows
      → IsStripLeft file here s others → rows ≡ others
  one_strip file here s rows others (own, is, rows_are) (own', is', others_are) =
      let remaining = strip_left here file s in
      let one =
      salvages (strip_form here.form s) 0 None (white_row here.form.width) (bits here.form.order remaining.0)
      (omega arith) in
      rows_are ∙ ap (map (on_page here.form remaining.1)) (one.one own is ∙ sym (one.one own' is')) ∙ sym others_are

  pub one_strips : (file : List ℕ) (here : FilePage) (s : ℕ) (strips others : List (List PageRow))
      → AreStripsLeft file here s strips → AreStripsLeft file here s others → strips ≡ others
  one_strips file here s [] [] are are' = refl
  one_strips file here s [] (rows ∷ others) are are' = absurd (omega (arith, are, are'.0))
  one_strips file here s (rows ∷ strips) [] are are' = absurd (omega (arith, are.0, are'))
  one_strips file here s (rows ∷ strips) (rows' ∷ others) are are' =
      ap (λ (r : List PageRow). r ∷ strips) (one_strip file here s rows rows' are.1 are'.1)
      ∙ ap (λ (l : List (List PageRow)). rows' ∷ l) (one_strips file here (s + 1) strips others are.2 are'.2)

  -- what is left of a page
  page_left : (endian : Endian) (file : List ℕ) (p q : ℕ) (answer : Result PageForm FileFault)
      → (items : List SalvagedItem) × IsPageLeftAs endian file p q answer items
  page_left endian file p q (Err fault) = (page_refused p fault ∷ [], refl)
  page_left endian file p q (Ok form) =
      let here : FilePage = record { endian = endian; offset = q; form = form } in
      let strips = strips_left file here form.strips 0 (omega arith) in
      (page_items p 0 (flat_map (λ rows. rows) strips.0), (strips.0, strips.1, refl))

  one_page : (endian : Endian) (file : List ℕ) (p q : ℕ) (answer : Result PageForm FileFault)
      (items others : List SalvagedItem)
      → IsPageLeftAs endian file p q answer items → IsPageLeftAs endian file p q answer others → items ≡ others
  one_page endian file p q answer items others is is' = grind (arith, one_strips)

  -- what is left of the pages from one on
  pub pages_left : (endian : Endian) (file : List ℕ) (p : ℕ) (offsets : List ℕ)
      → (items : List SalvagedItem) × ArePagesLeft endian file p offsets items
  pages_left endian file p [] = ([], refl)
  pages_left endian file p (q ∷ offsets) =
      let own = page_left endian file p q (page endian file q) in
      let others = pages_left endian file (p + 1) offsets in
      (own.0 ++ others.0, (own.0, others.0, own.1, others.1, refl))

  pub one_pages : (endian : Endian) (file : List ℕ) (p : ℕ) (offsets : List ℕ) (items others : List SalvagedItem)
      → ArePagesLeft endian file p offsets items → ArePagesLeft endian file p offsets others → items ≡ others
  one_pages endian file p [] items others are are' = are ∙ sym are'
  one_pages endian file p (q ∷ offsets) items others (own, later, is, are, items_are)
      (own', later', is', are', others_are) =
      items_are
      ∙ ap (λ (l : List SalvagedItem). l ++ later) (one_page endian file p q (page endian file q) own own' is is')
      ∙ ap (λ (l : List SalvagedItem). own' ++ l) (one_pages endian file (p + 1) offsets later later' are are')
      ∙ sym others_are

  by_header : (file : List ℕ) (answer : Result Header FileFault) → IsOneAnswer (λ items.
      MatchResult answer (λ head. ArePagesLeft head.endian file 0 (read_chain head file).offsets items)
      (λ fault. items ≡ []))
  by_header file (Err fault) = only_it []
  by_header file (Ok head) =
      let offsets = (read_chain head file).offsets in
      let remaining = pages_left head.endian file 0 offsets in
      record {
        it = remaining.0;
        is = remaining.1;
        one = λ others is. one_pages head.endian file 0 offsets others remaining.0 is remaining.1;
      }

  pub salvaged_one_way : (file : List ℕ) → IsSalvagedOneWay file
  salvaged_one_way file =
      let remaining = by_header file (header file) in record {
        items = remaining.it;
        are = remaining.is;
        one =
            remaining.one;
      }
