-- A damaged file is written anew in one way.
use Rattle.std.proofs.Common.{◌≡◌, ℕ, List, [], ◌∷◌, ◌++◌, Result, Ok, Err, ap, sym, ◌∙◌}
use Rattle.std.specs.Prelude.{MatchResult, flat_map}
use Rattle.fax_page.specs.laws.Salvage.{SalvagesStripsOneWay}
use Rattle.fax_files.specs.declared.Endian.{Endian}
use Rattle.fax_files.specs.declared.FileFault.{FileFault}
use Rattle.fax_files.specs.declared.PageForm.{PageForm}
use Rattle.fax_files.specs.BadRows.{received}
use Rattle.fax_files.specs.Directory.{Header, header, read_chain}
use Rattle.fax_files.specs.Page.{page}
use Rattle.fax_walk.specs.Converted.{SourcePage}
use Rattle.fax_walk.specs.Pages.{FilePage}
use Rattle.fax_walk.specs.Salvaged.{PageRow, AreRowsOfPage}
use Rattle.fax_walk.specs.SalvagedFile.{AreSalvagedPages, IsSalvagedPage, salvaged_page}
use Rattle.fax_walk.specs.laws.SalvagedFiles.{FilesAreSalvagedToOne}
use Rattle.fax_walk.proofs.SalvageLawLemmas.{one_strips}

module _ (salvages : SalvagesStripsOneWay) where
  one_rows : (file : List ℕ) (here : FilePage) (rows others : List PageRow) → AreRowsOfPage file here rows
      → AreRowsOfPage file here others → rows ≡ others
  one_rows file here rows others (strips, are, is) (strips', are', is') =
      is ∙ ap (flat_map (λ rows. rows)) (one_strips salvages file here 0 strips strips' are are') ∙ sym is'

  one_page : (endian : Endian) (file : List ℕ) (q : ℕ) (answer : Result PageForm FileFault)
      (pages others : List SourcePage)
      → IsSalvagedPage endian file q answer pages → IsSalvagedPage endian file q answer others → pages ≡ others
  one_page endian file q (Err fault) pages others is is' = is ∙ sym is'
  one_page endian file q (Ok form) pages others (rows, are, is) (rows', are', is') =
      let here : FilePage = record { endian = endian; offset = q; form = form } in
      is
      ∙ ap (λ r. salvaged_page form (received endian file q) r ∷ []) (one_rows file here rows rows' are are')
      ∙ sym is'

  one_pages : (endian : Endian) (file : List ℕ) (offsets : List ℕ) (pages others : List SourcePage)
      → AreSalvagedPages endian file offsets pages → AreSalvagedPages endian file offsets others → pages ≡ others
  one_pages endian file [] pages others are are' = are ∙ sym are'
  one_pages endian file (q ∷ offsets) pages others (own, later, is, are, pages_are)
      (own', later', is', are', others_are) =
      pages_are
      ∙ ap (λ (l : List SourcePage). l ++ later) (one_page endian file q (page endian file q) own own' is is')
      ∙ ap (λ (l : List SourcePage). own' ++ l) (one_pages endian file offsets later later' are are')
      ∙ sym others_are

  by_header : (file : List ℕ) (answer : Result Header FileFault) (pages others : List SourcePage)
      → MatchResult answer (λ head. AreSalvagedPages head.endian file (read_chain head file).offsets pages)
      (λ fault. pages ≡ [])
      → MatchResult answer (λ head. AreSalvagedPages head.endian file (read_chain head file).offsets others)
      (λ fault. others ≡ [])
      → pages ≡ others
  by_header file (Err fault) pages others is is' = is ∙ sym is'
  by_header file (Ok head) pages others is is' =
      one_pages head.endian file (read_chain head file).offsets pages others is is'

  pub salvaged_to_one : FilesAreSalvagedToOne
  salvaged_to_one file pages others is is' = by_header file (header file) pages others is is'
