-- What functions read of damaged files is what is defined.
use Rattle.std.proofs.Common.{arith, ◌≡◌, ℕ, zero, suc, ◌+◌, List, [], ◌∷◌, refl, sym, ◌∙◌, subst, Result, Ok}
use Rattle.std.proofs.Common.{Err}
use Rattle.std.specs.Prelude.{MatchResult}
use Rattle.fax_bits.specs.Bits.{bits}
use Rattle.fax_page.specs.laws.StripGraphs.{DamagedStripsAreReadByFunctions}
use Rattle.fax_files.specs.declared.Endian.{Endian}
use Rattle.fax_files.specs.declared.FileFault.{FileFault}
use Rattle.fax_files.specs.declared.PageForm.{PageForm}
use Rattle.fax_files.specs.Directory.{Header, header, read_chain}
use Rattle.fax_files.specs.Page.{page, strip_form}
use Rattle.fax_walk.specs.Pages.{FilePage}
use Rattle.fax_walk.specs.Salvaged.{ArePagesLeft, AreStripsLeft, IsPageLeftAs, IsSalvaged, IsStripLeft, SalvagedItem}
use Rattle.fax_walk.specs.Salvaged.{strip_left}
use Rattle.fax_walk.specs.laws.Salvaged.{IsSalvagedOneWay}
use Rattle.fax_page.specs.reads.Salvage.{salvage_strip}
use Rattle.fax_reads.specs.FileSalvage.{salvage_file, salvage_page, salvage_page_strip, salvage_pages}
use Rattle.fax_reads.specs.FileSalvage.{salvage_strips}
use Rattle.fax_reads.specs.laws.FileSalvage.{SalvagesAreReadByFunctions}

module _ (strips : DamagedStripsAreReadByFunctions) (file : List ℕ) where
  page_strip_is : (here : FilePage) (s : ℕ) → IsStripLeft file here s (salvage_page_strip file here s)
  page_strip_is here s =
      let remaining = strip_left here file s in
      let form = strip_form here.form s in
      let all = bits here.form.order remaining.0 in
      (salvage_strip form all, (strips.strip form all (salvage_strip form all)).1 refl, refl)

  strips_are : (n : ℕ) (here : FilePage) (s : ℕ) → s + n ≡ here.form.strips
      → AreStripsLeft file here s (salvage_strips n file here s)
  strips_are zero here s upcoming = omega (arith, upcoming)
  strips_are (suc n) here s upcoming =
      (omega (arith, upcoming), page_strip_is here s, strips_are n here (s + 1) (omega (arith, upcoming)))

  page_is : (endian : Endian) (p q : ℕ) (r : Result PageForm FileFault)
      → IsPageLeftAs endian file p q r (salvage_page endian file p q r)
  page_is endian p q (Err fault) = refl
  page_is endian p q (Ok form) =
      let here : FilePage = record { endian = endian; offset = q; form = form } in
      (salvage_strips form.strips file here 0, strips_are form.strips here 0 (omega arith), refl)

  pages_are : (endian : Endian) (p : ℕ) (offsets : List ℕ)
      → ArePagesLeft endian file p offsets (salvage_pages endian file p offsets)
  pages_are endian p [] = refl
  pages_are endian p (q ∷ offsets) = (
    salvage_page endian file p q (page endian file q),
    salvage_pages endian file (p + 1) offsets,
    page_is endian p q (page endian file q),
    pages_are endian (p + 1) offsets,
    refl,
  )

  file_is : (answer : Result Header FileFault) → (let all : List SalvagedItem = elim answer [
    | Err fault ↦ []
    | Ok head ↦ salvage_pages head.endian file 0 (read_chain head file).offsets
  ] in
      MatchResult answer (λ head. ArePagesLeft head.endian file 0 (read_chain head file).offsets all)
      (λ fault. all ≡ []))
  file_is (Err fault) = refl
  file_is (Ok head) = pages_are head.endian 0 (read_chain head file).offsets

module _ (strips : DamagedStripsAreReadByFunctions) where
  pub salvages_graph : ((file : List ℕ) → IsSalvagedOneWay file) → SalvagesAreReadByFunctions
  salvages_graph files file items =
      let is = file_is strips file (header file) in
      let one = files file in (
        λ at. one.one (salvage_file file) is ∙ sym (one.one items at),
        λ same. subst (λ all. IsSalvaged file all) same is,
      )
