-- What is left of damaged files, read by functions (TIFF 6.0, section 2; the rest is this project's
-- profile).
use Rattle.std.specs.Prelude.{ℕ, zero, suc, ◌+◌, List, [], ◌∷◌, ◌++◌, flat_map, map, Result, Ok}
use Rattle.std.specs.Prelude.{Err}
use Rattle.fax_bits.specs.Bits.{bits}
use Rattle.fax_page.specs.reads.Salvage.{salvage_strip}
use Rattle.fax_files.specs.declared.Endian.{Endian}
use Rattle.fax_files.specs.declared.FileFault.{FileFault}
use Rattle.fax_files.specs.declared.PageForm.{PageForm}
use Rattle.fax_files.specs.Directory.{header, read_chain}
use Rattle.fax_files.specs.Page.{page, strip_form}
use Rattle.fax_walk.specs.Pages.{FilePage}
use Rattle.fax_walk.specs.Salvaged.{SalvagedItem, PageRow, on_page, page_items, page_refused}
use Rattle.fax_walk.specs.Salvaged.{strip_left}

-- what is left of strip s of a page, and of n strips from there on
abbrev pub salvage_page_strip : List ℕ → FilePage → ℕ → List PageRow
salvage_page_strip file here s =
    let remaining = strip_left here file s in
    map (on_page here.form remaining.1)
    (salvage_strip (strip_form here.form s) (bits here.form.order remaining.0))

abbrev pub salvage_strips : ℕ → List ℕ → FilePage → ℕ → List (List PageRow)
salvage_strips zero file here s = []
salvage_strips (suc n) file here s =
    salvage_page_strip file here s ∷ salvage_strips n file here (s + 1)

-- what is returned of page p, whose directory stands at offset q, by what its fields give
abbrev pub salvage_page : Endian → List ℕ → ℕ → ℕ → Result PageForm FileFault → List SalvagedItem
salvage_page endian file p q (Err fault) = page_refused p fault ∷ []
salvage_page endian file p q (Ok form) =
    let here : FilePage = record { endian = endian; offset = q; form = form } in
    page_items p 0 (flat_map (λ rows. rows) (salvage_strips form.strips file here 0))

-- what is returned from page p on
abbrev pub salvage_pages : Endian → List ℕ → ℕ → List ℕ → List SalvagedItem
salvage_pages endian file p [] = []
salvage_pages endian file p (q ∷ offsets) =
    salvage_page endian file p q (page endian file q)
    ++ salvage_pages endian file (p + 1) offsets

-- what is left of a file
abbrev pub salvage_file : List ℕ → List SalvagedItem
salvage_file file =
    elim (header file) [
      | Err fault ↦ []
      | Ok head ↦ salvage_pages head.endian file 0 (read_chain head file).offsets
    ]
