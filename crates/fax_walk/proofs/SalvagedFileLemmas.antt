-- A damaged file that is written anew, page after page.
use Rattle.std.proofs.Common.{◌≡◌, ℕ, ◌+◌, Bool, true, false, List, [], ◌∷◌, ◌++◌, length, drop}
use Rattle.std.proofs.Common.{Result, Ok, Err, refl, sym, ap, ◌∙◌, subst, arith, append_assoc, append-nil}
use Rattle.std.specs.Prelude.{flat_map}
use Rattle.std.proofs.lemmas.List.{drop_all, length_push}
use Rattle.fax_page.specs.laws.Salvage.{SalvagesStripsOneWay}
use Rattle.fax_files.specs.declared.Endian.{Endian}
use Rattle.fax_files.specs.declared.FileFault.{FileFault}
use Rattle.fax_files.specs.declared.PageForm.{PageForm}
use Rattle.fax_files.specs.Directory.{header, read_chain}
use Rattle.fax_files.specs.Page.{page as fields_of}
use Rattle.fax_files.specs.views.Chain.{ChainState}
use Rattle.fax_files.specs.views.Tiff.{TiffDirectory, TiffFile, directory_of, received_of}
use Rattle.fax_walk.specs.declared.options.ConvertFault.{ConvertFault}
use Rattle.fax_walk.specs.declared.options.Options.{Options}
use Rattle.fax_walk.specs.declared.output.Output.{Output}
use Rattle.fax_walk.specs.declared.output.Output.TheVariants.{TooLarge}
use Rattle.fax_walk.specs.Pages.{FilePage}
use Rattle.fax_walk.specs.Converted.{SourcePage}
use Rattle.fax_walk.specs.SalvagedFile.{AreSalvagedPages, IsSalvagedPage, IsSalvagedSource, IsSalvagedTo}
use Rattle.fax_walk.specs.SalvagedFile.{IsSalvagedTooLarge, salvaged_page}
use Rattle.fax_walk.specs.code.OnPaper.{IsSalvaging, PutsPage}
use Rattle.fax_walk.specs.code.Opening.{IsChainBefore}
use Rattle.fax_walk.specs.code.Output.{FinishesAs, IsBeginning, IsRefusedAs}
use Rattle.fax_walk.specs.code.SalvageFile.{IsDirectoryNext, IsLastPassed}
use Rattle.fax_walk.proofs.SalvageFileLemmas.{dropped_at}
use Rattle.fax_walk.proofs.SalvageLawLemmas.{strips_left}

-- there is something to write of pages
pages_there : SalvagesStripsOneWay → (endian : Endian) (file : List ℕ) (offsets : List ℕ)
    → (pages : List SourcePage) × AreSalvagedPages endian file offsets pages
pages_there salvages endian file [] = ([], refl)
pages_there salvages endian file (q ∷ offsets) =
    let own = by_fields (fields_of endian file q) in
    let others = pages_there salvages endian file offsets in
    (own.0 ++ others.0, (own.0, others.0, own.1, others.1, refl))
  where
    by_fields : (fields : Result PageForm FileFault)
        → (pages : List SourcePage) × IsSalvagedPage endian file q fields pages
    by_fields (Err fault) = ([], refl)
    by_fields (Ok form) =
        let here : FilePage = record { endian = endian; offset = q; form = form } in
        let strips = strips_left salvages file here form.strips 0 (omega arith) in
        let rows = flat_map (λ rows. rows) strips.0 in (
          salvaged_page form (received_of (record { endian = endian; file = file; offset = q })) rows ∷ [],
          (rows, (strips.0, strips.1, refl), refl),
        )

-- before the first page
pub none_salvaged : (file : List ℕ) (options : Options) (tiff : TiffFile) (output : Output)
    → header file ≡ Ok tiff.head → tiff.file ≡ file → IsBeginning options output
    → IsSalvaging file options (record { tiff = tiff; yielded = 0 }) output false
none_salvaged file options tiff output head file_is begins = record {
  before = record { head = head; file_is = file_is; yielded = refl; within = omega arith };
  pages = [];
  followed = λ rest are. rw head are;
  written = begins;
  none_is = λ none. refl;
  some_is = λ some. cc;
}

module _ (file : List ℕ) (options : Options) (chain : ChainState) (output : Output) (some : Bool)
    (is : IsSalvaging file options chain output some) where
  abbrev offsets : List ℕ
  offsets = (read_chain chain.tiff.head file).offsets

  module _ (q : ℕ) (new : ChainState) (next : IsDirectoryNext chain q new) where
    new_given : new.yielded ≡ chain.yielded + 1
    new_given = next.before.yielded

    new_before : IsChainBefore file new.yielded new
    new_before = rw (is.before.file_is, ← new_given) at next.before

    -- what is written of the next page, and of those after it
    later : (own rest : List SourcePage)
        → IsSalvagedPage chain.tiff.head.endian file q (fields_of chain.tiff.head.endian file q) own
        → AreSalvagedPages new.tiff.head.endian file (drop new.yielded (read_chain new.tiff.head file).offsets) rest
        → IsSalvagedSource file (is.pages ++ (own ++ rest))
    later own rest own_is are =
        let at = dropped_at offsets chain.yielded q (rw is.before.file_is at next.offset) in
        let rest_is : AreSalvagedPages chain.tiff.head.endian file (drop (chain.yielded + 1) offsets) rest =
        rw (next.tiff_is, new_given) at are in
        is.followed (own ++ rest)
        (subst (λ l. AreSalvagedPages chain.tiff.head.endian file l (own ++ rest)) (sym at)
        (own, rest, own_is, rest_is, refl))

    -- the next page is refused
    pub one_refused : (fault : FileFault) → fields_of chain.tiff.head.endian chain.tiff.file q ≡ Err fault
        → IsSalvaging file options new output some
    one_refused fault refused =
        let fields : fields_of chain.tiff.head.endian file q ≡ Err fault = rw is.before.file_is at refused in
        record {
          before = new_before;
          pages = is.pages;
          followed = λ rest are.
              later [] rest
              (subst (λ f. IsSalvagedPage chain.tiff.head.endian file q f []) (sym fields) refl) are;
          written = is.written;
          none_is = is.none_is;
          some_is = is.some_is;
        }

    -- the next page is put
    pub one_put : (form : PageForm) (directory : TiffDirectory) (after : Output)
        → fields_of chain.tiff.head.endian chain.tiff.file q ≡ Ok form → directory ≡ directory_of chain.tiff q
        → PutsPage options directory form output after → IsSalvaging file options new after true
    one_put form directory after there its puts =
        let fields : fields_of chain.tiff.head.endian file q ≡ Ok form = rw is.before.file_is at there in
        let here : TiffDirectory = record { endian = chain.tiff.head.endian; file = file; offset = q } in
        let same : directory ≡ here =
        its ∙ ap (λ f. record { endian = chain.tiff.head.endian; file = f; offset = q }) is.before.file_is in
        let put : PutsPage options here form output after =
        subst (λ d. PutsPage options d form output after) same puts in
        let source = salvaged_page form (received_of here) put.0 in
        record {
          before = new_before;
          pages = is.pages ++ source ∷ [];
          followed = λ rest are.
              subst (IsSalvagedSource file) (sym (append_assoc is.pages (source ∷ []) rest))
              (later (source ∷ []) rest
              (subst (λ f. IsSalvagedPage chain.tiff.head.endian file q f (source ∷ [])) (sym fields)
              (put.0, put.1, refl)) are);
          written = put.2 (record { options = options; pages = is.pages })
              (record { options_are = refl; written = is.written });
          none_is = λ none. cc;
          some_is = λ some. omega (arith, length_push is.pages source);
        }

  -- no page is left
  module _ (ends : IsLastPassed chain) where
    all_there : IsSalvagedSource file is.pages
    all_there =
        let all : length offsets ≡ chain.yielded = rw is.before.file_is at ends in
        let none : drop chain.yielded offsets ≡ [] = drop_all chain.yielded offsets (omega (arith, all)) in
        subst (IsSalvagedSource file) (append-nil is.pages)
        (is.followed [] (subst (λ l. AreSalvagedPages chain.tiff.head.endian file l []) (sym none) refl))

    pub none_there : some ≡ false → IsSalvagedSource file []
    none_there none = subst (IsSalvagedSource file) (is.none_is none) all_there

    pub salvaged : some ≡ true → (bytes : List ℕ) → FinishesAs output bytes → IsSalvagedTo file options bytes
    salvaged there bytes finishes =
        let whole = finishes (record { options = options; pages = is.pages }) is.written in
        record {
          pages = is.pages;
          source = all_there;
          some = is.some_is there;
          output_is = whole.bytes_are;
          fits = whole.fits;
        }

    pub large_at_end : (fault : ConvertFault) → IsRefusedAs output fault → IsSalvagedTooLarge file options
    large_at_end fault refused =
        (is.pages, all_there, refused.1 (record { options = options; pages = is.pages }) is.written)

  -- it is too large before the last page
  pub large_before : SalvagesStripsOneWay → output ≡ TooLarge → IsSalvagedTooLarge file options
  large_before salvages large =
      let rest = pages_there salvages chain.tiff.head.endian file (drop chain.yielded offsets) in
      let stays = rw large at is.written in
      (is.pages ++ rest.0, is.followed rest.0 rest.1, stays rest.0)
