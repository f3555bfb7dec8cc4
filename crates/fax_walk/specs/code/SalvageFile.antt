-- How a damaged file is gone through, page after page.
use Rattle.std.specs.Prelude.{◌≡◌, ℕ, ◌+◌, ◌-◌, ◌*◌, ◌^◌, ◌≤◌, List, [], ◌++◌, length, drop, Option}
use Rattle.std.specs.Prelude.{Some}
use Rattle.std.specs.Prelude.{None, Ok, Err, option_map, slice_get, ⊤}
use Rattle.std.specs.Prelude.{Bool, true}
use Rattle.fax_rows.specs.Rows.{Colour}
use Rattle.fax_files.specs.declared.FileFault.{FileFault}
use Rattle.fax_files.specs.Directory.{header, read_chain}
use Rattle.fax_files.specs.views.Chain.{chain_of}
use Rattle.fax_files.specs.Page.{most_rows, page}
use Rattle.fax_files.specs.views.Chain.{ChainState}
use Rattle.fax_files.specs.views.Page.{IsPageForm}
use Rattle.fax_files.specs.views.Tiff.{directory_of}
use Rattle.fax_walk.specs.declared.salvage.ChainStep.{ChainStep}
use Rattle.fax_walk.specs.declared.salvage.ChainStep.TheVariants.{Broken, Ends, Refused, Entered}
use Rattle.fax_walk.specs.Pages.{read_page, PageForm, EndOfPages}
use Rattle.fax_walk.specs.Items.{IsRow, RowItem, first_at}
use Rattle.fax_walk.specs.laws.InOrder.{LeadTo}
use Rattle.fax_walk.specs.Salvaged.{SalvagedItem, ArePagesLeft, IsSalvaged}
use Rattle.fax_walk.specs.code.Opening.{IsChainBefore, IsPageOf, page_with}
use Rattle.fax_walk.specs.code.SalvagePage.{SalvagePageState, EndsOnPage, GivesOfPage}
use Rattle.fax_walk.specs.code.SalvagePage.{IsLeftOnPage, IsPageStarted, yielded_of}
use Rattle.fax_walk.specs.declared.salvage.SalvageItem.{SalvageItem}

-- the row that was found last on the page that is gone through
abbrev pub shown_last : Option SalvagePageState → Option (List Colour)
shown_last page = option_map (λ p. p.shown) page

-- the directory after those that a chain has returned stands at offset q, and the chain after it
-- has returned one more
pub record IsDirectoryNext (chain : ChainState) (q : ℕ) (after : ChainState) : Type 0 where
  pub offset : slice_get (chain_of chain.tiff).offsets chain.yielded ≡ Some q
  pub before : IsChainBefore chain.tiff.file (chain.yielded + 1) after
  pub tiff_is : after.tiff ≡ chain.tiff

-- a chain has no directory after those that it has returned
abbrev pub IsLastPassed : ChainState → Type 0
IsLastPassed chain = length (chain_of chain.tiff).offsets ≡ chain.yielded

-- what a chain has next
abbrev pub IsNextPage : ChainState → ChainStep → Type 0
IsNextPage chain Ends =
    IsLastPassed chain
    × (read_page chain.tiff.file (record { page = chain.yielded; row = 0 }) ≡ Err EndOfPages)
IsNextPage chain Broken = IsLastPassed chain
IsNextPage chain (Refused fault after) =
    (q : ℕ) × IsDirectoryNext chain q after
    × (page chain.tiff.head.endian chain.tiff.file q ≡ Err fault)
IsNextPage chain (Entered its after) =
    (q : ℕ) × (form : PageForm) × IsDirectoryNext chain q after
    × (page chain.tiff.head.endian chain.tiff.file q ≡ Ok form) × IsPageForm form
    × IsPageStarted (directory_of chain.tiff q) form chain.yielded its
    × IsPageOf chain.tiff.file chain.yielded (page_with (directory_of chain.tiff q) form)

-- what is left of the page that is gone through
abbrev pub AreLeftOnPage : Option SalvagePageState → List SalvagedItem → Type 0
AreLeftOnPage None items = items ≡ []
AreLeftOnPage (Some page) items = IsLeftOnPage page items

-- what is left of a file
abbrev pub AreLeftInFile : List ℕ → Option ChainState → Option SalvagePageState → List SalvagedItem
    → Type 0
AreLeftInFile file None page items = items ≡ []
AreLeftInFile file (Some chain) page items =
    (own others : List SalvagedItem) × AreLeftOnPage page own
    × ArePagesLeft chain.tiff.head.endian file chain.yielded
    (drop chain.yielded (read_chain chain.tiff.head file).offsets) others
    × (items ≡ own ++ others)

-- what is returned of the page that is gone through, if one is
abbrev pub GivesItem : Option SalvagePageState → Option SalvageItem → Option SalvagePageState
    → Type 0
GivesItem (Some old) (Some item) (Some new) =
    GivesOfPage old item new × ((items : List SalvagedItem) × IsLeftOnPage new items)
GivesItem (Some old) None (Some new) = EndsOnPage old new
GivesItem None None None = ⊤
GivesItem _ _ _ = ⊥

-- so many items were returned of the pages at most
abbrev pub AreFewYielded : ChainState → Option SalvagePageState → ℕ → Type 0
AreFewYielded chain None yielded = (yielded ≤ chain.yielded * most_rows) × (chain.yielded ≤ 2 ^ 32)
AreFewYielded chain (Some page) yielded =
    (yielded ≤ (chain.yielded - 1) * most_rows + yielded_of page) × (1 ≤ chain.yielded)
    × (yielded_of page ≤ most_rows) × (chain.yielded ≤ 2 ^ 32)

-- a chain is its file's, where the file has a good header
abbrev pub IsChainOf : List ℕ → Option ChainState → Option SalvagePageState → ℕ → Type 0
IsChainOf file None page yielded =
    ((fault : FileFault) × (header file ≡ Err fault)) × (page ≡ None) × (yielded ≡ 0)
IsChainOf file (Some chain) page yielded =
    IsChainBefore file chain.yielded chain × AreFewYielded chain page yielded

-- whether the page that is gone through is clean so far, if one is
abbrev pub was_clean : Option SalvagePageState → Bool
was_clean None = true
was_clean (Some page) = page.rows.clean

-- the rows of the pages before this one are those of the file
abbrev pub LeadToPage : List ℕ → ℕ → Type 0
LeadToPage file p =
    (rows : List RowItem) × LeadTo (IsRow file) (first_at 0 0) rows (first_at p 0)

-- nothing of the pages that were left is lost
abbrev pub IsWhollyRead : List ℕ → Option ChainState → Option SalvagePageState → Type 0
IsWhollyRead file None page = ⊥
IsWhollyRead file (Some chain) None = LeadToPage file chain.yielded
IsWhollyRead file (Some chain) (Some page) =
    LeadToPage file page.page × (chain.yielded ≡ page.page + 1)
    × (page.rows.directory.file ≡ file) × IsPageForm page.rows.form
    × IsPageOf file page.page (page_with page.rows.directory page.rows.form)

-- what is left of a file follows what was returned of it
pub record IsYielded (file : List ℕ) (chain : Option ChainState)
    (page : Option SalvagePageState) (yielded : ℕ) : Type 0 where
  pub chain_is : IsChainOf file chain page yielded
  pub handed : (items : List SalvagedItem) → AreLeftInFile file chain page items
      → (done : List SalvagedItem) × (length done ≡ yielded) × IsSalvaged file (done ++ items)

-- a file is gone through
pub record IsInFile (file : List ℕ) (chain : Option ChainState) (page : Option SalvagePageState)
    (yielded : ℕ) (whole : Bool) : Type 0 where
  pub handed_out : IsYielded file chain page yielded
  pub whole_is : whole ≡ true → IsWhollyRead file chain page

-- how many pages are left at most
abbrev pub chain_measure : Option ChainState → ℕ
chain_measure None = 0
chain_measure (Some chain) = 2 ^ 32 - chain.yielded
