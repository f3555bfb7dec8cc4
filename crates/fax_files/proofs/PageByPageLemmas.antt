-- A file that is written page by page.
use Rattle.std.proofs.Common.{◌≡◌, ℕ, suc, ◌+◌, List, [], ◌∷◌, ◌++◌, length, refl, ap, ◌∙◌, arith, length-append}
use Rattle.fax_files.specs.Layout.{Written, WrittenPage, with_page, with_pages, file_of}
use Rattle.fax_files.specs.views.PagesSoFar.{HasAdded}
use Rattle.fax_files.specs.views.Writing.{empty_file, Writing, with_one_more}

-- one more page after others
pub with_pages-push : (old : Written) (total k : ℕ) (pages : List WrittenPage) (page : WrittenPage)
    → with_pages old total k (pages ++ page ∷ [])
    ≡ with_page (with_pages old total k pages) total (k + length pages) page
unfolding with_pages
with_pages-push old total k [] page = grind arith
with_pages-push old total k (first ∷ pages) page =
    let next : k + 1 + length pages ≡ k + suc (length pages) = omega arith in
    let origin = with_page old total k first in
    with_pages-push origin total (k + 1) pages page
    ∙ ap (λ (n : ℕ). with_page (with_pages origin total (k + 1) pages) total n page) next

pub begins_so : (total : ℕ) → HasAdded total [] (record { written = empty_file; total = total; added = 0 })
unfolding with_pages
begins_so total = refl

pub page_added : (total : ℕ) (pages : List WrittenPage) (old : Writing) (page : WrittenPage)
    → HasAdded total pages old → HasAdded total (pages ++ page ∷ []) (with_one_more old page)
page_added total pages old page is = grind (arith, with_pages-push, length-append)

pub finishes_so : (total : ℕ) (pages : List WrittenPage) (writing : Writing) → HasAdded total pages writing
    → writing.added ≡ writing.total
    → writing.written.bytes ≡ file_of pages
finishes_so total pages writing is all = grind arith
