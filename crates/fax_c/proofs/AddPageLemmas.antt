-- Pages that are coded and added to a file.
use Rattle.std.proofs.Common.{◌≡◌, ℕ, ◌+◌, ◌*◌, ◌≤◌, List, [], ◌∷◌, ◌++◌, Vec, length, map, take, drop, refl, ap, sym}
use Rattle.std.proofs.Common.{◌∙◌, arith}
use Rattle.std.proofs.Common.{length-append, None, ◌≢◌, ◌⊎◌}
use Rattle.std.proofs.lemmas.List.{length-drop, length-take-le, drop-drop}
use Rattle.std.specs.List.{range_with_len}
use Rattle.std.specs.declared.alloc.Global.{Global}
use Rattle.std.proofs.lemmas.List.FromFn.{length-map-range_with_len, map-range_with_len_more}
use Rattle.fax_page.specs.Strip.{coded_strip}
use Rattle.fax_files.specs.declared.PageForm.{PageForm}
use Rattle.fax_files.specs.Page.{strip_form}
use Rattle.fax_files.specs.views.Writing.{contents}
use Rattle.fax_files.specs.Directory.{max_file}
use Rattle.fax_files.specs.Layout.{Written, WrittenPage, directory_offset, four, page_bytes, page_of, to_link}
use Rattle.fax_files.specs.Layout.{with_page}
use Rattle.fax_c.specs.declared.writing.FaxWritten.{FaxWritten}
use Rattle.fax_c.specs.views.PageByPage.{IsHeld, IsWriting, file_so_far}
use Rattle.fax_c.specs.code.AddedPages.{place_of}
use Rattle.std.proofs.lemmas.Bool.{cases_eq}
use Rattle.fax_c.specs.Raster.{page_strips, rows_of_raster}
use Rattle.fax_files.proofs.WritingLemmas.{length-contents}

-- strip s of a page
abbrev pub the_strip : PageForm → ℕ → ℕ → List ℕ → ℕ → List ℕ
the_strip form k stride bytes s =
    coded_strip (strip_form form s) k
    (rows_of_raster form.width stride bytes (s * form.rows_per_strip) (strip_form form s).rows)

contents-push : (strips : List (Vec ℕ Global)) (strip : Vec ℕ Global)
    → contents (strips ++ strip ∷ []) ≡ contents strips ++ strip.items ∷ []
contents-push [] strip = refl
contents-push (first ∷ strips) strip = ap (λ (l : List (List ℕ)). first.items ∷ l) (contents-push strips strip)

pub strip_more : (f : ℕ → List ℕ) (s : ℕ) (strips new : List (Vec ℕ Global)) (strip : Vec ℕ Global)
    → contents strips ≡ map f (range_with_len 0 s) → new ≡ strips ++ strip ∷ [] → strip.items ≡ f s
    → contents new ≡ map f (range_with_len 0 (s + 1))
strip_more f s strips new strip so_far new_is strip_is = grind (arith, contents-push, map-range_with_len_more)

-- how long a file is with a page more
len_patched : (bytes : List ℕ) (link n : ℕ) → link + 4 ≤ length bytes
    → length (take link bytes ++ four n ++ drop (link + 4) bytes) ≡ length bytes
len_patched bytes link n inside = grind (arith, length-append, length-take-le, length-drop)

pub len_with_page : (old : Written) (total k : ℕ) (page : WrittenPage)
    → old.link + 4 ≤ length old.bytes
    → length (with_page old total k page).bytes
    ≡ length old.bytes + length (page_bytes (length old.bytes) total k page)
unfolding with_page
len_with_page old total k page inside = grind (arith, length-append, len_patched)

-- a file that is written so far has its length and its link
pub record IsSoFar (written : FaxWritten) (file : List ℕ) : Type 0 where
  pub start : (place_of written).0 ≡ length (file_so_far written file).bytes
  pub link : (place_of written).1 ≡ (file_so_far written file).link
  pub inside : (file_so_far written file).link + 4 ≤ length (file_so_far written file).bytes

so_far_by : (written : FaxWritten) (file : List ℕ)
    → (written.added ≡ 0) ⊎ ((8 ≤ written.len) × (written.len ≤ max_file) × (4 ≤ written.link)
    × (written.link + 4 ≤ written.len))
    → IsHeld written (length file) → (written.added ≡ 0) ⊎ (written.added ≢ 0) → IsSoFar written file
so_far_by written file place held h = grind (arith, length-take-le)

pub so_far : (written : FaxWritten) (file : List ℕ) → IsWriting written × IsHeld written (length file)
    → IsSoFar written file
so_far written file (is, held) = so_far_by written file is.place held (cases_eq written.added 0)

-- the page is added
pub page_added : (written : FaxWritten) (old mid new : List ℕ) (form : PageForm) (strips : List (List ℕ))
    (page : List ℕ) (directory start link : ℕ)
    → IsWriting written × IsHeld written (length old)
    → start ≡ (place_of written).0 → link ≡ (place_of written).1
    → take start mid ≡ (file_so_far written old).bytes → drop start mid ≡ drop start old
    → page ≡ page_bytes start written.total written.added (page_of form strips) → directory
    ≡ directory_offset start strips
    → new ≡ take link (take start mid) ++ four directory ++ drop (link + 4) (take start mid) ++ page
    ++ drop (start + length page) mid
    → let next = with_page (file_so_far written old) written.total written.added (page_of form strips) in
    (new ≡ next.bytes ++ drop (length next.bytes) old) × (start + length page ≡ length next.bytes)
    × (directory + to_link None ≡ next.link)
unfolding with_page
page_added written old mid new form strips page directory start link writing start_is link_is front rest page_is
    directory_is new_is =
    let is = so_far written old writing in
    let W = file_so_far written old in
    let begin : start ≡ length W.bytes = start_is ∙ is.start in
    let linked : link ≡ W.link = link_is ∙ is.link in
    let bytes_are = rw begin at page_is in
    let place_is = rw begin at directory_is in
    let all : start + length page ≡ length (with_page W written.total written.added (page_of form strips)).bytes =
    rw (begin, bytes_are) (sym (len_with_page W written.total written.added (page_of form strips) is.inside)) in
    let after : drop (start + length page) mid ≡ drop (start + length page) old =
    rw (← drop-drop (length page) start mid, rest, drop-drop) in
    (new_is ∙ rw (after, all, front, linked, place_is, bytes_are) refl, all, ap (λ n. n + to_link None) place_is)

pub strips_are_counted : (form : PageForm) (k stride : ℕ) (raster : List ℕ) (strips : List (Vec ℕ Global))
    → contents strips ≡ page_strips form k stride raster → length strips ≡ form.strips
strips_are_counted form k stride raster strips are = grind (arith, length-contents, length-map-range_with_len)

-- how long a file is with the page
pub page_len : (written : FaxWritten) (old : List ℕ) (form : PageForm) (strips : List (List ℕ)) (start : ℕ)
    → IsWriting written × IsHeld written (length old)
    → start ≡ (place_of written).0 → start + length (page_bytes start written.total written.added (page_of form strips))
    ≡ length (with_page (file_so_far written old) written.total written.added (page_of form strips)).bytes
page_len written old form strips start writing start_is = grind (arith, so_far, len_with_page)

abbrev final_end_of : FaxWritten → ℕ → ℕ → FaxWritten
final_end_of old len link = record { len = len; link = link; total = old.total; added = old.added + 1 }

pub told_is : (old : FaxWritten) (len last link next : ℕ) → len ≡ last → link ≡ next
    → final_end_of old len link ≡ final_end_of old last next
told_is old len last link next len_is link_is = rw (len_is, link_is) refl
