-- A file that is being written.
use Rattle.std.specs.Prelude.{◌≡◌, ℕ, zero, suc, ◌+◌, ◌-◌, ◌≤◌, List, [], ◌∷◌, ◌++◌, length, take}
use Rattle.std.specs.Prelude.{drop, codes, Option, Vec}
use Rattle.std.specs.declared.alloc.Global.{Global}
use Rattle.fax_files.specs.declared.PageForm.{PageForm}
use Rattle.fax_files.specs.declared.Endian.TheVariants.{Little}
use Rattle.fax_files.specs.Directory.{number_at}
use Rattle.fax_files.specs.Layout.{BadRows, after_fields, form_fields, two, four, Written}
use Rattle.fax_files.specs.Layout.{WrittenPage}
use Rattle.fax_files.specs.Layout.{with_page}

-- the eight bytes of a little-endian header whose first offset is still 0
abbrev pub empty_file : Written
empty_file = record { bytes = codes "II" ++ two 42 ++ four 0; link = 4 }

-- the bytes of vectors
abbrev pub contents : List (Vec ℕ Global) → List (List ℕ)
contents [] = []
contents (bytes ∷ others) = bytes.items ∷ contents others

-- a file that is being written: its bytes and its last link, of how many pages, and how many were
-- added
pub record Writing : Type 0 where
  pub written : Written
  pub total : ℕ
  pub added : ℕ

-- a page as it is given: its form, its strips and its bad rows
abbrev pub given_page : PageForm → List (Vec ℕ Global) → Option BadRows → WrittenPage
given_page form strips bad = record { form = form; strips = contents strips; bad = bad }

-- a file that is being written, with one more page
abbrev pub with_one_more : Writing → WrittenPage → Writing
with_one_more old page = record {
  written = with_page old.written old.total old.added page;
  total = old.total;
  added = old.added + 1;
}

-- how many bytes the file would have with one more page
abbrev pub length_with : Writing → WrittenPage → ℕ
length_with old page = length (with_page old.written old.total old.added page).bytes

-- how many fields the directory has to which a link leads (TIFF 6.0, section 2)
abbrev pub fields_after : List ℕ → ℕ → ℕ
fields_after file link = number_at Little 2 file (number_at Little 4 file link)

-- where the link of a page stands to whose directory a link leads
abbrev pub next_link : List ℕ → ℕ → ℕ
next_link file link = number_at Little 4 file link + after_fields (fields_after file link)

-- where the total of that page ends, the last number of the last field that each page has
abbrev pub total_end : List ℕ → ℕ → ℕ
total_end file link = number_at Little 4 file link + after_fields form_fields

-- this page lies in the file after the link, and has the fields that each page has
abbrev pub IsLinkToPage : List ℕ → ℕ → Type 0
IsLinkToPage file link =
    (link + 4 ≤ number_at Little 4 file link) × (form_fields ≤ fields_after file link)
    × (next_link file link + 4 ≤ length file)

-- so many pages stand in a file after a link, and the last has its link here
abbrev pub ArePagesAfter : List ℕ → ℕ → ℕ → ℕ → Type 0
ArePagesAfter file zero link last = link ≡ last
ArePagesAfter file (suc n) link last =
    IsLinkToPage file link × ArePagesAfter file n (next_link file link) last

-- a file in which the number of two bytes that ends here, the second one of PageNumber, says that
-- there are so many pages (TIFF 6.0, PageNumber)
abbrev pub with_total : ℕ → ℕ → List ℕ → List ℕ
with_total total end file = take (end - 2) file ++ two total ++ drop end file

-- a file in which each of so many pages after a link says so
abbrev pub with_totals : ℕ → ℕ → ℕ → List ℕ → List ℕ
with_totals total zero link file = file
with_totals total (suc n) link file =
    with_totals total n (next_link file link) (with_total total (total_end file link) file)
