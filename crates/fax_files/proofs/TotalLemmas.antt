-- Pages that are given how many they are: what is written of a page stands in three parts, what is
-- before its total, the total, and what is after it; and a file of pages is these parts, page after
-- page.
use Rattle.std.proofs.Common.{◌≡◌, ℕ, zero, suc, ◌+◌, ◌-◌, ◌*◌, ◌%◌, ◌≤◌, ◌<◌, Bool, List, [], ◌∷◌, ◌++◌, length}
use Rattle.std.proofs.Common.{take, drop, Option, None, Some}
use Rattle.std.proofs.Common.{refl, sym, ap, subst, ◌∙◌, arith, append_assoc}
use Rattle.std.proofs.lemmas.List.{length-append, length-take-le, length-drop, length-replicate}
use Rattle.std.proofs.lemmas.List.{drop_at, take_at, drop-drop}
use Rattle.std.proofs.lemmas.List.Concat.{flat_map-append}
use Rattle.std.proofs.Math.Seq.{drop-append-add}
use Rattle.std.specs.Prelude.{replicate, map, flat_map}
use Rattle.fax_files.specs.declared.Endian.TheVariants.{Little}
use Rattle.fax_page.specs.declared.Coding.{Coding}
use Rattle.fax_page.specs.declared.Coding.TheVariants.{Mh, Mr, Mmr}
use Rattle.fax_files.specs.Directory.{number_at}
use Rattle.fax_files.specs.Layout.{to_link, after_fields, bad_fields, field_count, form_fields, two, four}
use Rattle.fax_files.specs.Layout.{directory_offset, page_bytes, Written, with_page, with_pages, BadRows}
use Rattle.fax_files.specs.Layout.{WrittenPage, WrittenField}
use Rattle.fax_files.specs.Layout.{field_bytes, field_of, fields_with, options_field, offsets_from, one_or_offset}
use Rattle.fax_files.specs.Layout.{array_bytes, file_of}
use Rattle.fax_files.specs.views.PagesSoFar.{HasAdded}
use Rattle.fax_files.specs.views.Writing.{Writing, empty_file}
use Rattle.fax_files.specs.code.Writing.{IsWriting}
use Rattle.fax_files.specs.views.Writing.{next_link, total_end, fields_after, ArePagesAfter, with_total, with_totals}
use Rattle.fax_files.specs.laws.TiffFiles.{TotalsAreTold}
use Rattle.fax_files.proofs.WrittenPageLemmas.{few_fields, fields_counted}

-- where the directory of a page stands, which is added to a file after the rest of the page before,
-- and its link
abbrev offset_of : ℕ → List ℕ → WrittenPage → ℕ
offset_of link rest page = directory_offset (link + 4 + length rest) page.strips

abbrev link_of : ℕ → List ℕ → WrittenPage → ℕ
link_of link rest page = offset_of link rest page + to_link page.bad

-- where its total ends
abbrev end_of : ℕ → List ℕ → WrittenPage → ℕ
end_of link rest page = offset_of link rest page + after_fields form_fields

-- the entries of its bad rows, which stand after its total
abbrev bad_bytes : WrittenPage → List ℕ
bad_bytes page = flat_map field_bytes (bad_fields page.bad)

bad_len : (bad : Option BadRows) → length (flat_map field_bytes (bad_fields bad)) ≡ 12 * length (bad_fields bad)
unfolding field_bytes
bad_len None = refl
bad_len (Some bad) = refl

-- what is written of a page: its strips, the number of its fields, the entries up to its total, the
-- total, the entries of its bad rows, and the next offset after them
record PageParts (link k : ℕ) (rest : List ℕ) (page : WrittenPage) : Type 0 where
  before : List ℕ
  entries : List ℕ
  tail : List ℕ
  is : (total : ℕ) → page_bytes (link + 4 + length rest) total k page
      ≡ before ++ (two (field_count page.bad) ++ (entries ++ (two total ++ (bad_bytes page ++ (four 0 ++ tail)))))
  before_len : link + 4 + length rest + length before ≡ offset_of link rest page
  entries_len : length entries ≡ 12 * form_fields - 2

joined : (A N E M T B Z V : List ℕ) → A ++ (N ++ (E ++ ((M ++ T) ++ B))) ++ Z ++ V
    ≡ A ++ (N ++ ((E ++ M) ++ (T ++ (B ++ (Z ++ V)))))
joined A N E M T B Z V = grind (arith, append_assoc)

options_len : (coding : Coding) (aligned : Bool) → length (options_field coding aligned).value ≡ 4
options_len Mh aligned = refl
options_len Mr aligned = refl
options_len Mmr aligned = refl

-- of the fields that each page has PageNumber (297, two SHORTs, of type 3) is the last;
-- StripOffsets (273) and StripByteCounts (279) are LONGs, of type 4
page_parts : (link k : ℕ) (rest : List ℕ) (page : WrittenPage) → PageParts link k rest page
unfolding page_bytes field_bytes
page_parts link k rest page =
    let form = page.form in
    let start = link + 4 + length rest in
    let all = flat_map (λ strip. strip) page.strips in
    let offsets = offsets_from start page.strips in
    let lengths = map length page.strips in
    let q = directory_offset start page.strips in
    let offset = q + (to_link page.bad + 20) in
    let A : List ℕ = all ++ replicate ((start + length all) % 2) 0 in
    let E : List WrittenField = take 15 (fields_with q 0 k form page.bad
    (field_of 273 4 (length offsets) (four (one_or_offset offsets offset)))
    (field_of 279 4 (length lengths) (four (one_or_offset lengths (offset + 4 * length lengths))))) in
    let M : List ℕ = two 297 ++ two 3 ++ four 2 ++ two k in
    let V : List ℕ = four form.x.0 ++ four form.x.1 ++ (four form.y.0 ++ four form.y.1)
    ++ array_bytes offsets ++ array_bytes lengths in
    record {
      before = A;
      entries = flat_map field_bytes E ++ M;
      tail = V;
      is = λ total.
          let last = field_of 297 3 2 (two k ++ two total) in
          let split : flat_map field_bytes (E ++ (last ∷ bad_fields page.bad))
          ≡ flat_map field_bytes E ++ ((M ++ two total) ++ bad_bytes page) =
          flat_map-append field_bytes E (last ∷ bad_fields page.bad) in
          let count = fields_counted q total k form page.bad
          (field_of 273 4 (length offsets) (four (one_or_offset offsets offset)))
          (field_of 279 4 (length lengths) (four (one_or_offset lengths (offset + 4 * length lengths)))) in
          ap (λ n. A ++ (two n ++ flat_map field_bytes (E ++ (last ∷ bad_fields page.bad))) ++ four 0 ++ V) count
          ∙ ap (λ (f : List ℕ). A ++ (two (field_count page.bad) ++ f) ++ four 0 ++ V) split
          ∙ joined A (two (field_count page.bad)) (flat_map field_bytes E) M (two total) (bad_bytes page) (four 0) V;
      before_len = grind (arith, length-append, length-replicate);
      entries_len = grind (arith, length-append, options_len);
    }

-- what stands from a link to the directory to which it leads
abbrev before_of : ℕ → ℕ → List ℕ → WrittenPage → List ℕ
before_of link k rest page = four (offset_of link rest page) ++ (rest ++ (page_parts link k rest page).before)

-- what stands from there to the total
abbrev entries_of : ℕ → ℕ → List ℕ → WrittenPage → List ℕ
entries_of link k rest page = two (field_count page.bad) ++ (page_parts link k rest page).entries

-- both
abbrev front_of : ℕ → ℕ → List ℕ → WrittenPage → List ℕ
front_of link k rest page = before_of link k rest page ++ entries_of link k rest page

-- a file that is written
abbrev file_at : List ℕ → ℕ → Written
file_at bytes link = record { bytes = bytes; link = link }

-- what stands from a link on, after which this is left of its page: page after page; and the last
-- link
pages_from : ℕ → ℕ → ℕ → List ℕ → List WrittenPage → Written
pages_from total k link rest [] = file_at (four 0 ++ rest) link
pages_from total k link rest (page ∷ pages) =
    let more = pages_from total (k + 1) (link_of link rest page) (page_parts link k rest page).tail pages in
    file_at (front_of link k rest page ++ (two total ++ (bad_bytes page ++ more.bytes))) more.link

some_link : (total k link : ℕ) (rest : List ℕ) (pages : List WrittenPage)
    → 4 ≤ length (pages_from total k link rest pages).bytes
unfolding pages_from
some_link total k link rest [] = omega arith
some_link total k link rest (page ∷ pages) = omega arith

-- how long a file is up to the directory of its last page, up to its total, and with its bad rows
record IsUpTo (x rest two_bytes : List ℕ) (link k : ℕ) (page : WrittenPage) : Type 0 where
  directory : length (x ++ before_of link k rest page) ≡ offset_of link rest page
  total : length (x ++ front_of link k rest page) + 2 ≡ end_of link rest page
  whole : length ((x ++ front_of link k rest page) ++ (two_bytes ++ bad_bytes page)) ≡ link_of link rest page

up_to : (x rest two_bytes : List ℕ) (link k : ℕ) (page : WrittenPage) → length x ≡ link → length two_bytes ≡ 2
    → IsUpTo x rest two_bytes link k page
up_to x rest two_bytes link k page is two_is =
    let parts = page_parts link k rest page in
    let before_directory = before_of link k rest page in
    let entries = entries_of link k rest page in
    let first : length (x ++ before_directory) ≡ offset_of link rest page =
    omega (arith, is, parts.before_len, length-append x before_directory, length-append rest parts.before) in
    let second : length (x ++ (before_directory ++ entries)) + 2 ≡ end_of link rest page =
    omega (
      arith,
      is,
      first,
      parts.entries_len,
      length-append x before_directory,
      length-append x (before_directory ++ entries),
      length-append before_directory entries,
    ) in
    record {
      directory = first;
      total = second;
      whole = omega (
        arith,
        second,
        two_is,
        bad_len page.bad,
        length-append (x ++ (before_directory ++ entries)) (two_bytes ++ bad_bytes page),
        length-append two_bytes (bad_bytes page),
      );
    }

-- so a file is written
written_are : (x rest : List ℕ) (link total k : ℕ) (pages : List WrittenPage) → length x ≡ link
    → let all = pages_from total k link rest pages in
    with_pages (file_at (x ++ (four 0 ++ rest)) link) total k pages ≡ file_at (x ++ all.bytes) all.link
unfolding with_pages with_page pages_from
written_are x rest link total k [] is = refl
written_are x rest link total k (page ∷ pages) is =
    let b : List ℕ = x ++ (four 0 ++ rest) in
    let front = front_of link k rest page in
    let parts = page_parts link k rest page in
    let next = link_of link rest page in
    let more = pages_from total (k + 1) next parts.tail pages in
    let len : length b ≡ link + 4 + length rest = omega (arith, is, length-append x (four 0 ++ rest)) in
    let before : take link b ≡ x = take_at x (four 0 ++ rest) link is in
    let after : drop (link + 4) b ≡ rest =
    ap (λ n. drop (n + 4) b) (sym is) ∙ drop-append-add x (four 0 ++ rest) 4 in
    let last : List ℕ = two total ++ bad_bytes page in
    let whole : x ++ four (offset_of link rest page) ++ rest ++ (parts.before ++ (two (field_count page.bad)
    ++ (parts.entries ++ (two total ++ (bad_bytes page ++ (four 0 ++ parts.tail))))))
    ≡ ((x ++ front) ++ last) ++ (four 0 ++ parts.tail) = grind (arith, append_assoc) in
    rw (len, before, after, parts.is total) (
    ap (λ (l : List ℕ). with_pages (file_at l next) total (k + 1) pages) whole
    ∙ written_are ((x ++ front) ++ last) parts.tail next total (k + 1) pages
    (up_to x rest (two total) link k page is refl).whole
    ∙ ap (λ (l : List ℕ). file_at l more.link) (grind (arith, append_assoc)))

-- a file's total is written
total_of : (x y z : List ℕ) (total link : ℕ) → length x + 2 ≡ link → length y ≡ 2
    → with_total total link (x ++ y ++ z) ≡ x ++ two total ++ z
total_of x y z total link e f =
    let front : take (link - 2) (x ++ y ++ z) ≡ x =
    ap (take (link - 2)) (append_assoc x y z) ∙ take_at x (y ++ z) (link - 2) (omega (arith, e)) in
    let back : drop link (x ++ y ++ z) ≡ z = drop_at (x ++ y) z link (omega (arith, e, f, length-append x y)) in
    rw (front, back) refl

-- the number at the link is the offset of the next page's directory
number_here : (file : List ℕ) (p x : ℕ) (rest : List ℕ) → drop p file ≡ four x ++ rest → x < 4294967296
    → number_at Little 4 file p ≡ x
unfolding number_at
number_here file p x rest is lt = rw is (omega (arith, lt))

-- and the number at that offset is how many fields the directory has
count_here : (file : List ℕ) (p x : ℕ) (rest : List ℕ) → drop p file ≡ two x ++ rest → x < 65536
    → number_at Little 2 file p ≡ x
unfolding number_at
count_here file p x rest is lt = rw is (omega (arith, lt))

-- the pages are found from the link on, and what each says becomes another total
record AreTold (total : ℕ) (old new : List ℕ) (n link last : ℕ) : Type 0 where
  are : ArePagesAfter old n link last
  totals : with_totals total n link old ≡ new

pages_told : (x rest : List ℕ) (link T t k : ℕ) (pages : List WrittenPage) → length x ≡ link
    → let old = pages_from t k link rest pages in
    length (x ++ old.bytes) < 4294967296
    → AreTold T (x ++ old.bytes) (x ++ (pages_from T k link rest pages).bytes) (length pages) link old.link
unfolding pages_from
pages_told x rest link T t k [] is small = record { are = refl; totals = refl }
pages_told x rest link T t k (page ∷ pages) is small =
    let parts = page_parts link k rest page in
    let before_directory = before_of link k rest page in
    let entries = entries_of link k rest page in
    let front = front_of link k rest page in
    let bad = bad_bytes page in
    let next = link_of link rest page in
    let y : List ℕ = x ++ front in
    let more = pages_from t (k + 1) next parts.tail pages in
    let W : List ℕ = x ++ (front ++ (two t ++ (bad ++ more.bytes))) in
    let whole : (total : ℕ) (z : List ℕ) → x ++ (front ++ (two total ++ (bad ++ z))) ≡ (y ++ (two total ++ bad)) ++ z =
    λ total z. grind (arith, append_assoc) in
    let split : (total : ℕ) (z : List ℕ) → (y ++ (two total ++ bad)) ++ z ≡ y ++ two total ++ (bad ++ z) =
    λ total z. grind (arith, append_assoc) in
    let up = λ (total : ℕ). up_to x rest (two total) link k page is refl in
    let len : (total : ℕ) → length ((y ++ (two total ++ bad)) ++ more.bytes) ≡ next + length more.bytes =
    λ total. omega (arith, (up total).whole, length-append (y ++ (two total ++ bad)) more.bytes) in
    let W_len : length W ≡ next + length more.bytes =
    ap (λ (l : List ℕ). length l) (whole t more.bytes) ∙ len t in
    let here : number_at Little 4 W link ≡ offset_of link rest page =
    number_here W link (offset_of link rest page) (rest ++ parts.before ++ entries ++ (two t ++ (bad ++ more.bytes)))
    (drop_at x (front ++ (two t ++ (bad ++ more.bytes))) link is ∙ grind (arith, append_assoc))
    (omega (arith, small, W_len)) in
    let at_directory : W ≡ (x ++ before_directory) ++ (entries ++ (two t ++ (bad
    ++ more.bytes))) = grind (arith, append_assoc) in
    let count : number_at Little 2 W (offset_of link rest page) ≡ field_count page.bad =
    count_here W (offset_of link rest page) (field_count page.bad) (parts.entries ++ (two t ++ (bad ++ more.bytes)))
    (ap (drop (offset_of link rest page)) at_directory
    ∙ drop_at (x ++ before_directory) (entries ++ (two t ++ (bad
    ++ more.bytes))) (offset_of link rest page) (up t).directory
    ∙ append_assoc (two (field_count page.bad)) parts.entries (two t ++ (bad ++ more.bytes)))
    (few_fields page.bad) in
    let count_of : fields_after W link ≡ field_count page.bad = ap (number_at Little 2 W) here ∙ count in
    let next_of : next_link W link ≡ next = rw (count_of, here) refl in
    let end_is : total_end W link ≡ end_of link rest page = rw here refl in
    let after = λ (total : ℕ). pages_told (y ++ (two total ++ bad)) parts.tail next T t (k + 1) pages (up total).whole
    (omega (arith, small, W_len, len total)) in
    record {
      are = (
        (
          omega (arith, here),
          omega (arith, count_of),
          omega (arith, next_of, W_len, some_link t (k + 1) next parts.tail pages),
        ),
        subst (λ n. ArePagesAfter W (length pages) n more.link) (sym next_of)
            (subst (λ l. ArePagesAfter l (length pages) next more.link) (sym (whole t more.bytes)) (after t).are),
      );
      totals =
          ap (λ n. with_totals T (length pages) n (with_total T (total_end W link) W)) next_of
          ∙ ap (λ n. with_totals T (length pages) next (with_total T n W)) end_is
          ∙ ap (λ l. with_totals T (length pages) next (with_total T (end_of link rest page) l))
          (whole t more.bytes ∙ split t more.bytes)
          ∙ ap (with_totals T (length pages) next) (total_of y (two t) (bad ++ more.bytes) T (end_of link rest page)
          (up t).total refl ∙ sym (split T more.bytes))
          ∙ (after T).totals
          ∙ sym (whole T (pages_from T (k + 1) next parts.tail pages).bytes);
    }

-- the pages that are written are found, and what each says becomes another total
totals_told : (total other : ℕ) (pages : List WrittenPage)
    → let old = with_pages empty_file other 0 pages in length old.bytes < 4294967296
    → ArePagesAfter old.bytes (length pages) 4 old.link
    × (with_totals total (length pages) 4 old.bytes ≡ (with_pages empty_file total 0 pages).bytes)
totals_told total other pages small =
    let start : List ℕ = take 4 empty_file.bytes in
    let so = written_are start [] 4 other 0 pages refl in
    let told = pages_told start [] 4 total other 0 pages refl
    (omega (arith, small, ap (λ (w : Written). length w.bytes) so)) in
    let whole = ap (λ (w : Written). w.bytes) (written_are start [] 4 total 0 pages refl) in
    rw (so, whole) (told.are, told.totals)

-- pages take as many bytes, whatever total they say
as_many : (total other k link : ℕ) (rest : List ℕ) (pages : List WrittenPage)
    → length (pages_from total k link rest pages).bytes ≡ length (pages_from other k link rest pages).bytes
unfolding pages_from
as_many total other k link rest [] = refl
as_many total other k link rest (page ∷ pages) =
    let next = as_many total other (k + 1) (link_of link rest page) (page_parts link k rest page).tail pages in
    grind (arith, length-append, next)

alike : (total other : ℕ) (pages : List WrittenPage)
    → length (with_pages empty_file total 0 pages).bytes ≡ length (with_pages empty_file other 0 pages).bytes
alike total other pages =
    let start : List ℕ = take 4 empty_file.bytes in
    let len = λ (n : ℕ). ap (λ (w : Written). length w.bytes) (written_are start [] 4 n 0 pages refl)
    ∙ length-append start (pages_from n 0 4 [] pages).bytes in
    len total ∙ ap (λ n. length start + n) (as_many total other 0 4 [] pages) ∙ sym (len other)

pub totals_are_told : TotalsAreTold
totals_are_told = record { told = totals_told; alike = alike }

module _ (writing : Writing) (is : IsWriting writing) where
  told_of : (total : ℕ) (pages : List WrittenPage) → HasAdded writing.total pages writing
      → ArePagesAfter writing.written.bytes writing.added 4 writing.written.link
      × (with_totals total writing.added 4 writing.written.bytes ≡ (with_pages empty_file total 0 pages).bytes)
  told_of total pages added =
      let bytes = ap (λ (w : Writing). w.written.bytes) added in
      rw added (totals_told total writing.total pages (omega (arith, is.limit, ap (λ (l : List ℕ). length l) bytes)))

  -- the pages that were added are found
  pub are_there : ArePagesAfter writing.written.bytes writing.added 4 writing.written.link
  are_there = (told_of 0 is.pages is.added).0

  -- and given how many they are they are a file
  pub are_file : (pages : List WrittenPage) → HasAdded writing.total pages writing
      → with_totals writing.added writing.added 4 writing.written.bytes ≡ file_of pages
  are_file pages added =
      let count : writing.added ≡ length pages = ap (λ (w : Writing). w.added) added in
      (told_of writing.added pages added).1 ∙ ap (λ n. (with_pages empty_file n 0 pages).bytes) count

  -- and where all were added, the file stays as it is
  pub stays : writing.added ≡ writing.total
      → with_totals writing.added writing.added 4 writing.written.bytes ≡ writing.written.bytes
  stays all =
      (told_of writing.added is.pages is.added).1
      ∙ ap (λ n. (with_pages empty_file n 0 is.pages).bytes) all
      ∙ sym (ap (λ (w : Writing). w.written.bytes) is.added)

-- one of the pages that are left
pub one_left : (count i : ℕ) → i < count → count - i ≡ suc (count - (i + 1))
one_left count i fewer = omega (arith, fewer)

pub total_len : (file : List ℕ) (T p : ℕ) → 2 ≤ p → p ≤ length file → length (with_total T p file) ≡ length file
total_len file T p some inside = grind (arith, length-append, length-take-le, length-drop)

-- what stands after a total stays
after_total : (file : List ℕ) (T p n : ℕ) → 2 ≤ p → p ≤ n → p ≤ length file → drop n (with_total T p file) ≡ drop n file
after_total file T p n some after inside =
    let front : List ℕ = take (p - 2) file ++ two T in
    let len : length front ≡ p =
    omega (arith, length-append (take (p - 2) file) (two T), length-take-le (p - 2) file (omega (arith, inside)), some)
    in
    ap (λ m. drop m (front ++ drop p file)) (omega (arith, len, after))
    ∙ drop-append-add front (drop p file) (n - p)
    ∙ drop-drop (n - p) p file
    ∙ ap (λ m. drop m file) (omega (arith, after))

-- so do the numbers after it
number_stays : (file : List ℕ) (T p n q : ℕ) → 2 ≤ p → p ≤ q → p ≤ length file
    → number_at Little n (with_total T p file) q ≡ number_at Little n file q
unfolding number_at
number_stays file T p n q some after inside = rw (after_total file T p q some after inside) refl

-- and the pages after it stand there still
pub still_pages : (file : List ℕ) (T p n link last : ℕ) → 2 ≤ p → p ≤ link → p ≤ length file
    → ArePagesAfter file n link last
    → ArePagesAfter (with_total T p file) n link last
still_pages file T p zero link last some after inside are = are
still_pages file T p (suc n) link last some after inside ((first, fields, whole), rest) =
    let len = total_len file T p some inside in
    let q = number_at Little 4 file link in
    let here = number_stays file T p 4 link some after inside in
    let count = number_stays file T p 2 q some (omega (arith, first, after)) inside in
    let further : p ≤ next_link file link = omega (arith, first, after) in
    rw (here, count, len)
    ((first, fields, whole), still_pages file T p n (next_link file link) last some further inside rest)
