-- A written file is read as the pages that were written.
use Rattle.std.proofs.Common.{rules, ◌≡◌, ℕ, ◌+◌, ◌%◌, ◌<◌, ◌≤◌, ◌≢◌, ◌⊎◌, inl, inr, true, false, List, [], ◌∷◌, ◌++◌}
use Rattle.std.proofs.Common.{length, take, drop}
use Rattle.std.proofs.Common.{None, Result, Ok, Err, refl, sym, ap, ◌∙◌, arith, ◌*◌}
use Rattle.std.proofs.lemmas.List.{length-append, length-replicate}
use Rattle.std.proofs.lemmas.Bool.{le-leb, ne_eqb}
use Rattle.std.proofs.lemmas.List.Elements.{All-nil, All-cons, All-weaker}
use Rattle.std.specs.List.{All, AllZip, list_any}
use Rattle.std.proofs.lemmas.List.Folds.{list_any_none}
use Rattle.std.specs.Prelude.{◌==◌, replicate, codes, bytes_eq, nat_le, if◌then◌else◌}
use Rattle.fax_files.specs.declared.FileFault.TheVariants as file_fault
use Rattle.fax_files.specs.Directory.{is_inside, number_at, is_directory, next_offset, Endian, Little, Big, FileFault}
use Rattle.fax_files.specs.Directory.{Header, header}
use Rattle.fax_files.specs.laws.TiffFiles.{IsChainFrom}
use Rattle.fax_files.proofs.ChainLaws.{has_one_chain}
use Rattle.fax_files.specs.Layout.{to_link, two, four, offsets_from, directory_offset, page_bytes, Written, with_page}
use Rattle.fax_files.specs.Layout.{with_pages}
use Rattle.fax_files.specs.Layout.{WrittenPage, file_of, array_bytes}
use Rattle.fax_files.specs.code.PageParts.{to_x, to_offsets, lengths_of, fields_bytes, values_bytes, joined_strips}
use Rattle.fax_files.specs.views.Writing.{empty_file}
use Rattle.fax_files.specs.laws.TiffFiles.{IsWritable, AreWritable, IsReadAt, AppendedPagesAreRead, WrittenFilesAreRead}
use Rattle.fax_files.proofs.FileOffsetLemmas.{HasBytesAt, at_offset, at_left, at_right, at_inside, at_drop, at_start}
use Rattle.fax_files.proofs.FileOffsetLemmas.{at_slice, length-slice}
use Rattle.fax_files.proofs.FileOffsetLemmas.{slice_there, at_end, at_grown, at_patch, at_before_patch, at_after_patch}
use Rattle.fax_files.proofs.FileOffsetLemmas.{length-patched}
use Rattle.fax_files.proofs.FileOffsetLemmas.{number_there}
use Rattle.fax_files.proofs.WrittenStripLemmas.{length-offsets_from, length-lengths_of, length-longs}
use Rattle.fax_files.proofs.WrittenPageLemmas.{page_fields, IsPageAt, length-page_fields, page_back, directory_whole}
use Rattle.fax_files.proofs.WrittenPageLemmas.{few_strips, next_there}

-- II is little-endian, MM is big-endian
abbrev endian_of : List ℕ → Result Endian FileFault
endian_of bytes =
    if bytes_eq bytes (codes "II") then (Ok Little) else (if bytes_eq bytes (codes "MM") then (Ok Big) else
    (Err file_fault.ByteOrder))

-- a file whose last link is still 0
abbrev pub HasOpenLink : Written → Type 0
HasOpenLink old = HasBytesAt old.bytes old.link (four 0)

-- a file with one more page
abbrev with_written : Written → ℕ → ℕ → WrittenPage → Written
with_written old total k written = with_page old total k written

-- where its directory stands
abbrev offset_of : Written → WrittenPage → ℕ
offset_of old written = directory_offset (length old.bytes) written.strips

-- what is written of a page stands after what stood there
appended : (old : Written) (total k : ℕ) (written : WrittenPage) → HasOpenLink old
    → HasBytesAt (with_written old total k written).bytes (length old.bytes)
    (page_bytes (length old.bytes) total k written)
unfolding with_page
appended old total k written open' = grind (arith, length-patched, at_inside, at_end)

-- the parts of a page that was appended
record Appended (old new : Written) (total k : ℕ) (written : WrittenPage) : Type 0 where
  page_is : IsPageAt new.bytes (offset_of old written) (length old.bytes) total k written
  new_link : new.link ≡ offset_of old written + to_link written.bad
  is_open : HasOpenLink new
  old_link : HasBytesAt new.bytes old.link (four (offset_of old written))
  kept : (p : ℕ) (bytes : List ℕ) → (p + length bytes ≤ old.link) ⊎ (old.link + 4 ≤ p) → HasBytesAt old.bytes p bytes
      → HasBytesAt new.bytes p bytes

stays : (old : Written) (total k : ℕ) (written : WrittenPage) (p : ℕ) (bytes : List ℕ)
    → (p + length bytes ≤ old.link) ⊎ (old.link + 4 ≤ p)
    → HasBytesAt old.bytes p bytes → HasBytesAt (with_written old total k written).bytes p bytes
unfolding with_page
stays old total k written p bytes (inl before) h = grind (arith, at_grown, at_before_patch)
stays old total k written p bytes (inr after) h = grind (arith, at_grown, at_after_patch)

linked : (old : Written) (total k : ℕ) (written : WrittenPage) → HasOpenLink old
    → HasBytesAt (with_written old total k written).bytes old.link (four (offset_of old written))
unfolding with_page
linked old total k written open' = grind (arith, at_grown, at_patch, at_inside)

link_of : (old : Written) (total k : ℕ) (written : WrittenPage)
    → (with_written old total k written).link ≡ offset_of old written + to_link written.bad
unfolding with_page
link_of old total k written = refl

-- one page appended
is_appended : (old : Written) (total k : ℕ) (written : WrittenPage) → HasOpenLink old → IsWritable written
    → Appended old (with_written old total k written) total k written
unfolding page_bytes
is_appended old total k written open' w =
    let start = length old.bytes in
    let q = offset_of old written in
    let strips = joined_strips written.strips in
    let pad : List ℕ = replicate ((start + length strips) % 2) 0 in
    let fields = fields_bytes (page_fields q start total k written) in
    let values = values_bytes written.form (offsets_from start written.strips) (lengths_of written.strips) in
    let pad_len : length pad ≡ (start + length strips) % 2 = length-replicate _ 0 in
    let offset : start + length (strips ++ pad) ≡ q = omega (arith, length-append strips pad, pad_len) in
    let fields_len = length-page_fields q start total k written (few_strips written w) in
    let all = appended old total k written open' in
    let with_zero = at_left (strips ++ pad ++ fields ++ four 0) values all in
    let with_fields = at_left (strips ++ pad ++ fields) (four 0) with_zero in
    let zero_offset : start + length (strips ++ pad ++ fields) ≡ q + to_link written.bad =
    omega (arith, offset, fields_len, length-append (strips ++ pad) fields) in
    let values_offset : start + length (strips ++ pad ++ fields ++ four 0) ≡ q + to_x written.bad =
    omega (arith, zero_offset, length-append (strips ++ pad ++ fields) (four 0)) in
    record {
      page_is = record {
        fields = at_offset offset (at_right (strips ++ pad) fields with_fields);
        values = at_offset values_offset (at_right (strips ++ pad ++ fields ++ four 0) values all);
        strips = at_left strips pad (at_left (strips ++ pad) fields with_fields);
      };
      new_link = link_of old total k written;
      is_open = at_offset (zero_offset ∙ sym (link_of old total k written))
          (at_right (strips ++ pad ++ fields) (four 0) with_zero);
      old_link = linked old total k written open';
      kept = stays old total k written;
    }

-- how long a file with one more page is
length-array : (numbers : List ℕ) → length (array_bytes numbers)
    ≡ (if nat_le (length numbers) 1 then 0 else 4 * length numbers)
length-array numbers = grind (arith, length-longs)

pub length-with_page : (old : Written) (total k : ℕ) (written : WrittenPage) → old.link + 4 ≤ length old.bytes
    → length written.strips < 4294967296
    → length (with_written old total k written).bytes
    ≡ offset_of old written + to_offsets written.bad + 2 * (if nat_le (length written.strips) 1 then 0 else 4 * length
    written.strips)
unfolding with_page page_bytes
length-with_page old total k written inside few =
    grind (
      arith,
      length-replicate,
      length-array,
      length-offsets_from,
      length-lengths_of,
      length-append,
      length-patched,
      length-page_fields,
    )

-- the law of one page appended
pub appended_pages_are_read : AppendedPagesAreRead
appended_pages_are_read old total k written open' w short =
    let new = with_written old total k written in
    let q = offset_of old written in
    let has_link : HasOpenLink old = rw open'.zero at (at_slice old.bytes old.link 4 open'.inside) in
    let one = is_appended old total k written has_link w in
    let after = at_inside _ one.page_is.values in
    record {
      link = number_there 4 one.old_link (omega (arith, after, short));
      kept = λ offset n inside apart.
          let bytes = take n (drop offset old.bytes) in
          let len = length-slice old.bytes offset n inside in
          let stands = one.kept offset bytes (rw len apart) (at_slice old.bytes offset n inside) in
          rw len at (slice_there bytes stands);
      whole = directory_whole new.bytes q (length old.bytes) total k written one.page_is;
      last =
          next_there new.bytes q (length old.bytes) total k written one.page_is
          ∙ number_there 4 (at_offset one.new_link one.is_open) (omega arith);
      read = page_back new.bytes q (length old.bytes) total k written
          (record { small = omega (arith, short); writable = w; here = one.page_is });
      is_open = record { inside = at_inside (four 0) one.is_open; zero = slice_there (four 0) one.is_open };
    }

-- where the directories of pages that are appended stand
abbrev pub offsets_of : Written → ℕ → ℕ → List WrittenPage → List ℕ
offsets_of old total k [] = []
offsets_of old total k (written ∷ pages) = offset_of old written
    ∷ offsets_of (with_written old total k written) total (k + 1) pages

-- the file with them
abbrev with_all : Written → ℕ → ℕ → List WrittenPage → List ℕ
with_all old total k pages = (with_pages old total k pages).bytes

-- what stood in a file stays, but for its link
stays_through : (old : Written) (total k : ℕ) (pages : List WrittenPage) → HasOpenLink old → AreWritable pages
    → (p : ℕ) (bytes : List ℕ)
    → (p + length bytes ≤ old.link) ⊎ (old.link + 4 ≤ p) → HasBytesAt old.bytes p bytes
    → HasBytesAt (with_all old total k pages) p bytes
unfolding with_pages
stays_through old total k [] open' w p bytes apart h = h
stays_through old total k (written ∷ pages) open' w p bytes apart h =
    let one = is_appended old total k written open' w.0 in
    let before : p + length bytes ≤ (with_written old total k written).link =
    omega (arith, one.new_link, at_inside bytes h) in
    stays_through (with_written old total k written) total (k + 1) pages one.is_open w.1 p bytes (inl before)
    (one.kept p bytes apart h)

-- so does what was written of a page, whose link is after all but its values
page_stays : (old : Written) (total k : ℕ) (written : WrittenPage) (pages : List WrittenPage) → HasOpenLink old
    → IsWritable written
    → AreWritable pages
    → IsPageAt (with_all (with_written old total k written) total (k + 1) pages) (offset_of old written)
    (length old.bytes) total k written
page_stays old total k written pages open' w rest =
    let one = is_appended old total k written open' w in
    let new = with_written old total k written in
    let q = offset_of old written in
    let keep = stays_through new total (k + 1) pages one.is_open rest in
    let fields = fields_bytes (page_fields q (length old.bytes) total k written) in
    let fields_len = length-page_fields q (length old.bytes) total k written (few_strips written w) in
    record {
      fields = keep q fields (inl (omega (arith, one.new_link, fields_len))) one.page_is.fields;
      values = keep (q + to_x written.bad) _ (inr (omega (arith, one.new_link))) one.page_is.values;
      strips = keep (length old.bytes) (joined_strips written.strips) (inl (omega (arith, one.new_link)))
          one.page_is.strips;
    }

-- the file is read as these pages from its link on, after these directories
chain_through : (old : Written) (total k : ℕ) (pages : List WrittenPage) → HasOpenLink old → AreWritable pages
    → length (with_all old total k pages) < 4294967296
    → (before : List ℕ) → All (λ o. o < length old.bytes) before
    → IsChainFrom Little (with_all old total k pages) before (number_at Little 4 (with_all old total k pages) old.link)
    (offsets_of old total k pages) None
unfolding with_pages
chain_through old total k [] open' w small before below = search (rules, number_there)
chain_through old total k (written ∷ pages) open' w small before below =
    let one = is_appended old total k written open' w.0 in
    let new = with_written old total k written in
    let q = offset_of old written in
    let file = with_all new total (k + 1) pages in
    let inside = at_inside (four 0) open' in
    let here = page_stays old total k written pages open' w.0 w.1 in
    let after = at_inside _ here.values in
    let link =
    stays_through new total (k + 1) pages one.is_open w.1 old.link (four q) (inl (omega (arith, one.new_link, inside)))
    one.old_link in
    let next_at : number_at Little 4 file old.link ≡ q = number_there 4 link (omega (arith, after, small)) in
    let new_place : list_any (λ o. q == o) before ≡ false =
    list_any_none (λ o. q == o) before (All-weaker (λ o. o < length old.bytes) (λ o. (q == o) ≡ false)
    (λ o lt. ne_eqb _ _ (λ e. absurd (omega (arith, e, lt)))) before below) in
    let some : q ≢ 0 = λ e. absurd (omega (arith, e, inside)) in
    let whole : is_directory Little file q ≡ true = directory_whole file q (length old.bytes) total k written here in
    let next : next_offset Little file q ≡ number_at Little 4 file new.link =
    next_there file q (length old.bytes) total k written here ∙ ap (number_at Little 4 file) (sym one.new_link) in
    let longer : q < length new.bytes = omega (arith, at_inside (four 0) one.is_open, one.new_link) in
    let all_below : All (λ o. o < length new.bytes) (q ∷ before) =
    All-cons (λ o. o < length new.bytes) q before longer (All-weaker (λ o. o < length old.bytes)
    (λ o. o < length new.bytes)
    (λ o lt. omega (arith, lt, longer)) before below) in
    let rest = chain_through new total (k + 1) pages one.is_open w.1 small (q ∷ before) all_below in
    rw (next_at, next) (refl, some, rw (new_place, whole) refl, rest)

-- and each page as it was written
pages_through : (old : Written) (total k : ℕ) (pages : List WrittenPage) → HasOpenLink old → AreWritable pages
    → length (with_all old total k pages) < 4294967296
    → AllZip (IsReadAt (with_all old total k pages)) (offsets_of old total k pages) pages
unfolding with_pages
pages_through old total k [] open' w small = tt
pages_through old total k (written ∷ pages) open' w small =
    let one = is_appended old total k written open' w.0 in
    let new = with_written old total k written in
    let here = page_stays old total k written pages open' w.0 w.1 in (
      page_back (with_all new total (k + 1) pages) (offset_of old written) (length old.bytes) total k written
          (record { small = small; writable = w.0; here = here }),
      pages_through new total (k + 1) pages one.is_open w.1 small,
    )

-- a file that begins with II and 42 and has its first directory somewhere has a good header
header_there : (file : List ℕ) → 8 ≤ length file → HasBytesAt file 0 (codes "II" ++ two 42)
    → (number_at Little 4 file 4 ≡ 0 → ⊥)
    → header file ≡ Ok (record { endian = Little; first = number_at Little 4 file 4 })
unfolding header
header_there file long h some =
    let whole : is_inside file 0 8 ≡ true = le-leb _ _ long in
    let letters : endian_of (take 2 file) ≡ Ok Little = ap (λ (l : List ℕ). endian_of (take 2 l))
    (at_drop (codes "II" ++ two 42) h) in
    let magic : number_at Little 2 file 2 ≡ 42 = number_there 2 (at_right (codes "II") (two 42) h) (omega arith) in
    let first : (number_at Little 4 file 4 == 0) ≡ false = ne_eqb _ _ some in
    rw (whole, letters, magic, first) refl

-- a file with pages after a header
first_there : (written : WrittenPage) (total k : ℕ) (pages : List WrittenPage) → AreWritable (written ∷ pages)
    → length (with_all empty_file total k (written ∷ pages)) < 4294967296
    → (number_at Little 4 (with_all empty_file total k (written ∷ pages)) 4 ≡ 0 → ⊥)
    × (8 ≤ length (with_all empty_file total k (written ∷ pages)))
unfolding with_pages
first_there written total k pages w small =
    let one = is_appended empty_file total k written (at_end (codes "II" ++ two 42) (four 0)) w.0 in
    let q = offset_of empty_file written in
    let link = stays_through (with_written empty_file total k written) total (k + 1) pages one.is_open w.1 4 (four q)
    (inl (omega (arith, one.new_link))) one.old_link in
    let here = page_stays empty_file total k written pages (at_end (codes "II" ++ two 42) (four 0)) w.0 w.1 in
    let after = at_inside _ here.values in
    let next_at = number_there 4 link (omega (arith, after, small)) in
    (λ e. absurd (omega (arith, e, next_at)), omega (arith, after))

-- the law of written files
pub written_files_are_read : WrittenFilesAreRead
written_files_are_read [] some many w short = absurd (omega arith)
written_files_are_read (written ∷ pages) some many w short =
    let total = length (written ∷ pages) in
    let file = file_of (written ∷ pages) in
    let small : length file < 4294967296 = omega (arith, short) in
    let open' : HasOpenLink empty_file = at_end (codes "II" ++ two 42) (four 0) in
    let start = stays_through empty_file total 0 (written ∷ pages) open' w 0 (codes "II" ++ two 42) (inl (omega arith))
    (at_start (codes "II" ++ two 42) (four 0)) in
    let first = first_there written total 0 pages w small in
    let head : Header = record { endian = Little; first = number_at Little 4 file 4 } in
    record {
      head = head;
      offsets = offsets_of empty_file total 0 (written ∷ pages);
      head_is = header_there file first.1 start first.0;
      little = refl;
      chain = (has_one_chain head file).one (record {
        offsets = offsets_of empty_file total 0 (written ∷ pages);
        end = None;
      }) (chain_through empty_file total 0 (written ∷ pages) open' w small []
          (All-nil (λ o. o < length empty_file.bytes)));
      read = pages_through empty_file total 0 (written ∷ pages) open' w small;
    }
