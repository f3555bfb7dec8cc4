-- A page that is added to a file.
use Rattle.std.proofs.Common.{◌≡◌, ℕ, ◌+◌, ◌-◌, ◌*◌, ◌%◌, ◌<◌, ◌≤◌, false, List, [], ◌∷◌, ◌++◌, length, Vec}
use Rattle.std.proofs.Common.{sym, ap, subst, ◌∙◌, arith, append_assoc}
use Rattle.std.specs.Prelude.{◌==◌, nat_le, if◌then◌else◌, replicate}
use Rattle.std.specs.declared.alloc.Global.{Global}
use Rattle.std.proofs.lemmas.Bool.{ne_eqb}
use Rattle.std.proofs.lemmas.List.{length-append, length-replicate, take-append-le, drop-append-le}
use Rattle.std.specs.Prelude.{Err, Option, Result, ◌↔◌}
use Rattle.fax_files.specs.declared.tiff_writer.WriteFault.{WriteFault}
use Rattle.fax_files.specs.declared.tiff_writer.WriteFault.TheVariants.{OutputTooLarge}
use Rattle.fax_files.specs.declared.PageForm.{PageForm}
use Rattle.fax_files.specs.declared.written.Layout.{Layout}
use Rattle.fax_files.specs.views.Page.{IsPageForm}
use Rattle.fax_files.specs.Directory.{max_file}
use Rattle.fax_files.specs.Layout.{to_link, four, offsets_from, one_or_offset, directory_offset, page_bytes, Written}
use Rattle.fax_files.specs.Layout.{BadRows, with_page}
use Rattle.fax_files.specs.code.PageParts.{to_offsets, lengths_of, joined_strips, fields_of, fields_bytes, values_bytes}
use Rattle.fax_files.specs.code.PageParts.{with_four_at}
use Rattle.fax_files.specs.views.Writing.{contents, given_page}
use Rattle.fax_files.specs.code.Writing.{IsLayout, laid_out_fields, tail_bytes, page_end}
use Rattle.fax_files.proofs.FileOffsetLemmas.{length-patched}
use Rattle.fax_files.proofs.WritingLemmas.{length-contents}
use Rattle.fax_files.proofs.WrittenStripLemmas.{length-offsets_from, length-lengths_of}
use Rattle.fax_files.proofs.WrittenFileLemmas.{length-with_page}

-- the values of the entries of strips
offsets_value : (start offset n : ℕ) (strips : List (List ℕ)) → length strips ≡ n
    → (if n == 1 then start else offset) ≡ one_or_offset (offsets_from start strips) offset
offsets_value start offset n [] count = grind arith
offsets_value start offset n (strip ∷ []) count = grind arith
offsets_value start offset n (strip ∷ next ∷ strips) count = grind arith

lengths_value : (start end offset n : ℕ) (strips : List (List ℕ)) → length strips ≡ n
    → end ≡ start + length (joined_strips strips)
    → (if n == 1 then (end - start) else offset) ≡ one_or_offset (lengths_of strips) offset
lengths_value start end offset n [] count end_is = grind arith
lengths_value start end offset n (strip ∷ []) count end_is = grind (arith, length-append)
lengths_value start end offset n (strip ∷ next ∷ strips) count end_is = grind (arith, ne_eqb)

-- a file that was patched grows as it would have before
patched : (bytes more : List ℕ) (link n : ℕ) → link + 4 ≤ length bytes
    → with_four_at (bytes ++ more) link n ≡ with_four_at bytes link n ++ more
patched bytes more link n inside = grind (arith, take-append-le, drop-append-le, append_assoc)

regrouped : (j r f z v : List ℕ) → j ++ (r ++ (f ++ z ++ v)) ≡ j ++ r ++ f ++ z ++ v
regrouped j r f z v = simp append_assoc

-- an answer that is not that the file is too large, where it is not
pub not_too_large : {A : Type 0} (answer : Result A WriteFault) (n : ℕ) → (answer ≡ Err OutputTooLarge → ⊥)
    → n ≤ max_file → (answer ≡ Err OutputTooLarge) ↔ (max_file < n)
not_too_large answer n other short = (λ e. absurd (other e), λ long. absurd (omega (arith, long, short)))

-- a file, and a page that is added to it
module _ (bytes : List ℕ) (link total added end : ℕ) (form : PageForm) (strips : List (Vec ℕ Global))
    (bad : Option BadRows) (inside : link + 4 ≤ length bytes)
    (limits : IsPageForm form) (exchanged : form.exchanged ≡ false) (counted : length strips ≡ form.strips) where
  abbrev old : Written
  old = record { bytes = bytes; link = link }

  abbrev new : Written
  new = with_page old total added (given_page form strips bad)

  count : length (contents strips) ≡ form.strips
  count = length-contents strips ∙ counted

  new_length : length new.bytes ≡ directory_offset (length bytes) (contents strips) + to_offsets bad
      + 2 * (if nat_le (length (contents strips)) 1 then 0 else (4 * length (contents strips)))
  new_length = length-with_page old total added (given_page form strips bad) inside (omega (
    arith,
    count,
    limits.strips,
    limits.rows,
  ))

  new_split : length new.bytes ≡ length bytes + length (page_bytes (length bytes) total added (given_page form strips
      bad))
  unfolding with_page
  new_split = grind (arith, length-append, length-patched)

  pub too_long : max_file < length bytes + length (joined_strips (contents strips)) → max_file < length new.bytes
  too_long long = omega (arith, new_length)

  -- its strips end there
  module _ (end_is : end ≡ length bytes + length (joined_strips (contents strips))) where
    pub size : length new.bytes ≡ page_end (end + end % 2) form.strips bad
    size = grind (arith, count, new_length)

    pub is_short : (found : ℕ) → found ≡ page_end (end + end % 2) form.strips bad → found ≤ max_file
        → length new.bytes ≤ max_file
    is_short found is short = omega (arith, size, is, short)

    module _ (at : Layout) (laid : IsLayout at form.strips (length bytes) end added total bad) where
      offset : at.directory ≡ directory_offset (length bytes) (contents strips)
      offset = laid.directory_is ∙ ap (λ (e : ℕ). e + e % 2) end_is

      fields_are : laid_out_fields at form
          ≡ fields_of (directory_offset (length bytes) (contents strips)) total added form bad
          (offsets_from (length bytes) (contents strips))
          (lengths_of (contents strips))
      fields_are = grind (arith, offsets_value, count, lengths_value, length-offsets_from, length-lengths_of)

      pub page_is : (tail : List ℕ) → tail ≡ tail_bytes end (laid_out_fields at form) form (length bytes)
          (contents strips)
          → joined_strips (contents strips) ++ tail ≡ page_bytes (length bytes) total added (given_page form strips bad)
      unfolding page_bytes
      page_is tail tail_is =
          let q = directory_offset (length bytes) (contents strips) in
          let all = joined_strips (contents strips) in
          let fields = fields_of q total added form bad (offsets_from (length bytes) (contents strips))
          (lengths_of (contents strips)) in
          let values = values_bytes form (offsets_from (length bytes) (contents strips)) (lengths_of (contents strips))
          in
          let pad : List ℕ = replicate ((length bytes + length all) % 2) 0 in
          ap (λ (t : List ℕ). all ++ t) (tail_is ∙ ap (λ fs. tail_bytes end fs form (length bytes) (contents strips))
          fields_are
          ∙ ap (λ (e : ℕ). tail_bytes e fields form (length bytes) (contents strips)) end_is)
          ∙ regrouped all pad (fields_bytes fields) (four 0) values

      pub added_bytes : (tail now : List ℕ) → tail ≡ tail_bytes end (laid_out_fields at form) form (length bytes)
          (contents strips)
          → now ≡ bytes ++ (joined_strips (contents strips) ++ tail) → with_four_at now link at.directory ≡ new.bytes
      unfolding with_page
      added_bytes tail now tail_is now_is =
          let page = page_bytes (length bytes) total added (given_page form strips bad) in
          ap (λ (l : List ℕ). with_four_at l link at.directory) now_is
          ∙ patched bytes (joined_strips (contents strips) ++ tail) link at.directory inside
          ∙ ap (λ (t : List ℕ). with_four_at bytes link at.directory ++ t) (page_is tail tail_is)
          ∙ ap (λ (n : ℕ). with_four_at bytes link n ++ page) offset

      pub new_link : at.directory + to_link bad ≡ new.link
      unfolding with_page
      new_link = ap (λ n. n + to_link bad) offset

      pub still_writing : (now : List ℕ) → now ≡ new.bytes → page_end (end + end % 2) form.strips bad ≤ max_file
          → (at.directory + to_link bad + 4 ≤ length now) × (length now ≤ max_file) × (length bytes ≤ length now)
      still_writing now now_is short = grind (arith, size, new_split)

-- a page that is written for a place of a file, whatever stands before it
module _ (start total added : ℕ) (form : PageForm) (strips : List (Vec ℕ Global)) (bad : Option BadRows)
    (header : 8 ≤ start)
    (limits : IsPageForm form)
    (exchanged : form.exchanged ≡ false) (counted : length strips ≡ form.strips) where
  abbrev front : List ℕ
  front = replicate start 0

  front_len : length front ≡ start
  front_len = length-replicate {A = ℕ} start 0

  room : 0 + 4 ≤ length front
  room = omega (arith, header, front_len)

  pub page_too_long : max_file < start + length (joined_strips (contents strips))
      → max_file < start + length (page_bytes start total added (given_page form strips bad))
  page_too_long long =
      let all = too_long front 0 total added 0 form strips bad room limits exchanged counted
      (subst (λ n. max_file < n + length (joined_strips (contents strips))) (sym front_len) long) in
      subst (λ n. max_file < n + length (page_bytes n total added (given_page form strips bad))) front_len
      (omega (arith, all, new_split front 0 total added 0 form strips bad room limits exchanged counted))

  pub page_size : (end : ℕ) → end ≡ start + length (joined_strips (contents strips))
      → start + length (page_bytes start total added (given_page form strips bad))
      ≡ page_end (end + end % 2) form.strips bad
  page_size end end_is =
      let there = subst (λ n. end ≡ n + length (joined_strips (contents strips))) (sym front_len) end_is in
      let all = size front 0 total added end form strips bad room limits exchanged counted there in
      subst (λ n. n + length (page_bytes n total added (given_page form strips bad))
      ≡ page_end (end + end % 2) form.strips bad)
      front_len
      (omega (arith, all, new_split front 0 total added end form strips bad room limits exchanged counted))

  module _ (end : ℕ) (end_is : end ≡ start + length (joined_strips (contents strips))) (at : Layout)
      (laid : IsLayout at form.strips start end added total bad) where
    there : end ≡ length front + length (joined_strips (contents strips))
    there = subst (λ n. end ≡ n + length (joined_strips (contents strips))) (sym front_len) end_is

    laid_there : IsLayout at form.strips (length front) end added total bad
    laid_there = subst (λ n. IsLayout at form.strips n end added total bad) (sym front_len) laid

    pub whole_page : (tail bytes : List ℕ) → tail ≡ tail_bytes end (laid_out_fields at form) form start
        (contents strips)
        → bytes ≡ joined_strips (contents strips) ++ tail → bytes
        ≡ page_bytes start total added (given_page form strips bad)
    whole_page tail bytes tail_is bytes_are =
        let tail_there = subst (λ n. tail ≡ tail_bytes end (laid_out_fields at form) form n (contents strips))
        (sym front_len) tail_is in
        bytes_are ∙ subst (λ n. joined_strips (contents strips) ++ tail
        ≡ page_bytes n total added (given_page form strips bad)) front_len
        (page_is front 0 total added end form strips bad room limits exchanged counted there at laid_there tail
        tail_there)
