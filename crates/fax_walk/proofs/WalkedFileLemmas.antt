-- A written file has the rows and the forms of its pages.
use Rattle.std.proofs.Common.{◌≡◌, ℕ, ◌+◌, List, [], ◌∷◌, ◌++◌, map, length, drop, None, Ok, Err, refl, sym, ap, ◌∙◌}
use Rattle.std.proofs.Common.{subst, arith, true}
use Rattle.std.specs.Prelude.{nat_lt}
use Rattle.std.proofs.lemmas.Bool.Decides.{nat_tests}
use Rattle.std.specs.List.{AllZip}
use Rattle.fax_bits.specs.declared.Colour.{Colour}
use Rattle.fax_bits.specs.laws.Codes.{AreBitsByIndex}
use Rattle.fax_files.specs.declared.Endian.TheVariants.{Little}
use Rattle.fax_files.specs.Directory.{Header, header, read_chain}
use Rattle.fax_files.specs.Page.{page}
use Rattle.fax_files.specs.laws.TiffFiles.{ArePageRows}
use Rattle.fax_files.specs.Layout.{WrittenPage, file_of}
use Rattle.fax_files.specs.laws.TiffFiles.{IsWritable, AreWritable, IsReadAt, WrittenFilesAreRead, WrittenRowsAreRead}
use Rattle.fax_files.specs.laws.TiffFiles.{FormsAreWhole}
use Rattle.fax_walk.specs.declared.cursor.Cursor.{Cursor}
use Rattle.fax_walk.specs.declared.end.End.TheVariants.{EndOfPages}
use Rattle.fax_walk.specs.Pages.{AreFrom, IsForm, chain_end, page_with_form, read_page}
use Rattle.fax_walk.specs.Items.{RowItem, first_at, IsRow}
use Rattle.fax_walk.specs.laws.WrittenFiles.{WalkedRow, walked, numbered, HoldsPageRows, rows_of, forms_of}
use Rattle.fax_walk.specs.laws.WrittenFiles.{WrittenFilesAreWalked}
use Rattle.fax_walk.proofs.InOrderLemmas.{joined}
use Rattle.fax_walk.proofs.PageLawLemmas.{no_page, some_page, next_dropped, proper_end}
use Rattle.std.proofs.lemmas.List.{map-append}
use Rattle.fax_walk.proofs.PageRowLemmas.{strips_from}
use Rattle.fax_walk.proofs.RowLawLemmas.{LinesAreRead}
use Rattle.fax_walk.proofs.StripRowLemmas.{AreRead}

-- a page of this number ends the chain properly
module _ (file : List ℕ) (head : Header) (is : header file ≡ Ok head) (offsets : List ℕ)
    (chain : read_chain head file ≡ record { offsets = offsets; end = None }) where
  proper_after : (p : ℕ) → drop p offsets ≡ [] → p ≡ length offsets
      → read_page file (record { page = p; row = 0 }) ≡ Err EndOfPages
  proper_after p e all =
      let at : Cursor = record { page = p; row = 0 } in
      let proper : chain_end (length offsets) None at ≡ EndOfPages =
      ap (λ (n : ℕ). chain_end n None at) (sym all) ∙ proper_end p in
      rw (chain, proper) at (no_page file head is at (rw chain e))

  page_there : (p q : ℕ) (later : List ℕ) → drop p offsets ≡ q ∷ later → (r : ℕ)
      → read_page file (record { page = p; row = r }) ≡ page_with_form head.endian q p (page head.endian file q)
  page_there p q later e r = some_page file head is (record { page = p; row = r }) q later (rw chain e)

-- rows that are returned, and then the rows end properly
pub record AreAllFrom (file : List ℕ) (p : ℕ) (rows : List WalkedRow) : Type 0 where
  pub items : List RowItem
  pub are : AreFrom (IsRow file) (first_at p 0) items EndOfPages
  pub rows_are : map walked items ≡ rows

module _ (by_place : AreBitsByIndex) (lines_read : LinesAreRead) (wholes : FormsAreWhole) (law : WrittenRowsAreRead)
    (file : List ℕ) (head : Header)
    (is : header file ≡ Ok head) (little : head.endian ≡ Little) (offsets : List ℕ)
    (chain : read_chain head file ≡ record { offsets = offsets; end = None }) where
  -- the rows of a page that is read as it was written
  page_read : (p q : ℕ) (later : List ℕ) (written : WrittenPage) (rows : List (List Colour))
      → drop p offsets ≡ q ∷ later
      → IsWritable written → IsReadAt file q written → HoldsPageRows written rows
      → AreRead file p (first_at p 0) 0 rows (λ to. to ≡ first_at (p + 1) 0)
  page_read p q later written rows e writable read holds =
      let are : ArePageRows Little file q written.form rows None =
      subst (λ (l : List (List Colour)). ArePageRows Little file q written.form l None) (sym holds.2)
      (law file q written holds.0 writable read holds.1) in
      let some : nat_lt 0 written.form.rows ≡ true = grind (arith, nat_tests, writable.limits.some_rows) in
      rw are.rows_are
      (rw some at
      (strips_from by_place lines_read file Little q written.form p
      (λ r. rw (little, read.form) at (page_there file head is offsets chain p q later e r))
      (wholes Little file q written.form read.form) are.strips 0 0 (omega arith) are.read))

  pages_read : (later : List ℕ) (p : ℕ) (pages : List WrittenPage) (rows : List (List (List Colour)))
      → drop p offsets ≡ later
      → p + length later ≡ length offsets → AreWritable pages → AllZip (IsReadAt file) later pages
      → AllZip HoldsPageRows pages rows
      → AreAllFrom file p (rows_of p rows)
  pages_read [] p [] [] e count writable read holds = grind (arith, proper_after)
  pages_read [] p [] (first ∷ rows) e count writable read holds = absurd holds
  pages_read [] p (written ∷ pages) rows e count writable read holds = absurd read
  pages_read (q ∷ later) p [] rows e count writable read holds = absurd read
  pages_read (q ∷ later) p (written ∷ pages) [] e count writable read holds = absurd holds
  pages_read (q ∷ later) p (written ∷ pages) (first ∷ rows) e count writable read holds =
      let here = page_read p q later written first e writable.0 read.0 holds.0 in
      let more =
      pages_read later (p + 1) pages rows (next_dropped p offsets q later e) (omega (arith, count)) writable.1 read.1
      holds.1 in
      record {
        items = here.items ++ more.items;
        are = joined (IsRow file) (first_at p 0) here.to here.items more.items EndOfPages here.lead
            (rw here.there more.are);
        rows_are =
            map-append walked here.items more.items ∙ ap (λ (l : List WalkedRow). l ++ map walked more.items)
            here.rows_are
            ∙ ap (λ (l : List WalkedRow). numbered p 0 first ++ l) more.rows_are;
      }

  forms_read : (later : List ℕ) (p : ℕ) (pages : List WrittenPage) → drop p offsets ≡ later
      → p + length later ≡ length offsets
      → AllZip (IsReadAt file) later pages → AreFrom (IsForm file) p (forms_of p pages) EndOfPages
  forms_read [] p [] e count read = rw (proper_after file head is offsets chain p e (omega (arith, count))) refl
  forms_read [] p (written ∷ pages) e count read = absurd read
  forms_read (q ∷ later) p [] e count read = absurd read
  forms_read (q ∷ later) p (written ∷ pages) e count read =
      let here = rw (little, read.0.form) at (page_there file head is offsets chain p q later e 0) in (
        p + 1,
        rw here refl,
        forms_read later (p + 1) pages (next_dropped p offsets q later e) (omega (arith, count)) read.1,
      )

-- the law of written files
pub written_files_are_walked : AreBitsByIndex → LinesAreRead → FormsAreWhole → WrittenFilesAreRead → WrittenRowsAreRead
    → WrittenFilesAreWalked
written_files_are_walked by_place lines_read wholes files law pages rows some few writable holds short =
    let file = file_of pages in
    let read = files pages some few writable short in
    let all =
    pages_read by_place lines_read wholes law file read.head read.head_is read.little read.offsets read.chain
    read.offsets 0 pages rows refl
    (omega arith) writable read.read holds in
    record {
      items = all.items;
      are = all.are;
      rows_are = all.rows_are;
      forms =
          forms_read by_place lines_read wholes law file read.head read.head_is read.little read.offsets read.chain
          read.offsets 0 pages refl
          (omega arith) read.read;
    }
