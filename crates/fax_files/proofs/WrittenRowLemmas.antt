-- The rows of a page that is read as it was written.
use Rattle.std.proofs.Common.{◌≡◌, ℕ, suc, ◌+◌, ◌<◌, List, [], ◌∷◌, length, get_or, inl, Some, None, refl, arith}
use Rattle.fax_bits.specs.declared.Colour.{Colour}
use Rattle.fax_files.specs.declared.Endian.TheVariants.{Little}
use Rattle.fax_files.specs.declared.PageForm.{PageForm}
use Rattle.fax_files.specs.Page.{strip_bytes}
use Rattle.fax_files.specs.laws.TiffFiles.{AreStrips, HoldStripRows, WrittenRowsAreRead}

strips_from : (file : List ℕ) (q : ℕ) (form : PageForm) (s : ℕ) (strips : List (List ℕ))
    (lists : List (List (List Colour)))
    → ((i : ℕ) → i < length strips → strip_bytes Little file q (s + i) ≡ Some (get_or strips i []))
    → s + length strips ≡ form.strips → HoldStripRows form s strips lists → AreStrips Little file q form s lists None
strips_from file q form s [] [] read count rows = inl (omega arith, refl)
strips_from file q form s [] (list ∷ lists) read count rows = absurd rows
strips_from file q form s (strip ∷ strips) [] read count rows = absurd rows
strips_from file q form s (strip ∷ strips) (list ∷ lists) read count rows =
    let here : s + 0 ≡ s = omega arith in
    let first : strip_bytes Little file q s ≡ Some strip = rw here at (read 0 (omega arith)) in
    let next : (i : ℕ) → i < length strips → strip_bytes Little file q (s + 1 + i) ≡ Some (get_or strips i []) =
    λ i lt. let n : s + suc i ≡ s + 1 + i = omega arith in rw n at (read (suc i) (omega arith)) in (
      omega arith,
      strip,
      None,
      first,
      rows.0,
      inl (
        refl,
        strips_from file q form (s + 1) strips lists next (omega arith)
            rows.1,
      ),
    )

-- the law of a page's rows
pub written_rows_are_read : WrittenRowsAreRead
written_rows_are_read file q written lists w read rows =
    let same : (i : ℕ) → i < length written.strips → strip_bytes Little file q (0 + i)
    ≡ Some (get_or written.strips i []) =
    λ i lt. let n : 0 + i ≡ i = omega arith in rw n (read.strips i (omega (arith, lt, w.strips))) in
    record {
      strips = lists;
      read = strips_from file q written.form 0 written.strips lists same (omega (arith, w.strips)) rows;
      rows_are = rw w.exchanged refl;
    }
