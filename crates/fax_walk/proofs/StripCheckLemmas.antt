-- The strips of a page that is checked.
use Rattle.std.proofs.Common.{◌≡◌, ℕ, ◌+◌, ◌*◌, ◌<◌, List, [], ◌∷◌, ◌++◌, length, min, Some, None, Ok, Err, refl, sym}
use Rattle.std.proofs.Common.{◌∙◌, ap, arith, append_assoc, append-nil, Bool}
use Rattle.std.specs.Prelude.{Option, Result, ◌==◌, if◌then◌else◌}
use Rattle.fax_bits.specs.declared.Colour.{Colour}
use Rattle.fax_bits.specs.Bits.{bits}
use Rattle.fax_bits.specs.laws.Codes.{AreBitsByIndex}
use Rattle.fax_page.specs.declared.StripFault.{StripFault}
use Rattle.fax_page.specs.declared.notes.NotesFault.{NotesFault}
use Rattle.fax_page.specs.declared.notes.NotesFault.TheVariants.{Memory, Strip as RowOfStrip}
use Rattle.fax_page.specs.declared.notes.StripNotes.{StripNotes}
use Rattle.fax_page.specs.views.Strip.{IsNotesFault}
use Rattle.fax_page.specs.laws.Lines.{IsStrip}
use Rattle.fax_page.specs.declared.StripForm.{StripForm}
use Rattle.fax_page.specs.Strip.{StripRead, noted, notes_after, read_strip}
use Rattle.fax_files.specs.declared.Cause.{Cause}
use Rattle.fax_files.specs.declared.Cause.TheVariants.{File, Strip}
use Rattle.fax_files.specs.declared.FileFault.TheVariants.{StripOutside}
use Rattle.fax_files.specs.declared.PageForm.{PageForm}
use Rattle.fax_files.specs.laws.TiffFiles.{IsWholeForm, shown}
use Rattle.fax_files.specs.Page.{strip_form}
use Rattle.fax_files.specs.views.Page.{IsPageForm}
use Rattle.fax_files.specs.views.Tiff.{TiffDirectory, bytes_of, form_of}
use Rattle.fax_walk.specs.declared.checking.Note.{Note}
use Rattle.fax_walk.specs.declared.checking.PageRead.{PageRead}
use Rattle.fax_walk.specs.declared.end.End.{End}
use Rattle.fax_walk.specs.declared.end.End.TheVariants.{Fault}
use Rattle.fax_walk.specs.laws.InOrder.{LeadTo}
use Rattle.fax_walk.specs.Pages.{NextItem, ends_as, goes_on}
use Rattle.fax_walk.specs.Items.{RowItem, RowPosition, first_at, IsRow}
use Rattle.fax_walk.specs.Report.{notes_on_strip, noted_strip, IsNoted}
use Rattle.fax_walk.specs.code.Opening.{IsPageOf}
use Rattle.fax_walk.specs.code.Check.{before_strip, CheckPlace, HasChecked, IsDirectoryOfPage}
use Rattle.fax_walk.specs.code.Check.{AreStripsChecked, IsRestChecked, IsRowInside, IsReadTo}
use Rattle.fax_walk.proofs.CheckLemmas.{nothing_checked, checked_on}
use Rattle.fax_walk.proofs.StripPlaceLemmas.{in_strip, shown_length, strip_count}
use Rattle.fax_walk.proofs.RowLawLemmas.{LinesAreRead}
use Rattle.fax_walk.proofs.OpenPageLemmas.{whole_of}
use Rattle.fax_walk.proofs.StripRowLemmas.{row_at, strip_rows, walked_length}

-- a page that is checked, and what is known of bits and lines
pub record IsPageToCheck (directory : TiffDirectory) (form : PageForm) (p : ℕ) : Type 0 where
  pub by_place : AreBitsByIndex
  pub lines_read : LinesAreRead
  pub limits : IsPageForm form
  pub form_is : form_of directory ≡ Ok form
  pub here : IsDirectoryOfPage directory p

-- before the page's first strip
pub none_before : (with_received : Bool) (directory : TiffDirectory) (form : PageForm) (p : ℕ) (notes : List Note)
    → AreStripsChecked with_received directory form p 0 notes notes
none_before with_received directory form p notes = grind (arith, append-nil, nothing_checked)

-- a strip with notes has all its rows, and one with none has a fault after so many
abbrev notes_or_fault : StripForm → List Bool → StripRead → Option StripFault → Result StripNotes (ℕ × StripFault)
notes_or_fault form b strip end =
    elim end [
      | None ↦ Ok (notes_after form b strip.rows strip.remaining)
      | Some fault ↦ Err (length strip.rows, fault)
    ]

end_of : (form : StripForm) (b : List Bool) (strip : StripRead) (found : StripNotes)
    → notes_or_fault form b strip strip.end ≡ Ok found → strip.end ≡ None
end_of form b strip found is = by strip.end is
  where
    by : (end : Option StripFault) → notes_or_fault form b strip end ≡ Ok found → end ≡ None
    by None is = refl
    by (Some fault) is = absurd (cc is)

fault_of : (form : StripForm) (b : List Bool) (strip : StripRead) (row : ℕ) (fault : StripFault)
    → notes_or_fault form b strip strip.end ≡ Err (row, fault)
    → (strip.end ≡ Some fault) × (length strip.rows ≡ row)
fault_of form b strip row fault is = by strip.end is
  where
    by : (end : Option StripFault) → notes_or_fault form b strip end ≡ Err (row, fault)
        → (end ≡ Some fault) × (length strip.rows ≡ row)
    by None is = absurd (cc is)
    by (Some other) is =
        let same : (length strip.rows, other) ≡ (row, fault) = cc is in
        (ap (λ (found : ℕ × StripFault). Some found.1) same, ap (λ (found : ℕ × StripFault). found.0) same)

-- what is noted of a strip, by what is found in it
abbrev noted_by : PageForm → ℕ → ℕ → Result StripNotes (ℕ × StripFault) → NextItem (List Note) (ℕ × Option ℕ)
noted_by form p s found =
    elim found [
      | Ok notes ↦ goes_on (notes_on_strip p s notes)
          (if s + 1 == form.strips then (p + 1, None) else (p, Some (s + 1)))
      | Err (rows, fault) ↦ ends_as (Fault p (s * form.rows_per_strip + rows) (Strip fault))
    ]

module _ (directory : TiffDirectory) (form : PageForm) (p : ℕ) (on : IsPageToCheck directory form p) where
  abbrev file : List ℕ
  file = directory.file

  abbrev n : ℕ
  n = form.rows_per_strip

  page : IsPageOf file p (record { endian = directory.endian; offset = directory.offset; form = form })
  page r = rw on.form_is at (on.here r)

  whole : IsWholeForm form
  whole = whole_of form on.limits

  -- before a strip that the page has
  at_strip : (s : ℕ) → s < form.strips → before_strip form p s ≡ record { next = (p, Some s); row = first_at p (s * n) }
  at_strip s upcoming = grind (arith, whole)

  noted_of : (s : ℕ) (bytes : List ℕ) (found : Result StripNotes (ℕ × StripFault)) → bytes_of directory s ≡ Some bytes
      → noted (strip_form form s) (bits form.order bytes) ≡ found
      → noted_strip form p s (bytes_of directory s) ≡ noted_by form p s found
  noted_of s bytes found there is = ap (noted_strip form p s) there ∙ ap (noted_by form p s) is

  -- the rows of a strip end at a fault inside the page
  inside_page : (s : ℕ) (bytes : List ℕ) (rows : List (List Colour)) (fault : StripFault) → s < form.strips
      → IsStrip (strip_form form s) (bits form.order bytes) rows (Some fault) → s * n + length rows < form.rows
  inside_page s bytes rows fault upcoming strip =
      omega (
        arith,
        whole.needed s upcoming,
        strip_count (strip_form form s) (bits form.order bytes) rows (Some fault)
            strip,
      )

  -- a row of a strip cannot be read, and the strip has no notes
  pub row_inside : (s : ℕ) (b : List ℕ) (fault : NotesFault) → s < form.strips
      → IsNotesFault (strip_form form s) (bits form.order b) fault → IsRowInside (s * n) fault
  row_inside s b Memory upcoming refused = tt
  row_inside s b (RowOfStrip row fault) upcoming is =
      let strip = read_strip (strip_form form s) (bits form.order b) in
      let stopped = fault_of (strip_form form s) (bits form.order b) strip row fault is in
      omega (arith, stopped.1, on.limits.rows, inside_page s b strip.rows fault upcoming (refl, stopped.0))

  module _ (with_received : Bool) where
    abbrev Checks : ℕ → List Note → List Note → Type 0
    Checks s old new = AreStripsChecked with_received directory form p s old new

    -- what is found on a strip
    noted_in : (s : ℕ) (answer : NextItem (List Note) (ℕ × Option ℕ))
        → answer ≡ noted_strip form p s (bytes_of directory s) → IsNoted with_received file ((p, Some s)) answer
    noted_in s answer is = rw (page 0) is

    -- one more strip is whole
    pub strip_after : (s : ℕ) (old middle new : List Note) (bytes : List ℕ) (found : StripNotes)
        → s < form.strips → Checks s old middle → bytes_of directory s ≡ Some bytes
        → noted (strip_form form s) (bits form.order bytes) ≡ Ok found → new ≡ middle ++ notes_on_strip p s found
        → Checks (s + 1) old new
    strip_after s old middle new bytes found upcoming so_far there is new_is =
        let read_of_bits = read_strip (strip_form form s) (bits form.order bytes) in
        let rows = read_of_bits.rows in
        let strip : IsStrip (strip_form form s) (bits form.order bytes) rows None =
        (refl, end_of (strip_form form s) (bits form.order bytes) read_of_bits found is) in
        let below = whole.needed s upcoming in
        let count = strip_count (strip_form form s) (bits form.order bytes) rows None strip in
        let total : min (s * n) form.rows + length rows ≡ min ((s + 1) * n) form.rows = omega (arith, count, below) in
        let place : s * n + length rows ≡ min ((s + 1) * n) form.rows = omega (arith, count, below) in
        let read =
        strip_rows on.by_place on.lines_read file directory.endian directory.offset form p page whole s below bytes
        there
        rows None strip in
        let to = rw place at read.there in
        let this : HasChecked with_received file (before_strip form p s) (before_strip form p (s + 1)) (notes_on_strip p
        s found)
        (length rows) =
        rw (at_strip s upcoming) (record {
          found = notes_on_strip p s found ∷ [];
          lead = ((before_strip form p (s + 1)).next, noted_in s _ (sym (noted_of s bytes (Ok found) there is)), refl);
          notes_are = sym (append-nil (notes_on_strip p s found));
          items = read.items;
          lead_rows = rw to at read.lead;
          count = sym (walked_length file p (first_at p (s * n)) (s * n) (shown form rows) _ read
              ∙ shown_length form rows);
        }) in
        record {
          noted = so_far.noted ++ notes_on_strip p s found;
          notes_are = rw (new_is, so_far.notes_are, append_assoc old so_far.noted (notes_on_strip p s found)) refl;
          is = rw total at
              (checked_on with_received file (before_strip form p 0) (before_strip form p s) (before_strip form p (s +
              1)) so_far.noted
              (notes_on_strip p s found) (min (s * n) form.rows) (length rows) so_far.is this);
        }

    -- the rest of the page, from its first strip on
    abbrev Rest : List Note → List Note → PageRead → Type 0
    Rest old new read = IsRestChecked with_received file (before_strip form p 0) p old new read

    -- all strips are whole
    pub all_read : (s : ℕ) (old new : List Note) → s ≡ form.strips → Checks s old new
        → Rest old new (record { rows = form.rows; fault = None })
    all_read s old new all so_far = grind arith

    -- the page's rows end at a fault, after so many rows of a strip
    fault_after : (s rows : ℕ) (cause : Cause) (old new : List Note) → s < form.strips → s * n + rows < form.rows
        → Checks s old new → (row : RowPosition) (items : List RowItem)
        → LeadTo (IsRow file) (first_at p (s * n)) items row
        → rows ≡ length items
        → ends_as (Fault p (s * n + rows) cause) ≡ noted_strip form p s (bytes_of directory s)
        → IsRow file row (ends_as (Fault p (s * n + rows) cause))
        → Rest old new (record { rows = s * n + rows; fault = Some cause })
    fault_after s rows cause old new upcoming inside so_far row items lead count is_noted stop =
        let total : min (s * n) form.rows + rows ≡ s * n + rows = omega (arith, inside) in
        let to : CheckPlace = record { next = (p, Some s); row = row } in
        let strip : HasChecked with_received file (before_strip form p s) to [] rows =
        rw (at_strip s upcoming) (record {
          found = [];
          lead = refl;
          notes_are = refl;
          items = items;
          lead_rows = lead;
          count =
              count;
        }) in
        record {
          noted = so_far.noted;
          notes_are = so_far.notes_are;
          few = omega (arith, on.limits.rows, inside);
          to = to;
          is = rw (append-nil so_far.noted, total) at
              (checked_on with_received file (before_strip form p 0) (before_strip form p s) to so_far.noted [] (min (s
              * n) form.rows)
              rows so_far.is strip);
          after = (noted_in s _ is_noted, stop);
        }

    -- a strip does not lie in the file
    pub strip_outside : (s : ℕ) (old new : List Note) → s < form.strips → Checks s old new
        → bytes_of directory s ≡ None → Rest old new (record { rows = s * n; fault = Some (File StripOutside) })
    strip_outside s old new upcoming so_far none =
        let number = in_strip n s 0 (s * n) whole.some_in_strip (omega arith) in
        let end : End = Fault p (s * n) (File StripOutside) in
        let zero : s * n + 0 ≡ s * n = omega arith in
        rw zero at
        (fault_after s 0 (File StripOutside) old new upcoming (omega (arith, whole.needed s upcoming)) so_far (first_at
        p
        (s * n))
        [] refl refl
        (rw (none, zero) refl)
        (rw zero
        (row_at on.by_place on.lines_read file directory.endian directory.offset form p page whole (s * n) None None
        (ends_as end)
        (rw number.0 none) (rw number.0 refl))))

    pub strip_fault : (s : ℕ) (old new : List Note) (b : List ℕ) (fault : NotesFault) (read : PageRead)
        → s < form.strips → Checks s old new → bytes_of directory s ≡ Some b
        → IsNotesFault (strip_form form s) (bits form.order b) fault → IsReadTo (s * n) fault read → Rest old new read
    strip_fault s old new b Memory read upcoming so_far there refused none = absurd none
    strip_fault s old new b (RowOfStrip row fault) read upcoming so_far there is read_is =
        let read_of_bits = read_strip (strip_form form s) (bits form.order b) in
        let rows = read_of_bits.rows in
        let (end_is, row_is) = fault_of (strip_form form s) (bits form.order b) read_of_bits row fault is in
        let strip : IsStrip (strip_form form s) (bits form.order b) rows (Some fault) = (refl, end_is) in
        let rows_read =
        strip_rows on.by_place on.lines_read file directory.endian directory.offset form p page whole s
        (whole.needed s upcoming) b there rows
        (Some fault) strip in
        rw (read_is, ← row_is)
        (fault_after s (length rows) (Strip fault) old new upcoming (inside_page s b rows fault upcoming strip) so_far
        rows_read.to
        rows_read.items
        rows_read.lead (sym (walked_length file p (first_at p (s * n)) (s * n) (shown form rows) _ rows_read
        ∙ shown_length form rows))
        (ap (λ k. ends_as (Fault p (s * n + k) (Strip fault))) row_is
        ∙ sym (noted_of s b (Err (row, fault)) there is)) rows_read.there)
