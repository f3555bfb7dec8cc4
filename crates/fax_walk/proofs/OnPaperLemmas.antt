-- The rows of a page that are put on paper.
use Rattle.std.proofs.Common.{◌≡◌, ℕ, ◌+◌, ◌<◌, ◌≤◌, List, [], ◌∷◌, ◌++◌, length, map, replicate, None, Some, Ok, Err}
use Rattle.std.proofs.Common.{refl, sym, ap, ◌∙◌, subst, arith, append_assoc, append-nil, length-append, zero, suc}
use Rattle.std.specs.Prelude.{max, Option}
use Rattle.std.proofs.lemmas.List.{length-map, length-replicate, map-append}
use Rattle.fax_bits.specs.declared.Colour.TheVariants.{White}
use Rattle.fax_rows.specs.Rows.{Colour}
use Rattle.fax_page.specs.Lines.{white_row}
use Rattle.fax_files.specs.declared.PageForm.{PageForm}
use Rattle.fax_files.specs.declared.bad_rows.BadRows.{BadRows}
use Rattle.fax_files.specs.declared.bad_rows.Received.{Received}
use Rattle.fax_files.specs.laws.Pbm.{AreOfWidth}
use Rattle.fax_files.specs.views.Tiff.{TiffDirectory, received_of}
use Rattle.fax_walk.specs.declared.options.Options.{Options}
use Rattle.fax_walk.specs.declared.page_size.PageSize.{PageSize}
use Rattle.fax_walk.specs.declared.output.Output.{Output}
use Rattle.fax_walk.specs.declared.output.Output.TheVariants.{TooLarge}
use Rattle.fax_walk.specs.declared.salvage_rows.SalvagedPart.TheVariants.{Found, Lost}
use Rattle.fax_walk.specs.declared.salvaged_file.LostCount.{LostCount}
use Rattle.fax_walk.specs.Pages.{Cause}
use Rattle.fax_walk.specs.Items.{exchanged}
use Rattle.fax_walk.specs.Salvaged.{PageRow}
use Rattle.fax_walk.specs.SalvagedFile.{bad_rows, longest_lost, count_lost, on_paper, salvaged_page}
use Rattle.fax_walk.specs.code.OnPaper.{AreAllOf, ArePut, IsPutting, PutsPage, PutsRows, paper_of}
use Rattle.fax_walk.specs.code.Output.{IsPartWritten, PutsRow, PutsWhiteRows, TakesRow, TakesWhiteRows, form_sheet}
use Rattle.fax_walk.specs.code.Output.{BeginsPage, EndsPage, HasAllRows, IsUpcomingPage, Part, no_rows, page_of}
use Rattle.fax_walk.specs.code.Output.{with_rows, with_source_page}
use Rattle.fax_walk.specs.code.SalvageItems.{AreRowsLeft, IsBeforeRows, IsPart, RowsState, StaysOnPage, upcoming_row}
use Rattle.fax_walk.specs.code.Sources.{part_of}
use Rattle.fax_walk.specs.views.Converting.{IsWrittenTo, Progress}
use Rattle.fax_walk.proofs.LostCountLemmas.{all_counted}

-- rows that are lost are white on paper
white_paper : (width n : ℕ) (cause : Cause)
    → map (on_paper width) (replicate n (Err cause)) ≡ replicate n (white_row width)
white_paper width zero cause = refl
white_paper width (suc n) cause = ap (λ (l : List (List Colour)). white_row width ∷ l) (white_paper width n cause)

-- rows of one width, and others
pub widths_both : (width : ℕ) (first rest : List (List Colour)) → AreOfWidth width first → AreOfWidth width rest
    → AreOfWidth width (first ++ rest)
widths_both width [] rest are others = others
widths_both width (row ∷ first) rest are others = (are.0, widths_both width first rest are.1 others)

pub widths_white : (width n : ℕ) → AreOfWidth width (replicate n (white_row width))
widths_white width zero = tt
widths_white width (suc n) = (length-replicate width White, widths_white width n)

-- a page with so many white rows more
abbrev with_white : Part → ℕ → ℕ → Part
with_white part width n = with_rows part (replicate n (white_row width))

-- an output that is too large takes all of them
pub stays_large : (part : Part) (width n : ℕ) → IsPartWritten TooLarge part → width ≡ part.sheet.width
    → IsPartWritten TooLarge (with_white part width n)
stays_large part width n is wide = record {
  widths =
      widths_both part.sheet.width part.rows (replicate n (white_row width)) is.widths
      (subst (λ w. AreOfWidth part.sheet.width (replicate n (white_row w))) (sym wide)
      (widths_white part.sheet.width n));
  has = is.has;
}

module _ (start : RowsState) (before : Output) (old : RowsState) (output : Output) (passed : List PageRow)
    (put : ArePut start before old output passed) where
  abbrev paper : List (List Colour)
  paper = paper_of start passed

  paper_count : length paper ≡ upcoming_row old
  paper_count = length-map passed (on_paper start.form.width) ∙ put.count

  -- these rows were put too
  module _ (new : RowsState) (over : List PageRow) (stays : StaysOnPage old new)
      (within : upcoming_row new ≤ new.form.rows) (next : upcoming_row new ≡ upcoming_row old + length over)
      (followed : (rest : List PageRow) → AreRowsLeft new rest → AreRowsLeft old (over ++ rest))
      (after : Output)
      (written : (at : Progress) → IsPartWritten output (part_of at (form_sheet start.form) paper)
      → IsPartWritten after (part_of at (form_sheet start.form) (paper ++ map (on_paper start.form.width) over))) where
    rows_put : ArePut start before new after (passed ++ over)
    rows_put =
        let form : new.form ≡ start.form = stays.1 ∙ put.stays.1 in record {
          stays = (stays.0 ∙ put.stays.0, form);
          count = length-append passed over ∙ ap (λ n. n + length over) put.count ∙ sym next;
          within = omega (arith, within, ap (λ (f : PageForm). f.rows) form);
          followed = λ rest is.
              subst (AreAllOf start) (sym (append_assoc passed over rest)) (put.followed (over ++ rest)
              (followed rest is));
          written = λ at is.
              subst (λ l. IsPartWritten after (part_of at (form_sheet start.form) l))
              (sym (map-append (on_paper start.form.width) passed over)) (written at (put.written at is));
        }

  module _ (new : RowsState) (part : IsPart old (Some Found) new) (row : List Colour)
      (row_is : row ≡ exchanged new.form new.reader.reference) (wide : length row ≡ new.form.width) where
    form_is : new.form ≡ start.form
    form_is = part.0.stays.1 ∙ put.stays.1

    width : length row ≡ start.form.width
    width = wide ∙ ap (λ (f : PageForm). f.width) form_is

    upcoming : length paper < start.form.rows
    upcoming = omega (arith, paper_count, part.1, part.2, ap (λ (f : PageForm). f.rows) form_is)

    -- a row that is found can be put
    pub takes_found : (at : Progress) → IsPartWritten before (no_rows at (form_sheet start.form)) → TakesRow output row
    takes_found at is = record {
      part = part_of at (form_sheet start.form) paper;
      written = put.written at is;
      upcoming = upcoming;
      width = width;
    }

    -- and is
    pub found_put : (after : Output) → PutsRow output row after → ArePut start before new after (passed ++ Ok row ∷ [])
    found_put after puts =
        rows_put new (Ok row ∷ []) part.0.stays part.2 part.1
        (λ rest is. subst (λ r. AreRowsLeft old (Ok r ∷ rest)) (sym row_is) (part.0.followed rest is)) after
        (λ at is. puts (part_of at (form_sheet start.form) paper) is upcoming width)

  module _ (new : RowsState) (count : ℕ) (cause : Cause) (part : IsPart old (Some (Lost count cause)) new)
      (width : ℕ) (width_is : width ≡ start.form.width) where
    same_form : new.form ≡ start.form
    same_form = part.0.stays.1 ∙ put.stays.1

    room : length paper + count ≤ start.form.rows
    room = omega (arith, paper_count, part.2, part.3, ap (λ (f : PageForm). f.rows) same_form)

    -- white rows can be put for those that are lost
    pub takes_white : (at : Progress) → IsPartWritten before (no_rows at (form_sheet start.form))
        → TakesWhiteRows output width count
    takes_white at is = record {
      part = part_of at (form_sheet start.form) paper;
      written = put.written at is;
      upcoming = room;
      width_is = width_is;
    }

    -- and are
    pub white_put : (after : Output) → PutsWhiteRows output width count after
        → ArePut start before new after (passed ++ replicate count (Err cause))
    white_put after puts =
        let white : replicate count (white_row width)
        ≡ map (on_paper start.form.width) (replicate count (Err cause)) =
        ap (λ w. replicate count (white_row w)) width_is ∙ sym (white_paper start.form.width count cause) in
        rows_put new (replicate count (Err cause)) part.0.stays part.3
        (part.2 ∙ ap (λ n. upcoming_row old + n) (sym (length-replicate count (Err cause))))
        part.0.followed after
        (λ at is. subst (λ l. IsPartWritten after (part_of at (form_sheet start.form) (paper ++ l))) white
        (puts (part_of at (form_sheet start.form) paper) is room width_is))

-- after the last row
pub all_put : (start : RowsState) (before : Output) (old new : RowsState) (output : Output) (lost : LostCount)
    → IsPutting start before old output lost → IsPart old None new → PutsRows start before output lost
all_put start before old new output lost putting part =
    let put = putting.put in
    let form : new.form ≡ start.form = part.0.stays.1 ∙ put.stays.1 in
    record {
      all = putting.passed;
      are = subst (AreAllOf start) (append-nil putting.passed) (put.followed [] (part.0.followed [] part.3));
      count = put.count ∙ sym part.1 ∙ part.2 ∙ ap (λ (f : PageForm). f.rows) form;
      lost_are = putting.counted.rows;
      longest_is = all_counted putting.passed lost putting.counted;
      written = put.written;
    }

module _ (options : Options) (directory : TiffDirectory) (form : PageForm) (sheet : PageSize) (old begun : Output)
    (rows : RowsState) (sheet_is : sheet ≡ form_sheet form) (begins : BeginsPage options old sheet begun)
    (before : IsBeforeRows directory form rows) where
  begun_at : (at : Progress) → IsUpcomingPage options old at → IsPartWritten begun (no_rows at (form_sheet rows.form))
  begun_at at is =
      subst (λ s. IsPartWritten begun (no_rows at s)) (sheet_is ∙ ap form_sheet (sym before.form_is)) (begins at is)

  pub upcoming_rows : (at : Progress) × IsUpcomingPage options old at
      → (at : Progress) × IsPartWritten begun (no_rows at (form_sheet rows.form))
  upcoming_rows (at, is) = (at, begun_at at is)

  -- all rows of it were put
  module _ (output : Output) (lost : LostCount) (puts : PutsRows rows begun output lost) where
    all_count : length (paper_of rows puts.all) ≡ rows.form.rows
    all_count = length-map puts.all (on_paper rows.form.width) ∙ puts.count

    pub has_all : (at : Progress) × IsUpcomingPage options old at → HasAllRows output
    has_all (at, is) = record {
      part = part_of at (form_sheet rows.form) (paper_of rows puts.all);
      written = puts.written at (begun_at at is);
      all = all_count;
    }

    -- and it is ended
    module _ (receiver : Received) (receiver_is : receiver ≡ received_of directory) (bad : Option BadRows)
        (bad_is : bad ≡ bad_rows lost.rows (max lost.longest lost.stretch) receiver) where
      said : bad ≡ bad_rows (count_lost puts.all) (longest_lost puts.all) (received_of directory)
      said =
          bad_is ∙ ap (λ n. bad_rows n (max lost.longest lost.stretch) receiver) puts.lost_are
          ∙ ap (λ n. bad_rows (count_lost puts.all) n receiver) puts.longest_is
          ∙ ap (bad_rows (count_lost puts.all) (longest_lost puts.all)) receiver_is

      as_salvaged : page_of (form_sheet rows.form) (paper_of rows puts.all) bad
          ≡ salvaged_page form (received_of directory) puts.all
      as_salvaged =
          ap (page_of (form_sheet rows.form) (paper_of rows puts.all)) said
          ∙ ap (λ f. salvaged_page f (received_of directory) puts.all) before.form_is

      pub page_put : (new : Output) → EndsPage bad output new → PutsPage options directory form old new
      page_put new ends = (
        puts.all,
        rw (before.directory_is, before.form_is) at puts.are,
        λ at is.
            subst (λ p. IsWrittenTo new (with_source_page at p)) as_salvaged
            (ends (part_of at (form_sheet rows.form) (paper_of rows puts.all)) (puts.written at (begun_at at is))
            all_count),
      )
