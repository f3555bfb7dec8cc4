-- The pages of a file that is checked.
use Rattle.std.proofs.Common.{◌≡◌, Bool, ℕ, ◌+◌, ◌*◌, List, [], ◌∷◌, ◌++◌, Some, None, Ok, Err, refl, sym, ap, ◌∙◌}
use Rattle.std.proofs.Common.{arith, subst, append_assoc, append-nil, true, false, ◌<◌}
use Rattle.std.specs.Prelude.{◌==◌, min, nat_lt}
use Rattle.std.proofs.lemmas.Bool.Decides.{nat_tests}
use Rattle.fax_files.specs.declared.FileFault.{FileFault}
use Rattle.fax_files.specs.declared.Cause.{Cause}
use Rattle.fax_files.specs.declared.Cause.TheVariants.{File}
use Rattle.fax_files.specs.declared.PageForm.{PageForm}
use Rattle.fax_files.specs.Directory.{header}
use Rattle.fax_files.specs.views.Page.{IsPageForm}
use Rattle.fax_files.specs.views.Tiff.{TiffDirectory, form_of}
use Rattle.fax_walk.specs.declared.checking.Note.{Note}
use Rattle.fax_walk.specs.declared.checking.PageRead.{PageRead}
use Rattle.fax_walk.specs.declared.checking.Report.{Report}
use Rattle.fax_walk.specs.declared.end.End.{End}
use Rattle.fax_walk.specs.declared.end.End.TheVariants.{Fault}
use Rattle.fax_walk.specs.Pages.{read_page}
use Rattle.fax_walk.specs.Report.{notes_on_directory, IsReportedEnd, IsReport}
use Rattle.fax_walk.specs.code.Check.{before_page, before_strip, CheckPlace, EndsThere, HasChecked, IsDirectoryOfPage}
use Rattle.fax_walk.specs.code.Check.{IsRestChecked}
use Rattle.fax_walk.specs.code.Check.{ArePagesChecked}
use Rattle.fax_walk.proofs.CheckLemmas.{nothing_checked, checked_on}
use Rattle.fax_walk.proofs.EndingLemmas.{no_header}
use Rattle.fax_walk.proofs.InOrderLemmas.{ended_at}

-- page p of a file ends the chain there
ends_at_page : (with_received : Bool) (file : List ℕ) (p : ℕ) (end : End)
    → read_page file (record { page = p; row = 0 }) ≡ Err end
    → EndsThere with_received file (before_page p) end
ends_at_page with_received file p end at = (rw at refl, rw at refl)

-- a page whose fields are refused
pub refused_page : (with_received : Bool) (directory : TiffDirectory) (p : ℕ) (old new : List Note) (fault : FileFault)
    → IsDirectoryOfPage directory p
    → new ≡ old → form_of directory ≡ Err fault
    → IsRestChecked with_received directory.file (before_page p) p old new (record {
      rows = 0;
      fault = Some (File fault);
    })
refused_page with_received directory p old new fault here same refused = record {
  noted = [];
  notes_are = same ∙ sym (append-nil old);
  few = omega arith;
  to = before_page p;
  is = nothing_checked with_received directory.file (before_page p);
  after = ends_at_page with_received directory.file p (Fault p 0 (File fault)) (rw refused at (here 0));
}

-- the rest of a page after the note on its directory
module _ (with_received : Bool) (directory : TiffDirectory) (form : PageForm) (p : ℕ) (limits : IsPageForm form)
    (form_is : form_of directory ≡ Ok form)
    (here : IsDirectoryOfPage directory p) where
  abbrev on_directory : List Note
  on_directory = notes_on_directory with_received directory.endian directory.file directory.offset p

  some_strip : 0 < form.strips
  some_strip = grind arith

  directory_checked : HasChecked with_received directory.file (before_page p) (before_strip form p 0) on_directory 0
  directory_checked =
      let test : (0 == form.strips) ≡ false = grind (arith, nat_tests, some_strip) in
      let zero : min (0 * form.rows_per_strip) form.rows ≡ 0 = omega arith in
      let inside : nat_lt 0 form.rows ≡ true = grind (arith, nat_tests, limits.some_rows) in
      rw (test, zero, inside) (record {
        found = on_directory ∷ [];
        lead = ((p, Some 0), rw (here 0, form_is) refl, refl);
        notes_are = sym (append-nil on_directory);
        items = [];
        lead_rows = refl;
        count = refl;
      })

  pub formed_page : (old middle new : List Note) (read : PageRead) → middle ≡ old ++ on_directory
      → IsRestChecked with_received directory.file (before_strip form p 0) p middle new read
      → IsRestChecked with_received directory.file (before_page p) p old new read
  formed_page old middle new read middle_is rest = record {
    noted = on_directory ++ rest.noted;
    notes_are = rest.notes_are ∙ ap (λ (l : List Note). l ++ rest.noted) middle_is
        ∙ append_assoc old on_directory rest.noted;
    few = rest.few;
    to = rest.to;
    is = subst (HasChecked with_received directory.file (before_page p) rest.to (on_directory
        ++ rest.noted)) (omega arith)
        (checked_on with_received directory.file (before_page p) (before_strip form p 0) rest.to on_directory rest.noted
        0 read.rows
        directory_checked rest.is);
    after = rest.after;
  }

-- before the first page
pub none_checked : (with_received : Bool) (file : List ℕ) (noted : List Note) → noted ≡ []
    → ArePagesChecked with_received file 0 0 noted
none_checked with_received file noted none = rw none (record {
  few = omega arith;
  is = nothing_checked with_received
      file (before_page 0);
})

-- one more page was read wholly
pub page_after : (with_received : Bool) (file : List ℕ) (yielded rows : ℕ) (old new : List Note) (read : PageRead)
    → ArePagesChecked with_received file yielded rows old
    → IsRestChecked with_received file (before_page yielded) yielded old new read → read.fault ≡ None
    → ArePagesChecked with_received file (yielded + 1) (rows + read.rows)
    new
page_after with_received file yielded rows old new read so_far page none = grind (arith, checked_on)

-- the report of a file that is checked to its end
reported : (with_received : Bool) (file : List ℕ) (report : Report) (notes : List Note) (rows : ℕ) (to : CheckPlace)
    (end : End)
    → HasChecked with_received file (before_page 0) to notes rows → EndsThere with_received file to end
    → report.notes.items ≡ notes
    → report.rows ≡ rows
    → IsReportedEnd file end report.pages report.fault → IsReport with_received file report
reported with_received file report notes rows to end is ends notes_are rows_are end_is = grind (arith, ended_at)

-- after the last page
pub last_report : (with_received : Bool) (file : List ℕ) (yielded : ℕ) (end : End) (report : Report)
    → ArePagesChecked with_received file yielded report.rows report.notes.items
    → read_page file (record { page = yielded; row = 0 }) ≡ Err end → IsReportedEnd file end report.pages report.fault
    → IsReport with_received file report
last_report with_received file yielded end report so_far at =
    reported with_received file report _ _ (before_page yielded) end so_far.is (ends_at_page with_received file yielded
    end at) refl refl

-- at a fault of a page
pub stop_report : (with_received : Bool) (file : List ℕ) (yielded rows : ℕ) (old : List Note) (read : PageRead) (cause :
    Cause) (report :
    Report)
    → ArePagesChecked with_received file yielded rows old → IsRestChecked with_received file (before_page yielded)
    yielded old report.notes.items
    read
    → read.fault ≡ Some cause → report.rows ≡ rows + read.rows
    → IsReportedEnd file (Fault yielded read.rows cause) report.pages report.fault → IsReport with_received file report
stop_report with_received file yielded rows old read cause report so_far page some =
    reported with_received file report (old ++ page.noted) (rows + read.rows) page.to (Fault yielded read.rows cause)
    (checked_on with_received file (before_page 0) (before_page yielded) page.to old page.noted rows read.rows so_far.is
    page.is)
    (rw some at page.after)
    page.notes_are

-- the report of a file without a good header
pub header_report : (with_received : Bool) (file : List ℕ) (met : FileFault) (report : Report) → header file ≡ Err met
    → report.notes.items ≡ []
    → report.pages ≡ 0
    → report.rows ≡ 0 → report.fault ≡ Some (record { page = 0; row = 0 }, File met)
    → IsReport with_received file report
header_report with_received file met report bad none pages rows fault_is =
    reported with_received file report [] 0 (before_page 0) (Fault 0 0 (File met)) (nothing_checked with_received file
    (before_page 0))
    (ends_at_page with_received file 0 (Fault 0 0 (File met)) (no_header file (record { page = 0; row = 0 }) met bad))
    none rows (pages, fault_is)
