-- What a chain's next directory is, and where it ends.
use Rattle.std.proofs.Common.{◌≡◌, ℕ, ◌+◌, ◌<◌, ◌≤◌, false, List, length, Option, Some, None, Result, Ok, Err, inl, inr}
use Rattle.std.proofs.Common.{refl}
use Rattle.std.proofs.Common.{ap, ◌∙◌, arith}
use Rattle.std.proofs.lemmas.Bool.Decides.{nat_tests}
use Rattle.std.specs.Prelude.{slice_get, ◌==◌}
use Rattle.std.proofs.lemmas.Option.{slice_get_past, slice_get_within}
use Rattle.fax_files.specs.declared.FileFault.{FileFault}
use Rattle.fax_files.specs.declared.Cause.TheVariants.{File}
use Rattle.fax_files.specs.declared.PageForm.{PageForm}
use Rattle.fax_files.specs.Directory.{ChainRead, header}
use Rattle.fax_files.specs.views.Chain.{ChainState, after_answer, chain_of, upcoming_answer}
use Rattle.fax_files.specs.views.Tiff.{TiffDirectory, directory_of, form_of}
use Rattle.fax_walk.specs.declared.cursor.Cursor.{Cursor}
use Rattle.fax_walk.specs.declared.end.End.{End}
use Rattle.fax_walk.specs.declared.end.End.TheVariants.{EndOfPages, Fault, Outside}
use Rattle.fax_walk.specs.Pages.{chain_end, page_with_form, read_page}
use Rattle.fax_walk.specs.code.Opening.{EndsAt, IsChainBefore, IsFilePage, IsNamed, IsNoPage, IsPageAnswer}
use Rattle.fax_walk.specs.code.Opening.{UpcomingPage}
use Rattle.fax_walk.specs.code.Opening.{page_with}
use Rattle.fax_walk.proofs.OpeningLemmas.{upcoming_some, upcoming_none, upcoming_fault}
use Rattle.fax_walk.proofs.PageLawLemmas.{none_here, none_past, page_here, proper_end}

-- after more pages than a chain has, all is outside
outside_past : (pages : ℕ) (at : Cursor) → pages < at.page → chain_end pages None at ≡ Outside
outside_past pages at past = let e : (at.page == pages) ≡ false = grind (arith, nat_tests, past) in rw e refl

outside_row : (pages : ℕ) (at : Cursor) → 0 < at.row → chain_end pages None at ≡ Outside
outside_row pages at some = grind arith

-- a file without a good header has no page
pub no_header : (file : List ℕ) (at : Cursor) (fault : FileFault) → header file ≡ Err fault
    → read_page file at ≡ Err (Fault 0 0 (File fault))
unfolding read_page
no_header file at fault bad = rw (bad, read_page) refl

-- a directory stands there
pub goes_on : (file : List ℕ) (number : ℕ) (chain new : ChainState) (answer : Result (Option TiffDirectory) FileFault)
    (directory : TiffDirectory)
    → IsChainBefore file number chain → answer ≡ upcoming_answer chain → answer ≡ Ok (Some directory)
    → new ≡ after_answer chain answer
    → IsChainBefore file (number + 1) new
goes_on file number chain new answer directory before upcoming is counted = grind (
  arith,
  upcoming_some,
  slice_get_within,
)

-- a file's chain before a directory, and what it returns for it
module _ (file : List ℕ) (number : ℕ) (chain : ChainState) (answer : Result (Option TiffDirectory) FileFault)
    (before : IsChainBefore file number chain) (upcoming : answer ≡ upcoming_answer chain) where
  abbrev its : ChainRead
  its = chain_of chain.tiff

  -- the chain has no page of a later number
  past_chain : (at : Cursor) → slice_get its.offsets chain.yielded ≡ None → number ≤ at.page
      → read_page file at ≡ Err (chain_end number its.end at)
  past_chain at none past =
      let count : length its.offsets ≡ number = grind (arith, none_past) in
      let gone = rw before.file_is at (slice_get_past its.offsets at.page (omega (arith, count, past))) in
      let count_there = rw before.file_is at count in
      rw before.file_is (rw count_there at (none_here file chain.tiff.head before.head at gone))

  -- where the chain ends properly, and where it ends with a fault
  ended_at : (at : Cursor) → answer ≡ Ok None → number ≤ at.page → read_page file at ≡ Err (chain_end number None at)
  ended_at at is past = let none = upcoming_none chain answer upcoming is in rw none.1 at (past_chain at none.0 past)

  pub none_before : (at : Cursor) → answer ≡ Ok None → number < at.page → read_page file at ≡ Err Outside
  none_before at is past = rw (outside_past number at past) at (ended_at at is (omega (arith, past)))

  pub row_past : (r : ℕ) → answer ≡ Ok None → 0 < r → read_page file (record { page = number; row = r }) ≡ Err Outside
  row_past r is some =
      let at : Cursor = record { page = number; row = r } in rw (outside_row number at some) at
      (ended_at at is (omega arith))

  pub proper_end_at : answer ≡ Ok None → read_page file (record { page = number; row = 0 }) ≡ Err EndOfPages
  proper_end_at is = rw (proper_end number) at (ended_at (record { page = number; row = 0 }) is (omega arith))

  pub fault_before_page : (at : Cursor) (fault : FileFault) → answer ≡ Err fault → number ≤ at.page
      → read_page file at ≡ Err (Fault number 0 (File fault))
  fault_before_page at fault is past =
      let none = upcoming_fault chain answer upcoming fault is in rw none.1 at (past_chain at none.0 past)

  -- a directory stands there
  module _ (directory : TiffDirectory) (is : answer ≡ Ok (Some directory)) where
    there : (slice_get its.offsets chain.yielded ≡ Some directory.offset)
        × (directory ≡ directory_of chain.tiff directory.offset)
    there = upcoming_some chain answer upcoming directory is

    pub same_file : directory.file ≡ chain.tiff.file
    same_file = ap (λ (d : TiffDirectory). d.file) there.1

    pub found : (r : ℕ) → read_page directory.file (record { page = number; row = r })
        ≡ page_with_form directory.endian directory.offset number (form_of directory)
    found r =
        let at : Cursor = record { page = number; row = r } in
        let endian_is : directory.endian ≡ chain.tiff.head.endian = ap (λ (d : TiffDirectory). d.endian) there.1 in
        let file_is : directory.file ≡ file = ap (λ (d : TiffDirectory). d.file) there.1 ∙ before.file_is in
        let place = rw (before.yielded, before.file_is) at there.0 in
        rw (file_is, endian_is) (page_here file chain.tiff.head before.head at directory.offset place)

    pub fields_refused : (refused : FileFault) → form_of directory ≡ Err refused → IsNoPage directory.file number
        (Fault number 0 (File refused))
    fields_refused refused bad r = rw bad at (found r)

    pub page_upcoming : (new : ChainState) (form : PageForm) → new ≡ after_answer chain answer → form_of directory
        ≡ Ok form
        → IsFilePage number new directory form
    page_upcoming new form counted form_is = record {
      here = λ r. rw form_is at (found r);
      after = let same : directory.file ≡ file = same_file ∙ before.file_is in
          rw same (goes_on file number chain new answer directory before upcoming is counted);
    }

-- what a cursor names, where its page stands there
pub named_page : (file : List ℕ) (at : Cursor) (chain : ChainState) (upcoming : UpcomingPage)
    → IsChainBefore file at.page chain
    → IsPageAnswer chain (Ok (Some upcoming)) → IsFilePage upcoming.page upcoming.chain upcoming.directory upcoming.form
    → at.row ≤ upcoming.form.rows
    → IsNamed file at (Some upcoming)
named_page file at chain upcoming before answer its within = (
  answer.1 ∙ before.file_is,
  answer.0 ∙ before.yielded,
  within,
  rw (answer.1 ∙ before.file_is, answer.0 ∙ before.yielded) at (its.here at.row),
)

pub named_outside : (file : List ℕ) (at : Cursor) (chain : ChainState) (upcoming : UpcomingPage)
    → IsChainBefore file at.page chain
    → IsPageAnswer chain (Ok (Some upcoming)) → IsFilePage upcoming.page upcoming.chain upcoming.directory upcoming.form
    → upcoming.form.rows < at.row
    → EndsAt file at Outside
named_outside file at chain upcoming before answer its above = inr (
  page_with upcoming.directory upcoming.form,
  rw (answer.1 ∙ before.file_is, answer.0 ∙ before.yielded) at (its.here at.row),
  above,
  refl,
)

pub named_refused : (file : List ℕ) (at : Cursor) (chain : ChainState) (end : End) → IsChainBefore file at.page chain
    → IsPageAnswer chain (Err end) → EndsAt file at end
named_refused file at chain end before answer = inl (rw (before.file_is, before.yielded) at (answer at.row))
