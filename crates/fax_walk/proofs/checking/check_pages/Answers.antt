use Rattle.std.proofs.Common.{◌≡◌, Ok, ◌+◌, refl, ◌∙◌, ap, arith}
use Rattle.fax_walk.specs.code.Check.{IsRestChecked, before_page}
use Rattle.fax_walk.proofs.EndingLemmas.{fault_before_page, found, goes_on, proper_end_at, same_file}
use Rattle.fax_walk.proofs.PageCheckLemmas.{none_checked, page_after, last_report, stop_report}
use Rattle.fax_walk.proofs.checking.check_pages.Goals as goal

pub check_page-requires : goal.check_page-requires
check_page-requires c =
    let at = c.loop-directory in
    rw c.yielded-page.ensures
    (found _ _ at.chain c.next.result at.invariant.before c.next.ensures.answer _
    (c.in-Ok-Some.is ∙ ap Ok c.in-Ok-Some.field-0-is))

pub returns-in-Ok-None : goal.returns-in-Ok-None
returns-in-Ok-None c =
    let at = c.loop-directory in
    let proper =
    proper_end_at _ _ at.chain c.next.result at.invariant.before c.next.ensures.answer
    (c.in-Ok-None.is ∙ ap Ok c.in-Ok-None.field-0-is) in
    last_report _ _ _ _ _ at.invariant.read proper (rw (c.from.ensures, c.yielded-page.ensures) (
      proper,
      at.invariant.none,
    ))

pub returns-in-Err : goal.returns-in-Err
returns-in-Err c =
    let at = c.loop-directory in
    let stops =
    fault_before_page _ _ at.chain c.next.result at.invariant.before c.next.ensures.answer
    (record { page = at.chain.yielded; row = 0 }) c.in-Err.fault c.in-Err.is (omega arith) in
    last_report _ _ _ _ _ at.invariant.read stops (rw (c.from.ensures, c.yielded-page.ensures) (refl, refl))

pub returns-in-Some : goal.returns-in-Some
returns-in-Some c =
    let at = c.loop-directory in
    let before = at.invariant.before in
    let is = c.in-Ok-Some.is ∙ ap Ok c.in-Ok-Some.field-0-is in
    let file_is = same_file _ _ at.chain c.next.result before c.next.ensures.answer _ is
    ∙ before.file_is in
    let read : IsRestChecked c.args.with_received c.args.tiff.file (before_page at.chain.yielded) at.chain.yielded
    at.report.notes.items
    c.check_page.new.notes.items
    c.in_ok-read.read = rw (file_is, c.yielded-page.ensures) at c.in_ok-read.ensures in
    stop_report c.args.with_received c.args.tiff.file at.chain.yielded at.report.rows at.report.notes.items
    c.in_ok-read.read c.in-Some.cause
    _
    at.invariant.read read
    c.in-Some.is (ap (λ r. at.report.rows + r) c.from-in-loop-directory.ensures)
    (rw (c.from.ensures, c.yielded-page.ensures) (refl, refl))

pub loop-directory-preserved : goal.loop-directory-preserved
loop-directory-preserved c =
    let at = c.loop-directory in
    let before = at.invariant.before in
    let is = c.in-Ok-Some.is ∙ ap Ok c.in-Ok-Some.field-0-is in
    let file_is = same_file _ _ at.chain c.next.result before c.next.ensures.answer _ is
    ∙ before.file_is in
    let read : IsRestChecked c.args.with_received c.args.tiff.file (before_page at.chain.yielded) at.chain.yielded
    at.report.notes.items
    c.check_page.new.notes.items
    c.in_ok-read.read = rw (file_is, c.yielded-page.ensures) at c.in_ok-read.ensures in
    let counted : c.next.new.self ≡ record at.chain { yielded = at.chain.yielded + 1 } = rw is at c.next.ensures.counted
    in
    let onwards = goes_on _ _ at.chain c.next.new.self c.next.result c.in-Ok-Some.directory before c.next.ensures.answer
    is c.next.ensures.counted in
    record {
      before = rw counted (rw counted at onwards);
      read =
          rw (counted, c.from-in-loop-directory.ensures)
          (page_after c.args.with_received c.args.tiff.file at.chain.yielded at.report.rows at.report.notes.items
          c.check_page.new.notes.items
          c.in_ok-read.read
          at.invariant.read read c.in_default.is);
      none = at.invariant.none;
    }

pub loop-directory-init : goal.loop-directory-init
loop-directory-init c = record {
  before = rw c.new-chain.ensures (record {
    head = c.requires;
    file_is = refl;
    yielded = refl;
    within = omega arith;
  });
  read = rw c.new-chain.ensures (none_checked c.args.with_received c.args.tiff.file c.new.result.items
      c.new.ensures.items);
  none = refl;
}
