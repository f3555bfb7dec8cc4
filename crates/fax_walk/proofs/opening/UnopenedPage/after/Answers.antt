use Rattle.std.proofs.Common.{◌≡◌, Ok, ap, ◌∙◌, arith}
use Rattle.fax_walk.proofs.EndingLemmas.{page_upcoming, proper_end_at, row_past, fault_before_page, fields_refused}
use Rattle.fax_walk.proofs.EndingLemmas.{same_file}
use Rattle.fax_walk.proofs.opening.UnopenedPage.after.Goals as goal

pub invariant_of-result : goal.invariant_of-result
invariant_of-result c = record {
  its =
      rw (c.yielded-page.ensures, c.in-Ok.ensures.directory)
      (page_upcoming _ _ c.args.chain c.next.result c.requires c.next.ensures.answer _
      (c.in-Ok-Some.is ∙ ap Ok c.in-Ok-Some.field-0-is) _ c.in-Ok.form c.next.ensures.counted c.in-Ok.ensures.form);
  form_is = rw c.in-Ok.ensures.directory c.in-Ok.ensures.form;
  limits = c.in-Ok.ensures.limits;
  counted = c.in-Ok.ensures.count;
}

pub returns-in-Ok-None : goal.returns-in-Ok-None
returns-in-Ok-None c =
    let is = c.in-Ok-None.is ∙ ap Ok c.in-Ok-None.field-0-is in (
      proper_end_at _ _ c.args.chain c.next.result c.requires c.next.ensures.answer is,
      λ r some. row_past _ _ c.args.chain c.next.result c.requires c.next.ensures.answer
          r is some,
    )

pub returns-in-Err : goal.returns-in-Err
returns-in-Err c r =
    rw (c.of_file.ensures, c.yielded-page.ensures)
    (fault_before_page _ _ c.args.chain c.next.result c.requires c.next.ensures.answer _
    _ c.in-Err.is
    (omega arith))

pub returns-in-Err-page_and_strips : goal.returns-in-Err-page_and_strips
returns-in-Err-page_and_strips c =
    let is = c.in-Ok-Some.is ∙ ap Ok c.in-Ok-Some.field-0-is in
    let file : c.in-Ok-Some.directory.file ≡ c.args.chain.tiff.file =
    same_file _ _ c.args.chain c.next.result c.requires c.next.ensures.answer _ is in
    rw (c.of_file-in-Err-page_and_strips.ensures, c.yielded-page.ensures, ← file)
    (fields_refused _ _ c.args.chain c.next.result c.requires c.next.ensures.answer _ is
    _ c.in-Err-page_and_strips.ensures.fault)
