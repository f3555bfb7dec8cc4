use Rattle.std.proofs.Common.{◌≡◌, ◌≤◌, inl, inr, length, Some, sym, ap, ◌∙◌}
use Rattle.std.proofs.lemmas.Bool.{cases_lt}
use Rattle.fax_files.specs.declared.PageForm.{PageForm}
use Rattle.fax_files.specs.views.Writing.{given_page, length_with}
use Rattle.fax_files.specs.Directory.{max_file}
use Rattle.fax_walk.proofs.OutputLemmas.{page_ended, page_too_large, all_strips}
use Rattle.fax_walk.proofs.output.Output.end.Goals as goal

pub add_page_with-requires-clause-strips : goal.add_page_with-requires-clause-strips
add_page_with-requires-clause-strips c =
    let there : c.in-File.open ≡ Some c.in-Some.page = cc (c.take.ensures.value, c.in-Some.is) in
    let has = rw (c.in-File.is, there) at c.requires.written.has in
    ap length c.deref.ensures.value ∙ all_strips _ _ c.requires.part.rows c.in-Some.page has.2 c.requires.all
    ∙ ap (λ (f : PageForm). f.strips) (sym has.2.form_is)

pub returns-in-Ok : goal.returns-in-Ok
returns-in-Ok c = λ part written all.
    let there : c.in-File.open ≡ Some c.in-Some.page = cc (c.take.ensures.value, c.in-Some.is) in
    let has = rw (c.in-File.is, there) at written.has in
    let added = rw c.deref.ensures.value at c.in-Ok.ensures.ok in
    let large = rw c.deref.ensures.value at c.in-Ok.ensures.too_large in
    let given = given_page c.in-Some.page.form c.in-Some.page.done.items c.args.bad in
    let fits : length_with c.in-File.writer given ≤ max_file = elim (cases_lt max_file (length_with c.in-File.writer
    given)) [
      | inl more ↦ absurd (cc (large.1 more))
      | inr less ↦ less
    ] in
    rw c.take.ensures.after
    (page_ended part c.args.bad c.in-File.field-0 c.in-File.writer c.in-Some.page has all c.add_page_with.new.self added
    fits)

pub returns : goal.returns
returns c = λ part written all.
    let there : c.in-File.open ≡ Some c.in-Some.page = cc (c.take.ensures.value, c.in-Some.is) in
    let has = rw (c.in-File.is, there) at written.has in
    let large = rw c.deref.ensures.value at c.in-Err-OutputTooLarge.ensures.too_large in
    page_too_large part c.args.bad c.in-File.field-0 c.in-File.writer c.in-Some.page has all c.totals_are_told.ensures
    (large.0 (cc c.in-Err-OutputTooLarge.field-0-is))
