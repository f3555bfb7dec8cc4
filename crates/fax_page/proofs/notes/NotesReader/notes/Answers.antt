use Rattle.std.proofs.Common.{◌≡◌, ◌<◌, ◌∙◌, subst, arith}
use Rattle.std.proofs.lemmas.Result.{err_from_is_err_and}
use Rattle.fax_page.specs.declared.StripForm.{StripForm}
use Rattle.fax_page.specs.code.Notes.{IsLineNoted}
use Rattle.fax_page.proofs.NotesLemmas.{row_noted, no_notes, all_noted}
use Rattle.fax_page.proofs.notes.NotesReader.notes.Goals as goal

pub returns-in_err-read_row-clause-err : goal.returns-in_err-read_row-clause-err
returns-in_err-read_row-clause-err c =
    let p = err_from_is_err_and c.from_residual.result c.from_residual.ensures.1 in
    let upcoming : c.loop-i.i < c.args.form.rows = c.loop-i-test.true in
    let fault = rw c.loop-i.invariant.form_is at c.in_err-read_row.ensures.err in
    rw (p.1, p.2) (no_notes _ _ _ _ _ _ _ upcoming c.loop-i.invariant.read fault)

pub loop-i-preserved : goal.loop-i-preserved
loop-i-preserved c =
    let upcoming : c.loop-i.i < c.args.form.rows = c.loop-i-test.true in
    let old = c.loop-i.strip in
    let rows = c.loop-i.self-inside.rows in
    let new = c.read_row.new.self in
    let noted = subst (λ (f : StripForm). IsLineNoted f c.loop-i.i rows.reference old.source.remaining
    c.read_row.new.rows.reference new.source.remaining
    old.not_t4_choice new.not_t4_choice) c.loop-i.invariant.form_is c.in_ok-read_row.ensures.ok in
    record {
      noting = c.in_ok-read_row.ensures.still;
      form_is = c.in_ok-read_row.ensures.same_form ∙ c.loop-i.invariant.form_is;
      read = row_noted c.lines_are_read_in_one_way.ensures _ _ _ _ _ _ _ _ _ upcoming c.loop-i.invariant.read noted;
    }

pub returns-clause-ok : goal.returns-clause-ok
returns-clause-ok c =
    let all : c.loop-i.i ≡ c.args.form.rows = omega arith in
    all_noted c.one_dimensional_rows_are_read_back.ensures c.two_dimensional_rows_are_read_back.ensures
    c.lines_are_read_in_one_way.ensures c.args.form _ _ _ _ _ _ c.requires.limits all c.loop-i.invariant.read
    c.notes_after.ensures
