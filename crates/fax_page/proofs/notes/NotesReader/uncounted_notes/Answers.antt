use Rattle.std.proofs.Common.{◌≡◌, ◌<◌, ◌∙◌, length, replicate, ap, sym, subst, arith, refl, None}
use Rattle.std.proofs.lemmas.List.{length-replicate}
use Rattle.fax_bits.specs.declared.Colour.TheVariants.{White}
use Rattle.fax_bits.specs.views.Source.{Source}
use Rattle.fax_page.specs.declared.StripForm.{StripForm}
use Rattle.fax_page.specs.Strip.{most_rows}
use Rattle.fax_page.specs.Uncounted.{uncounted}
use Rattle.fax_page.specs.views.Strip.{IsStripForm}
use Rattle.fax_page.specs.code.Notes.{AreFoundAfter, IsLineNoted}
use Rattle.fax_page.proofs.NotesLemmas.{none_read, row_noted, uncounted_noted, uncounted_stopped}
use Rattle.fax_page.proofs.notes.NotesReader.uncounted_notes.Goals as goal

-- the limits of a strip of unknown height
limits_of : (form : StripForm) → IsStripForm form → IsStripForm (uncounted form)
limits_of form limits = record {
  some_pels = limits.some_pels;
  short_rows = limits.short_rows;
  some_rows = omega arith;
  few_rows = omega arith;
  aligned = limits.aligned;
}

pub loop-i-init : goal.loop-i-init
loop-i-init c =
    let width : length c.self.inside.rows.reference ≡ c.args.form.width =
    c.self.invariant.reference_width ∙ c.self.view_is ∙ sym c.requires.width in
    let white : c.whiten.new.self ≡ replicate c.args.form.width White =
    c.whiten.ensures ∙ ap (λ n. replicate n White) width in
    record {
      noting = record {
        limits = limits_of c.args.form c.requires.limits;
        widths = record {
          reference_width = ap length white ∙ length-replicate c.args.form.width White;
          row_width = c.self.view_is ∙ sym c.requires.width;
        };
      };
      form_is = refl;
      read = none_read _ _ _ _ white (ap (λ (s : Source). s.remaining) c.new.ensures);
    }

pub returns-in-Err-Strip-clause-ok : goal.returns-in-Err-Strip-clause-ok
returns-in-Err-Strip-clause-ok c =
    let upcoming : c.loop-i.i < most_rows = c.loop-i-test.true in
    let stop = rw (c.loop-i.invariant.form_is, c.in-Err-Strip.field-0-is) at c.in-Err-Strip.ensures.err in
    let found = rw (c.fork-upcoming.ensures, c.in-Err-Strip.fault-is) at c.found_in_rows.ensures in
    uncounted_stopped c.one_dimensional_rows_are_read_back.ensures c.two_dimensional_rows_are_read_back.ensures
    c.lines_are_read_in_one_way.ensures c.args.form (limits_of c.args.form c.requires.limits) _ _ _ _ _ _ _ _ upcoming
    c.loop-i.invariant.read stop found

pub loop-i-preserved : goal.loop-i-preserved
loop-i-preserved c =
    let upcoming : c.loop-i.i < most_rows = c.loop-i-test.true in
    let old = c.loop-i.strip in
    let rows = c.loop-i.self-inside.rows in
    let new = c.read_row.new.self in
    let noted = subst (λ (f : StripForm). IsLineNoted f c.loop-i.i rows.reference old.source.remaining
    c.read_row.new.rows.reference new.source.remaining
    old.not_t4_choice new.not_t4_choice) c.loop-i.invariant.form_is c.in-Ok.ensures.ok in
    record {
      noting = c.in-Ok.ensures.still;
      form_is = c.in-Ok.ensures.same_form ∙ c.loop-i.invariant.form_is;
      read = row_noted c.lines_are_read_in_one_way.ensures _ _ _ _ _ _ _ _ _ upcoming c.loop-i.invariant.read noted;
    }

pub returns-clause-ok : goal.returns-clause-ok
returns-clause-ok c =
    let all : c.loop-i.i ≡ most_rows = omega arith in
    let strip = c.loop-i.strip in
    let found = subst (λ n. AreFoundAfter c.args.form.coding strip.source.remaining n None strip.not_t4_choice
    c.found_in_rows-2.result) (sym all)
    c.found_in_rows-2.ensures in
    uncounted_noted c.one_dimensional_rows_are_read_back.ensures c.two_dimensional_rows_are_read_back.ensures
    c.lines_are_read_in_one_way.ensures c.args.form (limits_of c.args.form c.requires.limits) _ _ _ _ _ _ _
    c.loop-i.invariant.read all found
