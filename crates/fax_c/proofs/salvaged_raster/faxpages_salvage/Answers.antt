use Rattle.std.proofs.Common.{◌∙◌, ap, inl, inr, refl}
use Rattle.fax_c.specs.Forms.{form_numbers}
use Rattle.fax_c.proofs.salvaged_raster.faxpages_salvage.Goals as goal

pub returns-in-Ok-rows : goal.returns-in-Ok-rows
returns-in-Ok-rows c =
    let here = c.in-Ok.found.here in
    let there = c.in-Ok.ensures.ok in
    let start = c.in-Ok-rows.ensures in
    let (rows, are, count, written) = c.fill_left.ensures in
    let of_its = rw start.its_is at are in (
      c.fill_left.result,
      c.fill_result-in-Ok-rows.ensures,
      inl (
        here,
        there.there,
        c.of.ensures ∙ ap form_numbers c.form-its.ensures.form,
        inl (
          rw c.form-its.ensures.form at c.if-not-holds_rows.ensures.some refl,
          rows,
          rw there.file_is at of_its,
          count ∙ start.rows_are,
          written,
        ),
      ),
    )

pub returns-in-Err-rows : goal.returns-in-Err-rows
returns-in-Err-rows c = (
  c.nothing-in-Err-rows.result,
  c.fill_result-in-Err-rows.ensures,
  inl (
    c.in-Ok.found.here,
    c.in-Ok.ensures.ok.there,
    c.of.ensures ∙ ap form_numbers c.form-its.ensures.form,
    inr (
      refl,
      inr (c.nothing-in-Err-rows.ensures, rw c.form-its.ensures.form at c.if-not-holds_rows.ensures.some refl),
    ),
  ),
)
