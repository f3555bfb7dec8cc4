use Rattle.std.proofs.Common.{◌+◌, ◌<◌, ◌∙◌, inl, inr, ap, sym, arith}
use Rattle.fax_page.specs.declared.StripForm.{StripForm}
use Rattle.fax_walk.specs.code.Stages.{row_shown}
use Rattle.fax_walk.proofs.OpenPageLemmas.{long_none, long_some, state}
use Rattle.fax_walk.proofs.open_page.OpenPage.long_cursor_ref.Goals.{then-row-eq0-via-then-row-eq0}
use Rattle.fax_walk.proofs.open_page.OpenPage.long_cursor_ref.Goals.{then-row-eq0-via-else-row-eq0+then-row-strip_form}
use Rattle.fax_walk.proofs.open_page.OpenPage.long_cursor_ref.Goals as goal

pub returns-then-row-eq0 : goal.returns-then-row-eq0
returns-then-row-eq0 c =
    let p = c.self.inside in
    let page = state p.page p.chain p.strips.directory p.form p.first p.number p.strip (row_shown p.strip p.exchanged)
    (p.before + p.strip.read) in
    rw (← c.self.view_is) (long_none page c.self.invariant.limits c.self.invariant.within c.self.invariant.strip_is (
    elim c.then-row-eq0.branch [
      | then-row-eq0-via-then-row-eq0 w ↦ inl (omega (arith, c.row-row.ensures.row, w.if-row-eq0.true))
      | then-row-eq0-via-else-row-eq0+then-row-strip_form w ↦ inr (
          let count = ap (λ (f : StripForm). f.rows) (sym c.self.invariant.strip_is.form_is) in
          let exact = ap (λ (f : StripForm). f.rows) w.strip_form.ensures.exact in
          omega (arith, c.row-row.ensures.row, count, exact, w.if-row-strip_form.true))
    ]))

pub returns : goal.returns
returns c =
    let p = c.self.inside in
    let page = state p.page p.chain p.strips.directory p.form p.first p.number p.strip (row_shown p.strip p.exchanged)
    (p.before + p.strip.read) in
    let strip_is = c.self.invariant.strip_is in
    let count = ap (λ (f : StripForm). f.rows) (sym strip_is.form_is) in
    let exact = ap (λ (f : StripForm). f.rows) c.strip_form.ensures.exact in
    let some : 0 < p.strip.row = omega (arith, c.row-row.ensures.row, c.if-row-eq0.false) in
    let upcoming : p.strip.row < p.strip.form.rows =
    omega (arith, c.row-row.ensures.row, count, exact, c.if-row-strip_form.false, strip_is.within) in
    rw (c.cursor.ensures, c.reference.ensures.pels, ← c.self.view_is)
    (long_some page c.self.invariant.limits c.self.invariant.within strip_is some upcoming c.in-Ok.bits
    (c.in-Ok.ensures.1 ∙ c.bit_place-place.ensures.place) (omega (arith, c.in-Ok.ensures.0, c.in-Ok.ensures.1)))
