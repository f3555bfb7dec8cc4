use Rattle.std.proofs.Common.{◌≡◌, ◌∙◌, None, ap, arith, sym}
use Rattle.fax_walk.specs.declared.cursor.Cursor.{Cursor}
use Rattle.fax_walk.proofs.walk.Walk.last_row.Goals as goal

pub returns-in-Some : goal.returns-in-Some
returns-in-Some c =
    let w = c.self.inside in
    let none : w.final_end ≡ None = rw (sym c.self.view_is) at c.requires in
    let shown = (rw (none, c.in-Some.is) at c.self.invariant).1 in
    let last = shown.last in
    let page = sym (ap (λ (at : Cursor). at.page) last.cursor_is) in
    let row = ap (λ (at : Cursor). at.row) last.cursor_is in
    rw (← c.self.view_is) (
      last.before,
      last.item,
      last.count,
      last.number,
      (page, omega (arith, row), shown.pels ∙ sym c.row.ensures),
      shown.form ∙ sym c.form.ensures.same,
      c.form.ensures.limits,
    )
