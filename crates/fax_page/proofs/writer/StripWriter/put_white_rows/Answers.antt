use Rattle.std.proofs.Common.{◌≡◌, ◌+◌, sym, ap, ◌∙◌, arith}
use Rattle.fax_page.specs.Lines.{white_row}
use Rattle.fax_page.specs.views.Writer.{WriterState}
use Rattle.fax_page.proofs.WhiteLineLemmas.{puts_none, puts_white}
use Rattle.fax_page.proofs.writer.StripWriter.put_white_rows.Goals as goal

pub returns-then-count-eq0 : goal.returns-then-count-eq0
returns-then-count-eq0 c =
    let not_refused = sym (ap (λ (w : WriterState). w.refused) c.self.view_is) ∙ c.if-self.false in
    rw c.if-count-eq0.true (puts_none c.args.self.now not_refused)

pub returns-in-Ok : goal.returns-in-Ok
returns-in-Ok c =
    let old = c.args.self.now in
    let not_refused = sym (ap (λ (w : WriterState). w.refused) c.self.view_is) ∙ c.if-self.false in
    let width = c.self-2.invariant.width
    ∙ ap (λ (w : WriterState). w.form.width) (c.self-2.view_is ∙ c.in-Ok.ensures.ok) in
    let last : c.whiten.new.self ≡ white_row old.form.width = c.whiten.ensures ∙ ap white_row width in
    puts_white old c.put_white_codes.new.self _ c.args.count not_refused (omega arith) c.in-Ok.ensures.ok
    (rw last (ap (λ (w : WriterState). record w { row = w.row + c.args.count; last = white_row old.form.width })
    c.self-2.view_is))
