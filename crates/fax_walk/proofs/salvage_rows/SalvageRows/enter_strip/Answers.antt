use Rattle.std.proofs.Common.{◌≡◌, true, false, sym, ◌∙◌, arith}
use Rattle.fax_walk.proofs.SalvageRowLemmas.{entered, next_in_page}
use Rattle.fax_walk.proofs.salvage_rows.SalvageRows.enter_strip.Goals as goal
use Rattle.fax_walk.proofs.salvage_rows.SalvageRows.enter_strip.Goals.{then-self-2, else-self-2}

pub invariant_of-self : goal.invariant_of-self
invariant_of-self c =
    let self = c.self.invariant in
    let begins = rw (self.reader_form, c.strip_form-rows.ensures.exact) at c.restart.ensures in
    let gone = rw (c.strip_form.ensures.exact, c.row.ensures) at c.if-row-strip_form.false in
    next_in_page _ _ _ _ _ _ self c.whole_strips_are_found.ensures (omega (arith, gone)) c.if-self.false _ _ _ _
    c.bytes_left-whole.ensures.bytes begins
    (elim c.if-self-2.branch [
      | then-self-2 w ↦ λ is. (w.if-self-2.true, sym w.self-is ∙ is)
      | else-self-2 w ↦ λ is. let apart : false ≡ true = sym w.if-self-2.false ∙ sym w.self-is ∙ is in cc
    ])

pub returns : goal.returns
returns c =
    let self = c.self.invariant in
    let begins = rw (self.reader_form, c.strip_form-rows.ensures.exact) at c.restart.ensures in
    let gone = rw (c.strip_form.ensures.exact, c.row.ensures) at c.if-row-strip_form.false in
    rw (← c.self.view_is)
    (entered _ self.limits self.inside self.reader_form self.within _ _ _ (omega (arith, gone)) c.if-self.false
    c.bytes_left-whole.ensures.bytes begins _)
