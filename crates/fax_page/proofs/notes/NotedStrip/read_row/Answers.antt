use Rattle.std.proofs.Common.{refl, ap, sym, ◌∙◌}
use Rattle.fax_page.specs.Lines.{read_codes}
use Rattle.fax_page.proofs.NotesLemmas.{line_noted, codes_fault, codes_seen}
use Rattle.std.proofs.lemmas.Result.{on_ok_weaker, IfErr-weaker}
use Rattle.fax_page.proofs.notes.NotedStrip.read_row.Goals as goal

pub returns-then-take_white-clause-ok : goal.returns-then-take_white-clause-ok
returns-then-take_white-clause-ok c =
    let form = c.args.self.now.form in
    let dimension = c.in-Ok.dimension in
    let row = c.args.rows.now.reference in
    let codes = c.read_start.new.source.remaining in
    let rest = c.take_white.new.source.remaining in
    line_noted form c.args.i row row c.args.self.now.source.remaining codes rest dimension _ _
    c.requires.limits.some_pels
    c.in-Ok.ensures.read
    (record {
      coded = ap (λ n. read_codes dimension n row codes) (sym c.requires.widths.reference_width)
          ∙ c.if-take_white.ensures.row refl;
      noted = codes_seen _ _ (c.if-take_white.ensures.chosen refl);
    })

pub returns-clause-ok : goal.returns-clause-ok
returns-clause-ok c =
    let form = c.args.self.now.form in
    let reference = c.args.rows.now.reference in
    let b = c.args.self.now.source.remaining in
    on_ok_weaker c.note_codes.result
    (λ read. line_noted form c.args.i reference c.note_codes.new.rows.reference b c.read_start.new.source.remaining
    c.note_codes.new.self.source.remaining c.in-Ok.dimension _ _ c.requires.limits.some_pels c.in-Ok.ensures.read read)
    (rw (c.if-take_white.ensures.unchanged refl) at c.note_codes.ensures.ok)

pub returns-clause-err : goal.returns-clause-err
returns-clause-err c =
    let form = c.args.self.now.form in
    IfErr-weaker c.note_codes.result _ _
    (λ fault is. codes_fault form c.args.i c.args.rows.now.reference c.args.self.now.source.remaining
    c.read_start.new.source.remaining
    c.in-Ok.dimension fault c.in-Ok.ensures.read is)
    (rw (c.if-take_white.ensures.unchanged refl) at c.note_codes.ensures.err)
