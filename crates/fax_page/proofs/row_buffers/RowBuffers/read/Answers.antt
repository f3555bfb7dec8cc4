use Rattle.std.proofs.Common.{◌≡◌, List, length, refl, subst, ap, sym, ◌∙◌}
use Rattle.fax_bits.specs.declared.Colour.{Colour}
use Rattle.fax_bits.specs.Reading.{read}
use Rattle.fax_page.specs.Lines.{read_codes}
use Rattle.fax_page.proofs.FirstCodeLemmas.{line_started}
use Rattle.fax_page.proofs.row_buffers.RowBuffers.read.Goals as goal

pub returns-then-take_white-clause-ok : goal.returns-then-take_white-clause-ok
returns-then-take_white-clause-ok c =
    let dimension = c.in-Ok.dimension in
    let row = c.args.self.now in
    let codes = c.read_start.new.source.remaining in
    let rest = c.take_white.new.source.remaining in
    let coded = subst (λ (r : List Colour). read_codes dimension (length r) r codes ≡ read r rest) c.reference.ensures
    (c.if-take_white.ensures.row refl) in
    line_started c.args.form c.args.i row row c.args.source.now.remaining codes rest dimension c.requires.some_pels
    c.in-Ok.ensures.read
    (ap (λ n. read_codes dimension n row codes) (sym c.requires.width) ∙ coded)

pub returns-in-Ok-read_codes-clause-ok : goal.returns-in-Ok-read_codes-clause-ok
returns-in-Ok-read_codes-clause-ok c =
    let dimension = c.in-Ok.dimension in
    let reference = c.args.self.now in
    let row = c.read_codes.new.self in
    let rest = c.read_codes.new.source.remaining in
    let coded = rw (c.if-take_white.ensures.unchanged refl) at c.in-Ok-read_codes.ensures.read in
    line_started c.args.form c.args.i reference row c.args.source.now.remaining c.read_start.new.source.remaining rest
    dimension
    c.requires.some_pels c.in-Ok.ensures.read
    (ap (λ n. read_codes dimension n reference c.read_start.new.source.remaining) (sym c.requires.width) ∙ coded)
