use Rattle.std.proofs.Common.{ap, ◌∙◌}
use Rattle.fax_page.specs.views.Reader.{restarted_at, strip_beginning}
use Rattle.fax_walk.proofs.OpenPageLemmas.{inner_is}
use Rattle.fax_walk.proofs.open_page.strip_at.Goals as goal

pub returns-clause-ok : goal.returns-clause-ok
returns-clause-ok c =
    let form = c.args.form in
    let bytes = c.args.bytes.now in
    let p = c.place.inside in
    let origin = c.in_ok-inside.ensures in
    let reference = c.in_ok-inside.field-0.reference in
    let runs = rw c.deref.ensures.value at origin.1.1 in
    let inner = inner_is form.width bytes (record { at = p.at; bits = p.bits; runs = p.runs.items }) reference origin.0
    origin.1.0 runs in
    rw (← c.place.view_is)
    (inner.0, origin.2 ∙ ap (restarted_at (strip_beginning form bytes) bytes form.rows c.args.row p.bits) inner.1)
