use Rattle.std.proofs.Common.{◌∙◌, ap}
use Rattle.fax_files.specs.views.Tiff.{TiffDirectory, received_of}
use Rattle.fax_walk.proofs.OnPaperLemmas.{has_all, page_put, upcoming_rows}
use Rattle.fax_walk.proofs.OutputLemmas.{on_ok}
use Rattle.fax_walk.proofs.salvaged_file.put_page.Goals as goal

pub put_rows-requires-clause-upcoming : goal.put_rows-requires-clause-upcoming
put_rows-requires-clause-upcoming c =
    upcoming_rows c.args.options.now c.args.strips.directory c.args.form c.of_form.result c.args.output.now
    c.begin.new.self c.in_ok-rows.rows.rows c.of_form.ensures.exact c.in_ok-begin.ensures c.in_ok-rows.ensures
    c.requires.upcoming

pub end-requires : goal.end-requires
end-requires c =
    has_all c.args.options.now c.args.strips.directory c.args.form c.of_form.result c.args.output.now c.begin.new.self
    c.in_ok-rows.rows.rows c.of_form.ensures.exact c.in_ok-begin.ensures c.in_ok-rows.ensures c.put_rows.new.output
    c.in_ok-lost.lost c.in_ok-lost.ensures c.requires.upcoming

pub returns : goal.returns
returns c =
    let receiver = c.received-received.ensures ∙ ap (λ (d : TiffDirectory). received_of d) c.directory.ensures in
    on_ok c.end.result c.end.ensures
    (page_put c.args.options.now c.args.strips.directory c.args.form c.of_form.result c.args.output.now c.begin.new.self
    c.in_ok-rows.rows.rows c.of_form.ensures.exact c.in_ok-begin.ensures c.in_ok-rows.ensures c.put_rows.new.output
    c.in_ok-lost.lost c.in_ok-lost.ensures c.received-received.result receiver c.bad_rows.result c.bad_rows.ensures
    c.end.new.self)
