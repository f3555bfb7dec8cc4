use Rattle.std.proofs.Common.{ap}
use Rattle.std.proofs.lemmas.Result.{on_ok_weaker}
use Rattle.fax_bits.specs.views.Sink.{Sink}
use Rattle.fax_page.proofs.WhiteLineLemmas.{after_first}
use Rattle.fax_page.proofs.writer.StripWriter.put_white_codes.Goals as goal

pub returns-clause-ok : goal.returns-clause-ok
returns-clause-ok c =
    let w = c.self.inside in
    let first = rw c.in_ok-white.ensures.pels at c.in_ok-put_line.ensures.ok in
    rw (← c.self.view_is)
    (on_ok_weaker c.put_white_lines-2.result (λ others. ap (λ (sink : Sink). record {
      form = w.form;
      k = w.k;
      bits = sink.bits;
      row = w.row;
      last = w.last;
      refused = w.refused;
    })
    (after_first w.form w.k w.row c.args.count w.last c.written_dimension-dimension.result w.sink c.put_line.new.sink
    c.put_white_lines-2.new.sink c.requires.some c.written_dimension-dimension.ensures first others))
    c.put_white_lines-2.ensures.ok)
