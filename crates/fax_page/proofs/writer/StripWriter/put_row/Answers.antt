use Rattle.std.proofs.Common.{length, refl}
use Rattle.fax_page.proofs.WriterLemmas.{line_put}
use Rattle.fax_page.proofs.writer.StripWriter.put_row.Goals as goal

pub returns-in-Ok : goal.returns-in-Ok
returns-in-Ok c =
    let inside = c.self.inside in
    let bits = line_put inside.form inside.k (length inside.sink.bits) inside.row inside.last c.args.row.now
    c.written_dimension-dimension.result inside.sink c.put_line.new.sink c.written_dimension-dimension.ensures
    c.in-Ok.ensures.ok in
    rw (← c.self.view_is, bits, c.set_from.ensures) (record { not_refused = c.if-self.false; put = refl })
