use Rattle.std.proofs.Common.{true, [], ◌∷◌, length}
use Rattle.std.proofs.lemmas.Result.{on_ok_weaker}
use Rattle.fax_bits.specs.Bits.{code_bits}
use Rattle.fax_page.specs.Strip.{start_bits}
use Rattle.fax_page.specs.declared.Dimension.TheVariants.{TwoDimensional}
use Rattle.fax_page.proofs.WriterLemmas.{appended}
use Rattle.fax_page.proofs.writer.put_white_line.Goals as goal

pub returns-in-TwoDimensional-clause-ok : goal.returns-in-TwoDimensional-clause-ok
unfolding code_bits
returns-in-TwoDimensional-clause-ok c =
    let form = c.args.form in
    let sink = c.args.sink.now in
    let started = rw c.in-TwoDimensional.is at c.in_ok-put_start.ensures.ok in
    rw (
      c.in-TwoDimensional.is,
      c.white_rows_are_written.ensures.two_dimensional form.width c.requires.limits.some_pels,
    )
    (on_ok_weaker c.put.result
    (appended sink c.put_start.new.sink c.put.new.self
    (start_bits form.coding form.aligned (length sink.bits) TwoDimensional) (true ∷ []) started)
    c.put.ensures.ok)
