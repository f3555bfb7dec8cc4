use Rattle.std.proofs.Common.{true, false, [], ◌∷◌, ◌++◌, refl, arith}
use Rattle.std.proofs.lemmas.Result.{on_ok_weaker}
use Rattle.fax_bits.specs.Bits.{code_bits}
use Rattle.fax_page.specs.Strip.{eol_bits}
use Rattle.fax_page.proofs.FillLemmas.{fits_more, put_after_fill}
use Rattle.fax_page.proofs.writer.put_start.Goals as goal

pub put-requires-clause-fits : goal.put-requires-clause-fits
put-requires-clause-fits c = fits_more c.fill_zeros-fill.result 12 1 (omega arith)

pub put-requires-in-Mr-OneDimensional-clause-fits : goal.put-requires-in-Mr-OneDimensional-clause-fits
put-requires-in-Mr-OneDimensional-clause-fits c = fits_more c.fill_zeros-fill.result 13 3 (omega arith)

pub put-requires-in-Mr-TwoDimensional-clause-fits : goal.put-requires-in-Mr-TwoDimensional-clause-fits
put-requires-in-Mr-TwoDimensional-clause-fits c = fits_more c.fill_zeros-fill.result 13 2 (omega arith)

pub returns-in-Mh-default-clause-ok : goal.returns-in-Mh-default-clause-ok
unfolding code_bits
returns-in-Mh-default-clause-ok c =
    let sink = c.args.sink.now in
    rw (c.in-Mh-default.is-0)
    (on_ok_weaker c.put.result
    (put_after_fill sink c.put.new.self c.args.form.aligned c.len.result c.fill_zeros-fill.result 12 1 (eol_bits)
    c.len.ensures
    c.fill_zeros-fill.ensures.exact (omega arith) refl)
    c.put.ensures.ok)

pub returns-in-Mr-OneDimensional-clause-ok : goal.returns-in-Mr-OneDimensional-clause-ok
unfolding code_bits
returns-in-Mr-OneDimensional-clause-ok c =
    let sink = c.args.sink.now in
    rw (c.in-Mr-OneDimensional.is-0, c.in-Mr-OneDimensional.is-1)
    (on_ok_weaker c.put-in-Mr-OneDimensional.result
    (put_after_fill sink c.put-in-Mr-OneDimensional.new.self c.args.form.aligned c.len.result c.fill_zeros-fill.result
    13 3
    (eol_bits ++ true ∷ []) c.len.ensures
    c.fill_zeros-fill.ensures.exact (omega arith) refl)
    c.put-in-Mr-OneDimensional.ensures.ok)

pub returns-in-Mr-TwoDimensional-clause-ok : goal.returns-in-Mr-TwoDimensional-clause-ok
unfolding code_bits
returns-in-Mr-TwoDimensional-clause-ok c =
    let sink = c.args.sink.now in
    rw (c.in-Mr-TwoDimensional.is-0, c.in-Mr-TwoDimensional.is-1)
    (on_ok_weaker c.put-in-Mr-TwoDimensional.result
    (put_after_fill sink c.put-in-Mr-TwoDimensional.new.self c.args.form.aligned c.len.result c.fill_zeros-fill.result
    13 2
    (eol_bits ++ false ∷ []) c.len.ensures
    c.fill_zeros-fill.ensures.exact (omega arith) refl)
    c.put-in-Mr-TwoDimensional.ensures.ok)
