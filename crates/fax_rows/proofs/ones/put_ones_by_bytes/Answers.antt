use Rattle.std.proofs.Common.{◌≡◌, ◌*◌, ◌++◌, take, get_or, ap, ◌∙◌, arith}
use Rattle.fax_rows.specs.code.Ones.{ones_among}
use Rattle.fax_rows.proofs.OnesLemmas.{byte_goes_on}
use Rattle.fax_rows.proofs.ones.put_ones_by_bytes.Goals as goal

pub loop-k-preserved : goal.loop-k-preserved
loop-k-preserved c = record {
  put =
      byte_goes_on (take c.args.end c.args.changes.now) (take c.loop-k.end c.loop-k.changes) _ c.args.from c.args.word
      c.loop-k.k
      (get_or c.to_be_bytes-bytes.result c.loop-k.k 0) (omega arith)
      (ap (λ bs. get_or bs c.loop-k.k 0) c.to_be_bytes-bytes.ensures)
      c.put_ones_of_byte-end.ensures.put c.loop-k.invariant.put;
  within = omega (arith, c.put_ones_of_byte-end.ensures.within, c.loop-k.invariant.within);
}

pub returns-clause-put : goal.returns-clause-put
returns-clause-put c =
    let all : 8 * c.loop-k.k ≡ 64 = omega arith in
    c.loop-k.invariant.put ∙ ap (λ n. take c.args.end c.args.changes.now ++ ones_among c.args.from 63 c.args.word n) all
