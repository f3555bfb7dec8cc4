use Rattle.std.proofs.Common.{◌≡◌, ◌+◌, ◌*◌, ◌%◌, ◌^◌, arith}
use Rattle.std.proofs.lemmas.Nat.{one_shl}
use Rattle.std.proofs.lemmas.Result.{on_ok_weaker}
use Rattle.fax_page.proofs.WhiteLineLemmas.{ones_more}
use Rattle.fax_page.proofs.writer.put_ones.Goals as goal

pub loop-preserved : goal.loop-preserved
loop-preserved c =
    ones_more c.args.sink.now c.loop.sink c.put.new.self (32 * c.loop.counter) 32 (32 * (c.loop.counter + 1))
    c.loop.invariant c.in_ok-put.ensures.ok (omega arith)

pub returns-clause-ok : goal.returns-clause-ok
returns-clause-ok c =
    let len = c.args.count % 32 in
    let number : 1 * 2 ^ len % 2 ^ 32 ≡ 2 ^ len = one_shl len 32 (omega arith) in
    let put = rw number at c.put-2.ensures.ok in
    on_ok_weaker c.put-2.result
    (λ last. ones_more c.args.sink.now c.loop.sink c.put-2.new.self (32 * c.loop.counter) len c.args.count
    c.loop.invariant last (omega arith))
    put
