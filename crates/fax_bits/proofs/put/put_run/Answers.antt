use Rattle.std.proofs.Common.{◌≡◌, ◌∙◌, ◌/◌, replicate, subst, arith}
use Rattle.std.proofs.lemmas.Result.{on_ok_weaker}
use Rattle.fax_bits.specs.declared.run_codes.RunCode.TheVariants.{MakeUp}
use Rattle.fax_bits.specs.views.Sink.{Appends}
use Rattle.fax_bits.proofs.PutLemmas.{Put, put-prefix, first_codes, put-rest, on_err-of}
use Rattle.fax_bits.proofs.put.put_run.Goals as goal

pub returns-clause-ok : goal.returns-clause-ok
returns-clause-ok c =
    let all : c.loop.counter ≡ c.args.n / 2560 = omega arith in
    let often : Put c.args.colour c.args.sink.now (replicate (c.args.n / 2560) (MakeUp 2560)) c.loop.sink =
    subst (λ q. Put c.args.colour c.args.sink.now (replicate q (MakeUp 2560)) c.loop.sink) all c.loop.invariant in
    on_ok_weaker c.put_all-2.result
    (λ put. put-rest c.args.colour c.args.n c.args.sink.now c.loop.sink c.put_all-2.new.sink often
    (subst (λ b. Appends c.loop.sink b c.put_all-2.new.sink) c.codes_of_run.ensures put))
    c.put_all-2.ensures.ok

pub returns-in_err-put_all-clause-err : goal.returns-in_err-put_all-clause-err
returns-in_err-put_all-clause-err c =
    on_err-of c.from_residual.result
    (put-prefix c.args.colour c.args.n c.args.sink.now c.put_all.new.sink _ _
    (c.in_err-put_all.ensures.err ∙ c.loop.invariant)
    (first_codes c.args.n c.loop.counter (omega arith)))
