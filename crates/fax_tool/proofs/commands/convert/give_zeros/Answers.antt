use Rattle.std.proofs.Common.{◌≤◌, length, arith}
use Rattle.std.proofs.KnownBytes.{Appends-trans}
use Rattle.clap.proofs.TakesLemmas.{passed_up}
use Rattle.fax_tool.proofs.TransferLemmas.{zeros_more, zeros_given_in_part}
use Rattle.fax_tool.proofs.commands.convert.give_zeros.Goals as goal

pub returns-in_err-write_all-clause-err : goal.returns-in_err-write_all-clause-err
returns-in_err-write_all-clause-err g c =
    let within : c.min-count.result ≤ c.loop-remaining.remaining = omega (arith, c.min-count.ensures) in
    let lent : c.min-count.result ≤ length c.args.block.now = omega (arith, c.min-count.ensures) in
    passed_up c.from_residual.result _ _ c.from_residual.ensures.1
    (zeros_given_in_part c.args.block.now c.args.zeros c.loop-remaining.remaining c.min-count.result c.requires.block
    c.loop-remaining.invariant.few within lent (g.W.Sink.written c.args.out.now) (g.W.Sink.written c.loop-remaining.out)
    (g.W.Sink.written c.write_all.new.out) _ _ c.loop-remaining.invariant.given c.in_err-write_all.ensures.err)

pub loop-remaining-preserved : goal.loop-remaining-preserved
loop-remaining-preserved g c =
    let within : c.min-count.result ≤ c.loop-remaining.remaining = omega (arith, c.min-count.ensures) in
    let lent : c.min-count.result ≤ length c.args.block.now = omega (arith, c.min-count.ensures) in
    let more =
    zeros_more c.args.block.now c.args.zeros c.loop-remaining.remaining c.min-count.result c.requires.block
    c.loop-remaining.invariant.few within lent in
    record {
      few = omega (arith, c.loop-remaining.invariant.few);
      given =
          rw more at (Appends-trans (g.W.Sink.written c.args.out.now) (g.W.Sink.written c.loop-remaining.out)
          (g.W.Sink.written c.write_all.new.out) _ _ c.loop-remaining.invariant.given c.in_ok-write_all.ensures.ok);
      counts = c.in_ok-write_all.ensures.counts;
    }
