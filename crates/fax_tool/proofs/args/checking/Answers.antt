use Rattle.std.proofs.Common.{◌≡◌, codes, false, rules}
use Rattle.std.proofs.lemmas.Result.{IfOk-weaker}
use Rattle.clap.specs.Walk.{rule_of}
use Rattle.fax_tool.specs.code.CommandLine.{flag_rule}
use Rattle.fax_tool.proofs.CommandLineLemmas.{argument_added}
use Rattle.fax_tool.proofs.args.checking.Goals as goal

pub returns : goal.returns
returns c =
    let received : rule_of c.action-received.result ≡ flag_rule (codes "received") = search rules in
    let local : c.action-received.result.global ≡ false = search rules in
    IfOk-weaker c.arg.result _ _ (λ r adds. argument_added adds c.in_ok-reading.ensures local received) c.arg.ensures
