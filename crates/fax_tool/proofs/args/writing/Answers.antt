use Rattle.std.proofs.Common.{◌≡◌, codes, false, rules}
use Rattle.std.proofs.lemmas.Result.{IfOk-weaker}
use Rattle.clap.specs.Walk.{rule_of}
use Rattle.fax_files.specs.Page.{most_rows}
use Rattle.fax_tool.specs.code.CommandLine.{file_rule, flag_rule, number_rule}
use Rattle.fax_tool.proofs.CommandLineLemmas.{argument_added}
use Rattle.fax_tool.proofs.args.writing.Goals as goal

pub returns : goal.returns
returns c =
    let strip : rule_of c.number.result ≡ number_rule (codes "strip") most_rows = search rules in
    let align : rule_of c.action-align.result ≡ flag_rule (codes "align") = search rules in
    let local : c.action-align.result.global ≡ false = search rules in
    let file : rule_of c.new-3.result ≡ file_rule = search rules in
    let file_local : c.new-3.result.global ≡ false = search rules in
    let one = argument_added c.in_ok-arg.ensures c.in_ok-coding.ensures c.number.ensures.local strip in
    let two = argument_added c.in_ok-arg-2.ensures one local align in
    IfOk-weaker c.arg-3.result _ _ (λ r adds. argument_added adds two file_local file) c.arg-3.ensures
