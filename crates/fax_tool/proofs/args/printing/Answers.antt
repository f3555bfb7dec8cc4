use Rattle.std.proofs.Common.{◌≡◌, codes, false, rules}
use Rattle.std.proofs.lemmas.Result.{IfOk-weaker}
use Rattle.clap.specs.Walk.{rule_of}
use Rattle.fax_tool.specs.Grammar.{most_lines}
use Rattle.fax_tool.specs.code.CommandLine.{file_rule, number_rule, text_rule}
use Rattle.fax_tool.proofs.CommandLineLemmas.{argument_added, bare}
use Rattle.fax_tool.proofs.args.printing.Goals as goal

pub returns : goal.returns
returns c =
    let cursor : rule_of c.long.result ≡ text_rule (codes "cursor") = search rules in
    let local : c.long.result.global ≡ false = search rules in
    let max : rule_of c.number-max.result ≡ number_rule (codes "max") most_lines = search rules in
    let file : rule_of c.new-3.result ≡ file_rule = search rules in
    let file_local : c.new-3.result.global ≡ false = search rules in
    let none = bare c.disable_help_flag.result c.new.result c.disable_help_flag.ensures c.new.ensures.app
    c.new.ensures.local in
    let one = argument_added c.in_ok-arg.ensures none local cursor in
    let two = argument_added c.in_ok-arg-2.ensures one c.number-max.ensures.local max in
    IfOk-weaker c.arg-3.result _ _ (λ r adds. argument_added adds two file_local file) c.arg-3.ensures
