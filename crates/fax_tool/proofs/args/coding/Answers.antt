use Rattle.std.proofs.Common.{◌≡◌, codes, false, rules}
use Rattle.std.proofs.lemmas.Result.{IfOk-weaker}
use Rattle.clap.specs.Walk.{rule_of}
use Rattle.fax_files.specs.Page.{most_rows}
use Rattle.fax_tool.specs.code.CommandLine.{number_rule, target_rule}
use Rattle.fax_tool.proofs.CommandLineLemmas.{argument_added, bare}
use Rattle.fax_tool.proofs.args.coding.Goals as goal

pub returns : goal.returns
returns c =
    let target : rule_of c.short-target.result ≡ target_rule = search rules in
    let local : c.short-target.result.global ≡ false = search rules in
    let order : rule_of c.number.result ≡ number_rule (codes "order") 2 = search rules in
    let k : rule_of c.number-2.result ≡ number_rule (codes "k") most_rows = search rules in
    let none = bare c.disable_help_flag.result c.new-2.result c.disable_help_flag.ensures c.new-2.ensures.app
    c.new-2.ensures.local in
    let one = argument_added c.in_ok-arg.ensures none local target in
    let two = argument_added c.in_ok-arg-2.ensures one c.number.ensures.local order in
    IfOk-weaker c.arg-3.result _ _ (λ r adds. argument_added adds two c.number-2.ensures.local k) c.arg-3.ensures
