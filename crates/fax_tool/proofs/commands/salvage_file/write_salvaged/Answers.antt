use Rattle.std.proofs.Common.{◌≡◌, ℕ, List, Option, Some, arith, refl, rules, subst}
use Rattle.clap.proofs.TakesLemmas.{passed_up}
use Rattle.fax_tool.specs.SalvageText.{IsSalvageFileText}
use Rattle.fax_tool.specs.code.Salvaging.{said_of}
use Rattle.fax_tool.specs.declared.args.Command.TheVariants.{SalvageFile}
use Rattle.fax_tool.proofs.CommandLemmas.{whole_unread}
use Rattle.fax_tool.proofs.SalvagedOutputLemmas.{file_stopped}
use Rattle.fax_tool.proofs.commands.salvage_file.write_salvaged.Goals as goal

pub returns-in_err-file-clause-err : goal.returns-in_err-file-clause-err
returns-in_err-file-clause-err g c =
    passed_up c.from_residual.result _ _ c.from_residual.ensures.1
    (whole_unread (SalvageFile c.args.options.now) (λ file. refl) (g.R.Source.remaining c.args.input.now) _ _
    (g.W.Sink.written c.args.out.now) _ (rw c.requires.counts (search rules)) _ c.in_err-file.ensures.reason)

pub returns-in_err-write_parts-clause-err : goal.returns-in_err-write_parts-clause-err
returns-in_err-write_parts-clause-err g c =
    let options = c.args.options.now in
    let file = c.in_ok-file.file.items in
    let both = c.in_ok-output.field-0 in
    let text : IsSalvageFileText options file (said_of both) = rw c.deref.ensures.value at c.in_ok-output.ensures in
    let is : both.output ≡ Some c.in-Some.output = grind (arith, c.in_ok-output.output-is, c.in-Some.is) in
    let some = subst (λ (o : Option (List ℕ)). IsSalvageFileText options file
    (said_of (record { output = o; line = both.line }))) is text in
    passed_up c.from_residual-in_err-write_parts.result _ _ c.from_residual-in_err-write_parts.ensures.1
    (file_stopped (g.R.Source.remaining c.args.input.now) file c.in_ok-file.ensures.whole _ _
    c.in_ok-file.ensures.read options (g.W.Sink.written c.args.out.now) _ _ both.line c.in-Some.output some _
    c.in_err-write_parts.ensures.err)
