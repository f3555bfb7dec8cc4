use Rattle.fax_page.proofs.LineFaultLemmas.{in_codes}
use Rattle.fax_page.proofs.lines.line_fault.Goals as goal

pub returns-in-Ok : goal.returns-in-Ok
returns-in-Ok c reference stopped =
    in_codes c.args.form c.args.i reference c.args.start.remaining c.in-Codes.cause (rw c.in-Codes.is at stopped) _ _
    c.in-Ok.ensures.read
    c.stop.result c.stop.ensures
