use Rattle.std.proofs.Common.{refl}
use Rattle.std.proofs.lemmas.Result.{IfOk-weaker}
use Rattle.fax_walk.proofs.PageCheckLemmas.{refused_page, formed_page}
use Rattle.fax_walk.proofs.checking.check_page.Goals as goal

pub returns-in-Err : goal.returns-in-Err
returns-in-Err c = refused_page _ _ _ _ _ _ c.requires refl c.in-Err.ensures.fault

pub check_strips-requires-clause-here : goal.check_strips-requires-clause-here
check_strips-requires-clause-here c = rw c.in-Ok.ensures.directory c.requires

pub returns : goal.returns
returns c =
    let form_is = c.in-Ok.ensures.form in
    IfOk-weaker c.check_strips.result _ _
    (λ read is. formed_page c.args.with_received _ _ _ c.in-Ok.ensures.limits form_is c.requires _ _ _ read
    c.in_ok-note_directory.ensures (is c.args.with_received))
    (rw c.in-Ok.ensures.directory at c.check_strips.ensures)
