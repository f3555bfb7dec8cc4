use Rattle.std.proofs.Common.{◌∙◌, inl, inr, refl}
use Rattle.fax_c.proofs.RefusalLemmas.{refusal}
use Rattle.fax_c.proofs.file_conversion.faxpages_convert.Goals as goal

pub returns-in-Ok : goal.returns-in-Ok
returns-in-Ok c =
    inr (c.in-Some.options, c.in-Some.ensures, inl (c.in-Ok.output, c.in-Ok.ensures.ok, c.put_output.ensures))

pub returns-in-Err : goal.returns-in-Err
returns-in-Err c =
    let options = c.in-Some.options in
    let fault = c.in-Err.fault in
    let status = c.refusal_status.ensures in
    let told = refusal c.args.file.now options fault c.in-Err.ensures.err in
    inr (
      options,
      c.in-Some.ensures,
      inr (elim told [
        | inl (is, why) ↦ inl (status ∙ is, (fault, why, c.refused.ensures), refl)
        | inr (is, none) ↦ inr (status ∙ is, c.refused.ensures ∙ none, refl)
      ]),
    )
