use Rattle.std.proofs.Common.{inl}
use Rattle.fax_c.proofs.strip_report.check_uncounted.Goals as goal

pub returns-in-Ok-uncounted_notes : goal.returns-in-Ok-uncounted_notes
returns-in-Ok-uncounted_notes c =
    inl (
      c.in-Some.form,
      c.in-Some.ensures,
      inl (
        c.in-Ok-uncounted_notes.found,
        c.in-Ok-uncounted_notes.ensures.ok,
        c.found.ensures,
        c.end_status.ensures,
      ),
    )
