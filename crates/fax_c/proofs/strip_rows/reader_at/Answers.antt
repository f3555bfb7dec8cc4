use Rattle.std.proofs.Common.{refl, inl, inr}
use Rattle.fax_c.proofs.StripLemmas.{not_started, refused_at}
use Rattle.fax_c.proofs.strip_rows.reader_at.Goals as goal

pub returns-in-Err-Memory : goal.returns-in-Err-Memory
returns-in-Err-Memory c =
    let refused = rw c.in-Err-Memory.field-0-is at c.in-Err-Memory.ensures in
    let there = refused_at c.args.form c.args.strip.now c.args.place.now c.args.runs.now c.in-Some.before
    c.requires.upcoming c.in-Some.ensures refused in
    inl (refl, there.0, there.1)

pub returns-in-Err-Outside : goal.returns-in-Err-Outside
returns-in-Err-Outside c =
    let none = rw c.in-Err-Outside.field-0-is at c.in-Err-Outside.ensures in
    inr (
      refl,
      not_started c.args.form c.args.strip.now c.args.place.now c.args.runs.now c.in-Some.before
          c.in-Some.ensures none,
    )
