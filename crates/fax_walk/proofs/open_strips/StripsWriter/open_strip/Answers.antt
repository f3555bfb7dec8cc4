use Rattle.std.proofs.Common.{refl, ap}
use Rattle.std.proofs.lemmas.Result.{on_ok_weaker}
use Rattle.fax_walk.specs.code.StripsWriter.{with_writer}
use Rattle.fax_walk.proofs.OpenStripsLemmas.{ready_new, ready_started}
use Rattle.fax_walk.proofs.open_strips.StripsWriter.open_strip.Goals as goal

pub returns-in-Some : goal.returns-in-Some
returns-in-Some c = λ form k rows put upcoming.
    let old = c.args.self.now in (
      _,
      ap (with_writer old old.rows) c.in-Some.is,
      ready_started c.strips_are_written_row_by_row.ensures form k rows old put upcoming _ c.in-Some.is,
    )

pub returns : goal.returns
returns c = on_ok_weaker c.begin_strip.result (λ begins form k rows put upcoming. (
  _,
  rw (c.strip_form-form.ensures.exact, c.requires.number) at begins,
  ready_new c.strips_are_written_row_by_row.ensures form k rows c.args.self.now put upcoming _ c.in_default.is refl,
))
    c.begin_strip.ensures
