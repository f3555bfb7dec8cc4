use Rattle.std.proofs.Common.{refl, arith, inr}
use Rattle.fax_c.proofs.StripLemmas.{upcoming_told}
use Rattle.fax_c.proofs.strip_rows.tell_upcoming.Goals as goal

pub returns : goal.returns
returns c =
    let state = c.args.reader.now in
    let put = rw c.reference.ensures.pels at c.put_all_runs-its.ensures in
    let width = rw c.reference.ensures.pels at c.reference.ensures.width in
    let told = upcoming_told state.form.width state.reference state.row state.place c.put_all_runs-its.result
    c.args.place.now.page c.args.runs.now c.put_all_runs-its.new.out width put in
    rw (c.row.ensures.row, c.bit_place.ensures.place) (inr (
      omega (arith, c.if-count-eq0.false),
      told.0,
      told.1,
      refl,
      told.2,
    ))
