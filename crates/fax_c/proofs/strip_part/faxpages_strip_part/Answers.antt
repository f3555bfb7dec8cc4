use Rattle.std.proofs.Common.{refl}
use Rattle.fax_c.proofs.PartLemmas.{settled, waits}
use Rattle.fax_c.proofs.strip_part.faxpages_strip_part.Goals as goal

pub returns-then-may_go_on : goal.returns-then-may_go_on
returns-then-may_go_on c =
    waits c.rows_stay_whatever_follows.ensures c.ends_stay_whatever_follows.ensures c.bits_stand_by_index.ensures _
    c.in-Some.its _ c.read_strip-filled.result _ c.end_at-end.result c.args.told.now _ _ c.in-Some.ensures.form
    c.if-runs-lt-MOST_RUNS.false c.read_strip-filled.ensures c.end_at-end.ensures
    (c.if-may_go_on.ensures.changes refl) c.tell_more.ensures

pub returns : goal.returns
returns c =
    settled c.rows_stay_whatever_follows.ensures c.ends_stay_whatever_follows.ensures c.bits_stand_by_index.ensures _
    c.in-Some.its _ c.read_strip-filled.result _ c.end_at-end.result c.args.told.now _ _ c.in-Some.ensures.form
    c.if-runs-lt-MOST_RUNS.false c.read_strip-filled.ensures c.end_at-end.ensures
    (c.if-may_go_on.ensures.stays refl) c.tell_read.ensures
