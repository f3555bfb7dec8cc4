use Rattle.std.proofs.Common.{refl}
use Rattle.fax_bits.specs.Bits.{bits}
use Rattle.fax_page.specs.Uncounted.{uncounted}
use Rattle.fax_walk.specs.views.SalvagedRows.{of_uncounted}
use Rattle.fax_c.proofs.SalvagedLemmas.{uncounted_no_room, uncounted_written}
use Rattle.fax_c.proofs.salvaged_raster.salvage_uncounted.Goals as goal

pub returns-then-not-holds_rows : goal.returns-then-not-holds_rows
returns-then-not-holds_rows c =
    uncounted_no_room c.in-Ok.ensures (c.if-not-holds_rows.ensures.none refl) c.nothing-then-not-holds_rows.ensures
    c.fill_result-then-not-holds_rows.ensures

pub returns : goal.returns
returns c =
    let b = bits c.args.form.order c.args.strip.now in
    uncounted_written c.in-Ok.ensures (c.rows_are_left_in_one_way.ensures.one (of_uncounted (uncounted c.args.form) b))
    (c.if-not-holds_rows.ensures.some refl) c.fill_left-filled.ensures c.tell_left.ensures
