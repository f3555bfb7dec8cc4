use Rattle.fax_page.proofs.SalvageLemmas.{eol_found, passed_on, none_left, skips_on}
use Rattle.fax_page.proofs.lines.first_eol.Goals as goal

pub returns-in_err-zeros : goal.returns-in_err-zeros
returns-in_err-zeros c =
    let passed = skips_on _ _ _ c.loop-zeros.invariant c.skip_short_zeros.ensures in
    rw (c.from_residual.ensures) (none_left _ _ passed c.in_err-zeros.ensures)

pub returns-then-zeros-ge-EOL_ZEROS : goal.returns-then-zeros-ge-EOL_ZEROS
returns-then-zeros-ge-EOL_ZEROS c =
    let passed = skips_on _ _ _ c.loop-zeros.invariant c.skip_short_zeros.ensures in
    eol_found _ _ _ passed c.in_ok-zeros.ensures _ _ c.if-zeros-ge-EOL_ZEROS.true c.skip.ensures c.place.ensures

pub loop-zeros-preserved : goal.loop-zeros-preserved
loop-zeros-preserved c =
    let passed = skips_on _ _ _ c.loop-zeros.invariant c.skip_short_zeros.ensures in
    passed_on _ _ _ passed c.in_ok-zeros.ensures _ c.if-zeros-ge-EOL_ZEROS.false c.skip.ensures
