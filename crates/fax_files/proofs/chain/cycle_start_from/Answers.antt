use Rattle.std.proofs.Common.{arith}
use Rattle.fax_files.proofs.LoopLemmas.{is_turning_page, turning_below}
use Rattle.fax_files.proofs.chain.cycle_start_from.Goals as goal

pub overflow_cast-result : goal.overflow_cast-result
overflow_cast-result c =
    let below = turning_below c.args.tiff.now c.lemma_few_pages.ensures _ _ _ c.cycle_from-round.ensures
    c.cycle_start-page.ensures.turn in
    omega (arith, below)

pub returns : goal.returns
returns c = is_turning_page c.args.tiff.now _ _ _ c.cycle_from-round.ensures c.cycle_start-page.ensures.turn
