use Rattle.std.proofs.Common.{arith, sym, subst}
use Rattle.fax_bits.specs.views.Source.{Source}
use Rattle.fax_page.specs.code.Notes.{AreEolsTaken}
use Rattle.fax_page.proofs.EndLemmas.{none_taken, one_taken, one_missing, all_taken}
use Rattle.fax_page.proofs.notes.after_return_to_control.Goals as goal

pub loop-eol-init : goal.loop-eol-init
loop-eol-init c =
    subst (λ (s : Source). AreEolsTaken c.args.coding c.args.source.now.remaining 0 s.remaining) (sym
    c.fork-ahead.ensures)
    (none_taken c.args.coding c.args.source.now.remaining)

pub returns-then-not-skip_return_eol : goal.returns-then-not-skip_return_eol
returns-then-not-skip_return_eol c =
    one_missing _ _ _ _ c.loop-eol.invariant c.loop-eol-test.true c.if-not-skip_return_eol.ensures

pub loop-eol-preserved : goal.loop-eol-preserved
loop-eol-preserved c = one_taken _ _ _ _ c.loop-eol.invariant _ c.if-not-skip_return_eol.ensures

pub returns : goal.returns
returns c = all_taken _ _ _ _ c.loop-eol.invariant (omega arith)
