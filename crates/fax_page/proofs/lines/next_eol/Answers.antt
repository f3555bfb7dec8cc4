use Rattle.fax_page.proofs.SalvageLemmas.{after_own, after_place, after_end, none_in_mmr}
use Rattle.fax_page.proofs.lines.next_eol.Goals as goal

pub returns-in-Mmr : goal.returns-in-Mmr
returns-in-Mmr c = none_in_mmr _ _ c.args.start c.in-Mmr.is

pub returns-in-Ok : goal.returns-in-Ok
returns-in-Ok c =
    after_own _ _ c.args.start _ _ _ c.in_default.not-Mmr (rw c.fork-from.ensures at c.in-Ok.ensures.read)
    (rw c.fork-from.ensures at c.in-Ok.ensures.same_end) c.first_eol.ensures

pub returns-in-MissingEol : goal.returns-in-MissingEol
returns-in-MissingEol c =
    after_place _ _ c.args.start _ c.in_default.not-Mmr
    (rw (c.fork-from.ensures, c.in-MissingEol.is) at c.in-Err.ensures.read) c.first_eol-in-MissingEol.ensures

pub returns-in_default-fault : goal.returns-in_default-fault
returns-in_default-fault c =
    after_end _ _ c.args.start _ c.in_default-fault.not-MissingEol (rw c.fork-from.ensures at c.in-Err.ensures.read)
