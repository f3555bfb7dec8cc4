use Rattle.std.proofs.Common.{rules}
use Prim.{search}
use Rattle.fax_rows.proofs.ReadOnLemmas.{pass_read}
use Rattle.fax_rows.proofs.two_dimensional.modes.by_mode.Goals as goal

pub returns-in_ok-vertical-in-Vertical-clause-read : goal.returns-in_ok-vertical-in-Vertical-clause-read
returns-in_ok-vertical-in-Vertical-clause-read g c b taken =
    c.in_ok-vertical-in-Vertical.ensures.read b (search (rules, taken))

pub returns-in_ok-pass-in-Pass-clause-read : goal.returns-in_ok-pass-in-Pass-clause-read
returns-in_ok-pass-in-Pass-clause-read g c b taken =
    let next = c.in_ok-pass-in-Pass.ensures in
    pass_read c.requires.inside (rw c.in-Pass.is at taken) next.ok next.so_far next.inside
