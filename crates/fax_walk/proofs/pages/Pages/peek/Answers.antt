use Rattle.std.proofs.Common.{refl}
use Rattle.fax_walk.specs.code.Pages.{final_end_of}
use Rattle.fax_walk.proofs.PagesLemmas.{ends_later}
use Rattle.fax_walk.proofs.pages.Pages.peek.Goals as goal

pub returns-in-After-clause-err : goal.returns-in-After-clause-err
returns-in-After-clause-err c =
    let sound = rw c.in-After.is at c.self.invariant.come in
    let after = rw c.fork.ensures at c.page_after.ensures.err in
    rw (← c.self.view_is)
    (ends_later c.self.inside.file.now c.self.inside.origin c.self.inside.yielded (final_end_of c.self.inside.stage)
    c.in-After.chain c.page_after.result (rw c.in-After.is refl) sound after)
