use Rattle.std.proofs.Common.{◌≡◌, ℕ, List, ◌++◌, length, ap, arith, length-append, subst}
use Rattle.std.specs.Prelude.{OnOk}
use Rattle.fax_files.specs.views.Pbm.{head_bytes}
use Rattle.fax_walk.specs.code.SparseBytes.{spread}
use Rattle.fax_walk.proofs.PartsLemmas.{spread_length, held_put, put_bytes, head_short}
use Rattle.fax_walk.proofs.parts.SparseBytes.put_head.Goals as goal

pub invariant_of-self : goal.invariant_of-self
invariant_of-self c =
    let all =
    spread_length c.self.inside.gaps.items c.self.inside.held.items c.self.inside.placed c.self.invariant.gaps_are in
    let more = length-append c.self.inside.held.items (head_bytes c.args.width c.args.rows) in
    let short =
    head_short c.args.width c.args.rows (omega (arith, c.ranges.width.fits)) (omega (arith, c.ranges.rows.fits)) in
    held_put _ _ _ _ c.self.invariant c.put_pbm_head.result _ _ c.put_pbm_head.ensures.ok c.put_pbm_head.ensures.err
    (omega (arith, all, more, short, c.self.invariant.zeros_are, ap length c.self.view_is, c.requires))

pub returns : goal.returns
returns c =
    let head = head_bytes c.args.width c.args.rows in
    subst (λ (l : List ℕ). OnOk c.put_pbm_head.result
    (spread c.self.inside.gaps.items c.put_pbm_head.new.out.items ≡ l ++ head)) c.self.view_is
    (put_bytes _ _ _ _ c.self.invariant c.put_pbm_head.result _ head c.put_pbm_head.ensures.ok)
