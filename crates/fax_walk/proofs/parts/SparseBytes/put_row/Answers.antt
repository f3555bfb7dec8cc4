use Rattle.std.proofs.Common.{◌≡◌, ℕ, List, ◌++◌, length, ap, arith, length-append, subst}
use Rattle.std.specs.Prelude.{OnOk}
use Rattle.fax_walk.specs.code.SparseBytes.{spread}
use Rattle.std.proofs.lemmas.Grind.{common_steps}
use Rattle.fax_rows.specs.Coded.{packed_row}
use Rattle.fax_walk.proofs.PartsLemmas.{spread_length, held_put, put_bytes}
use Rattle.fax_walk.proofs.parts.SparseBytes.put_row.Goals as goal

pub put_zeros-requires-clause-origin : goal.put_zeros-requires-clause-origin
put_zeros-requires-clause-origin c =
    let all =
    spread_length c.self.inside.gaps.items c.self.inside.held.items c.self.inside.placed c.self.invariant.gaps_are in
    grind (arith, common_steps, all, ap length c.self.view_is, c.is_empty.ensures, c.if-not-is_empty.true)

pub invariant_of-self : goal.invariant_of-self
invariant_of-self c =
    let all =
    spread_length c.self-2.inside.gaps.items c.self-2.inside.held.items c.self-2.inside.placed
    c.self-2.invariant.gaps_are in
    let more = length-append c.self-2.inside.held.items (packed_row c.args.row.now) in
    let count = c.packing_undoes_unpacking.ensures.packed_count c.args.row.now in
    held_put _ _ _ _ c.self-2.invariant c.put_pbm_row.result _ _ c.put_pbm_row.ensures.ok c.put_pbm_row.ensures.err
    (omega (arith, all, more, count, c.self-2.invariant.zeros_are, ap length c.self-2.view_is, c.requires))

pub returns : goal.returns
returns c =
    let row = packed_row c.args.row.now in
    subst (λ (l : List ℕ). OnOk c.put_pbm_row.result
    (spread c.self-2.inside.gaps.items c.put_pbm_row.new.out.items ≡ l ++ row)) c.self-2.view_is
    (put_bytes _ _ _ _ c.self-2.invariant c.put_pbm_row.result _ row c.put_pbm_row.ensures.ok)
