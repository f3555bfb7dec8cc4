use Rattle.std.proofs.Common.{◌≡◌, ℕ, ◌*◌, List, ◌++◌, length, replicate, ap, arith, length-append, subst}
use Rattle.std.proofs.lemmas.Grind.{common_steps}
use Rattle.std.proofs.lemmas.List.{length-replicate}
use Rattle.std.specs.Prelude.{OnOk}
use Rattle.fax_rows.specs.Coded.{packed_len}
use Rattle.fax_walk.specs.code.SparseBytes.{spread}
use Rattle.fax_walk.proofs.PartsLemmas.{spread_length, held_put, put_bytes, white_zeros}
use Rattle.fax_walk.proofs.parts.SparseBytes.put_white_rows.Goals as goal

pub put_zeros-requires-clause-origin : goal.put_zeros-requires-clause-origin
put_zeros-requires-clause-origin c =
    let all =
    spread_length c.self.inside.gaps.items c.self.inside.held.items c.self.inside.placed c.self.invariant.gaps_are in
    grind (arith, common_steps, all, ap length c.self.view_is, c.is_empty.ensures, c.if-not-is_empty.true)

pub returns-then-not-is_empty : goal.returns-then-not-is_empty
returns-then-not-is_empty c =
    let zeros = c.args.count * c.div_ceil.result in
    let len : c.div_ceil.result ≡ packed_len c.args.width = omega (arith, c.div_ceil.ensures) in
    rw (white_zeros c.white_rows_are_written.ensures c.args.width c.args.count zeros (ap (λ n. c.args.count * n) len))
    c.put_zeros.ensures

pub push_zeros-requires : goal.push_zeros-requires
push_zeros-requires c =
    let len : c.div_ceil.result ≡ packed_len c.args.width = omega (arith, c.div_ceil.ensures) in
    let all =
    spread_length c.self-2.inside.gaps.items c.self-2.inside.held.items c.self-2.inside.placed
    c.self-2.invariant.gaps_are in
    omega (arith, all, ap (λ n. c.args.count * n) len, ap length c.self-2.view_is, c.requires)

pub invariant_of-self : goal.invariant_of-self
invariant_of-self c =
    let zeros = c.args.count * c.div_ceil.result in
    let len : c.div_ceil.result ≡ packed_len c.args.width = omega (arith, c.div_ceil.ensures) in
    let all =
    spread_length c.self-2.inside.gaps.items c.self-2.inside.held.items c.self-2.inside.placed
    c.self-2.invariant.gaps_are in
    let more = length-append c.self-2.inside.held.items (replicate zeros 0) in
    let count = length-replicate {A = ℕ} zeros 0 in
    held_put _ _ _ _ c.self-2.invariant c.push_zeros.result _ _ c.push_zeros.ensures.ok c.push_zeros.ensures.err
    (omega (
      arith,
      all,
      more,
      count,
      ap (λ n. c.args.count * n) len,
      c.self-2.invariant.zeros_are,
      ap length c.self-2.view_is,
      c.requires,
    ))

pub returns : goal.returns
returns c =
    let zeros = c.args.count * c.div_ceil.result in
    let len : c.div_ceil.result ≡ packed_len c.args.width = omega (arith, c.div_ceil.ensures) in
    rw (white_zeros c.white_rows_are_written.ensures c.args.width c.args.count zeros (ap (λ n. c.args.count * n) len))
    (subst (λ (l : List ℕ). OnOk c.push_zeros.result
    (spread c.self-2.inside.gaps.items c.push_zeros.new.bytes.items ≡ l ++ replicate zeros 0)) c.self-2.view_is
    (put_bytes _ _ _ _ c.self-2.invariant c.push_zeros.result _ (replicate zeros 0) c.push_zeros.ensures.ok))
