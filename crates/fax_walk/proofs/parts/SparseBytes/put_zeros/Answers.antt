use Rattle.std.proofs.Common.{◌≡◌, ℕ, ◌-◌, List, ◌∷◌, [], ◌++◌, replicate, ap, ◌∙◌, arith, rules}
use Rattle.fax_walk.specs.declared.parts.ZeroRun.{ZeroRun}
use Rattle.fax_walk.proofs.PartsLemmas.{placed_within, more_fit, last_fit, wider, wider_bytes, one_more, one_more_bytes}
use Rattle.fax_walk.proofs.parts.SparseBytes.put_zeros.Goals as goal

pub overflow_sub-held : goal.overflow_sub-held
overflow_sub-held c =
    let within =
    placed_within c.self.inside.gaps.items c.self.inside.held.items c.self.inside.placed c.self.invariant.gaps_are in
    omega (arith, c.len.ensures, within)

pub overflow_add-index_mut : goal.overflow_add-index_mut
overflow_add-index_mut c =
    let fit =
    last_fit _ _ _ _ c.args.zeros c.self.invariant (rw c.self.view_is c.requires.room)
    (rw c.self.view_is c.requires.origin)
    (omega (arith, c.if-held-eq0.true, c.len.ensures)) (c.len-last.result - 1) (omega (arith, c.len-last.ensures))
    c.index_mut.result.now c.index_mut.ensures.value in
    omega (arith, fit)

pub overflow_add-self : goal.overflow_add-self
overflow_add-self c =
    let fit = more_fit _ _ _ _ c.args.zeros c.self.invariant (rw c.self.view_is c.requires.room) in
    omega (arith, fit)

pub invariant_of-self : goal.invariant_of-self
invariant_of-self c =
    wider _ _ _ _ c.args.zeros c.self.invariant (rw c.self.view_is c.requires.room) (rw c.self.view_is
    c.requires.origin)
    (omega (arith, c.if-held-eq0.true, c.len.ensures)) (c.len-last.result - 1) (omega (arith, c.len-last.ensures))
    c.index_mut.result.now c.index_mut.ensures.value

pub returns-then-held-eq0 : goal.returns-then-held-eq0
returns-then-held-eq0 c =
    wider_bytes _ _ _ _ c.args.zeros c.self.invariant (rw c.self.view_is c.requires.room)
    (rw c.self.view_is c.requires.origin)
    (omega (arith, c.if-held-eq0.true, c.len.ensures)) (c.len-last.result - 1) (omega (arith, c.len-last.ensures))
    c.index_mut.result.now c.index_mut.ensures.value
    ∙ ap (λ (l : List ℕ). l ++ replicate c.args.zeros 0) c.self.view_is

pub overflow_add-self-3 : goal.overflow_add-self-3
overflow_add-self-3 c =
    let fit = more_fit _ _ _ _ c.args.zeros c.self.invariant (rw c.self.view_is c.requires.room) in
    omega (arith, fit)

pub invariant_of-self-2 : goal.invariant_of-self-2
invariant_of-self-2 c =
    let after = c.len.result - c.self.inside.placed in
    let within =
    placed_within c.self.inside.gaps.items c.self.inside.held.items c.self.inside.placed c.self.invariant.gaps_are in
    let gap : ZeroRun = record { held = after; zeros = c.args.zeros } in
    let pushed : c.push.new.self.items ≡ c.self.inside.gaps.items ++ gap ∷ [] = search rules in
    rw pushed
    (one_more _ _ _ _ c.args.zeros c.self.invariant (rw c.self.view_is c.requires.room) after (omega
    (arith, c.if-held-eq0.false))
    (omega (arith, c.len.ensures, within)))

pub returns : goal.returns
returns c =
    let after = c.len.result - c.self.inside.placed in
    let within =
    placed_within c.self.inside.gaps.items c.self.inside.held.items c.self.inside.placed c.self.invariant.gaps_are in
    let gap : ZeroRun = record { held = after; zeros = c.args.zeros } in
    let pushed : c.push.new.self.items ≡ c.self.inside.gaps.items ++ gap ∷ [] = search rules in
    rw pushed
    (one_more_bytes _ _ _ _ c.args.zeros c.self.invariant (rw c.self.view_is c.requires.room) after (omega
    (arith, c.if-held-eq0.false))
    (omega (arith, c.len.ensures, within))
    ∙ ap (λ (l : List ℕ). l ++ replicate c.args.zeros 0) c.self.view_is)
