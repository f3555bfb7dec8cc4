use Rattle.std.proofs.Common.{◌≡◌, ℕ, ◌<◌, get_or, subst, refl, arith}
use Rattle.std.proofs.lemmas.Grind.{common_steps}
use Rattle.std.specs.Int.{bit_at}
use Rattle.fax_bits.specs.views.Verticals.{AreFew}
use Rattle.fax_bits.specs.declared.verticals.Verticals.{Verticals}
use Rattle.fax_rows.proofs.SeveralLaneLemmas.{raised_four, left_four, right_four, before_four}
use Rattle.fax_rows.proofs.SeveralLaneLemmas.{lane_raised, lane_left, lane_right, lane_first, lane_ascending}
use Rattle.fax_rows.proofs.two_dimensional.vertical_batch.in_lanes.Goals as goal

near : (found : Verticals) → AreFew found → (i : ℕ) → i < 4 → get_or found.biased_offsets i 0 < 7
near found few i h = few.near i 0 (omega (arith, few.lanes, h))

pub less_lanes-requires-clause-lanes : goal.less_lanes-requires-clause-lanes
less_lanes-requires-clause-lanes c = grind (arith, left_four)

pub less_lanes-requires-clause-others : goal.less_lanes-requires-clause-others
less_lanes-requires-clause-others c = grind (arith, raised_four)

pub less_lanes-requires-2-clause-lanes : goal.less_lanes-requires-2-clause-lanes
less_lanes-requires-2-clause-lanes c = grind (arith, raised_four)

pub less_lanes-requires-2-clause-others : goal.less_lanes-requires-2-clause-others
less_lanes-requires-2-clause-others c = grind (arith, right_four)

pub less_lanes-requires-3-clause-lanes : goal.less_lanes-requires-3-clause-lanes
less_lanes-requires-3-clause-lanes c =
    before_four c.args.others.now c.args.found.biased_offsets c.args.b c.args.found.count c.biased_a0.result
    c.requires.some
    c.requires.room
    c.requires.small (near c.args.found c.requires.few) c.requires.few.few c.requires.few.lanes
    (omega (arith, c.biased_a0.ensures.small))

pub less_lanes-requires-3-clause-others : goal.less_lanes-requires-3-clause-others
less_lanes-requires-3-clause-others c = grind (arith, raised_four)

pub returns-clause-raised : goal.returns-clause-raised
returns-clause-raised c =
    lane_raised c.args.others.now c.args.found.biased_offsets c.args.b c.args.found.count c.biased_a0.result
    c.requires.some
    c.requires.room
    c.requires.small (near c.args.found c.requires.few) c.requires.few.few c.requires.few.lanes
    (λ i h. subst (λ n. bit_at n i ≡ 1) c.less_lanes.ensures (c.if-not-fine.ensures.first refl i h))
    (λ i h. subst (λ n. bit_at n i ≡ 1) c.less_lanes-2.ensures (c.if-not-fine.ensures.second refl i h))
    (λ i h. subst (λ n. bit_at n i ≡ 1) c.less_lanes-3.ensures (c.if-not-fine.ensures.third refl i h))

pub returns-clause-left_hand : goal.returns-clause-left_hand
returns-clause-left_hand c =
    lane_left c.args.others.now c.args.found.biased_offsets c.args.b c.args.found.count c.biased_a0.result
    c.requires.some
    c.requires.room
    c.requires.small (near c.args.found c.requires.few) c.requires.few.few c.requires.few.lanes
    (λ i h. subst (λ n. bit_at n i ≡ 1) c.less_lanes.ensures (c.if-not-fine.ensures.first refl i h))
    (λ i h. subst (λ n. bit_at n i ≡ 1) c.less_lanes-2.ensures (c.if-not-fine.ensures.second refl i h))
    (λ i h. subst (λ n. bit_at n i ≡ 1) c.less_lanes-3.ensures (c.if-not-fine.ensures.third refl i h))

pub returns-clause-right : goal.returns-clause-right
returns-clause-right c =
    lane_right c.args.others.now c.args.found.biased_offsets c.args.b c.args.found.count c.biased_a0.result
    c.requires.some
    c.requires.room
    c.requires.small (near c.args.found c.requires.few) c.requires.few.few c.requires.few.lanes
    (λ i h. subst (λ n. bit_at n i ≡ 1) c.less_lanes.ensures (c.if-not-fine.ensures.first refl i h))
    (λ i h. subst (λ n. bit_at n i ≡ 1) c.less_lanes-2.ensures (c.if-not-fine.ensures.second refl i h))
    (λ i h. subst (λ n. bit_at n i ≡ 1) c.less_lanes-3.ensures (c.if-not-fine.ensures.third refl i h))

pub returns-clause-ascending : goal.returns-clause-ascending
returns-clause-ascending c =
    lane_ascending c.args.others.now c.args.found.biased_offsets c.args.b c.args.found.count c.biased_a0.result
    c.requires.some
    c.requires.room
    c.requires.small (near c.args.found c.requires.few) c.requires.few.few c.requires.few.lanes
    (λ i h. subst (λ n. bit_at n i ≡ 1) c.less_lanes.ensures (c.if-not-fine.ensures.first refl i h))
    (λ i h. subst (λ n. bit_at n i ≡ 1) c.less_lanes-2.ensures (c.if-not-fine.ensures.second refl i h))
    (λ i h. subst (λ n. bit_at n i ≡ 1) c.less_lanes-3.ensures (c.if-not-fine.ensures.third refl i h))

pub returns-clause-first : goal.returns-clause-first
returns-clause-first c = grind (
  arith,
  common_steps,
  lane_first,
  near,
  c.biased_a0.ensures.right,
  c.requires.some,
  c.less_lanes.ensures,
)
