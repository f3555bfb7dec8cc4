use Rattle.std.proofs.Common.{◌≤◌, ◌+◌, ℕ, ap, sym, ◌∙◌, arith, not, nat_eq, length}
use mir.Syntax.{w8}
use lib.Count.{count_trailing_zeros}
use Rattle.std.proofs.lemmas.Simd.{length-chunk, bitmask_splat}
use Rattle.fax_rows.proofs.FirstOtherLemmas.{found_in_lanes, sixteen_more}
use Rattle.fax_rows.proofs.simd.first_other_byte.Goals as goal

pub returns-then-others-ne0 : goal.returns-then-others-ne0
returns-then-others-ne0 c =
    let bytes = c.args.bytes.now in
    let room : c.loop-at.at + 16 ≤ length bytes = omega arith in
    let mask = bitmask_splat w8 (λ (a b : ℕ). not (nat_eq a b)) _ 16 c.args.plain
    (length-chunk c.loop-at.at 16 bytes room) (omega arith) in
    found_in_lanes bytes c.args.from c.loop-at.at c.args.plain c.loop-at.invariant.right room c.loop-at.invariant.same _
    (omega (arith, mask)) (ap (count_trailing_zeros 64) mask)

pub loop-at-preserved : goal.loop-at-preserved
loop-at-preserved c =
    let bytes = c.args.bytes.now in
    let room : c.loop-at.at + 16 ≤ length bytes = omega arith in
    let mask = bitmask_splat w8 (λ (a b : ℕ). not (nat_eq a b)) _ 16 c.args.plain
    (length-chunk c.loop-at.at 16 bytes room) (omega arith) in
    record {
      right = omega (arith, c.loop-at.invariant.right);
      within = room;
      same = sixteen_more bytes c.args.from c.loop-at.at c.args.plain c.loop-at.invariant.right room
          c.loop-at.invariant.same
          (sym mask ∙ c.if-others-ne0.false);
    }
