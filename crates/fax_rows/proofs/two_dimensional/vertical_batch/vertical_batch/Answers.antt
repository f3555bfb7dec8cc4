use Rattle.std.proofs.Common.{◌≡◌, ◌+◌, ◌∙◌, sym, ap, get_or, length, arith}
use Rattle.std.proofs.lemmas.List.{get_or-take, length-take-le}
use Rattle.fax_bits.specs.views.Verticals.{biased_offsets_of}
use Rattle.fax_rows.specs.Rows.{is_right_of}
use Rattle.fax_rows.proofs.PlacedB1Lemmas.{b1_at_most}
use Rattle.fax_rows.proofs.PlacedRowLemmas.{end_within}
use Rattle.fax_rows.proofs.SeveralLemmas.{several_on, fine_from}
use Rattle.fax_rows.proofs.two_dimensional.vertical_batch.vertical_batch.Goals as goal

pub in_lanes-requires-clause-room : goal.in_lanes-requires-clause-room
in_lanes-requires-clause-room g c =
    let reference = c.args.reference in
    omega (arith, end_within reference.elements, reference.elements.room, c.if-at-reference.false)

pub in_lanes-requires-clause-small : goal.in_lanes-requires-clause-small
in_lanes-requires-clause-small g c = grind (arith, b1_at_most)

pub returns-clause-read : goal.returns-clause-read
returns-clause-read g c =
    let reference = c.args.reference in
    let at = c.args.at in
    let found = c.in-Some.found in
    let read = rw c.fork-ahead.ensures at c.in-Some.ensures.read in
    let few = read.few in
    let lanes = c.in_ok-lanes.ensures in
    let new = c.put_four.new.changes in
    let put = c.put_four.ensures in
    let long : length (biased_offsets_of found) ≡ found.count = length-take-le found.count found.biased_offsets
    (omega (arith, few.few, few.lanes)) in
    let some = (c.requires.inside.so_far.b1 c.requires.inside.unfinished).some in
    rw c.advance_to-2.ensures (several_on reference c.args.changes.now new at (biased_offsets_of found) found.count
    c.colour_after.result
    c.args.source.now.remaining _ read.spelled long few.some c.requires.inside
    (omega (arith, c.if-at-reference.false, few.few))
    put.same_len put.kept
    (fine_from reference.changes.now new (biased_offsets_of found) at.position.a0 at.end at.b1 some
    (λ i h. omega (
      arith,
      lanes.raised i (omega (arith, long)),
      put.put i (omega (arith, long, few.few)),
      get_or-take found.count found.biased_offsets i 0 (omega (arith, long)),
    ))
    (λ i h. omega (arith, lanes.left_hand i (omega (arith, long)), put.put i (omega (arith, long, few.few))))
    (λ i h. omega (arith, lanes.right i (omega (arith, long)), put.put i (omega (arith, long, few.few))))
    (λ h.
    let e : at.end + 0 ≡ at.end = omega arith in
    ap (is_right_of at.position.a0) (sym (ap (λ m. get_or new m 0) e) ∙ put.put 0 (omega arith)) ∙ lanes.first)
    (λ i h. omega (
      arith,
      lanes.ascending i (omega (arith, long)),
      put.put i (omega (arith, long, few.few)),
      put.put (i + 1) (omega (arith, long, few.few)),
    )))
    c.colour_after.ensures)
