use Rattle.std.proofs.Common.{◌%◌, ◌^◌, map, ltb, ap, ◌∙◌, arith, w32}
use lib.Lanes.{zip2, mask_l, top}
use Rattle.std.proofs.lemmas.Simd.{tops_compared, length-zip2, mask_l-mod}
use Rattle.fax_rows.proofs.SignedLaneLemmas.{all_compared}
use Rattle.fax_rows.proofs.two_dimensional.vertical_batch.less_lanes.Goals as goal

pub returns : goal.returns
returns c =
    let a = c.args.lanes in
    let b = c.args.others in
    let long = length-zip2 ltb a b (omega (arith, c.requires.lanes.length, c.requires.others.length)) in
    ap (λ ms. mask_l (map (top 31) ms) % 2 ^ 64) (all_compared a b
    (λ i h. c.requires.lanes.small i (omega (arith, h, c.requires.lanes.length)))
    (λ i h. c.requires.others.small i (omega (arith, h, c.requires.others.length))))
    ∙ ap (λ ms. mask_l ms % 2 ^ 64) (tops_compared w32 ltb a b)
    ∙ mask_l-mod (zip2 ltb a b) 64 (omega (arith, long, c.requires.lanes.length))
