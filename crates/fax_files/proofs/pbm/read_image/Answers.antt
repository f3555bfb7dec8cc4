use Rattle.std.proofs.Common.{ℕ, ◌-◌, ◌*◌, List, length, take, drop, sym, ap, subst, ◌∙◌, arith}
use Rattle.fax_files.specs.Pbm.{IsHead}
use Rattle.fax_files.specs.code.Pbm.{IsHeadRead}
use Rattle.fax_files.proofs.PbmHeadLemmas.{no_head, exact_head, head_outside, image_read, take_both, length-take_of}
use Rattle.fax_files.proofs.pbm.read_image.Goals as goal

pub returns-in_default-clause-err : goal.returns-in_default-clause-err
returns-in_default-clause-err c = no_head c.args.bytes.now c.in_default.ensures.none

pub returns-then-not-is_within_limits-clause-err :
    goal.returns-then-not-is_within_limits-clause-err
returns-then-not-is_within_limits-clause-err c =
    let head = c.in-Some.head in
    head_outside c.args.bytes.now head.width head.height head.after.now c.in-Some.ensures.some
    (sym c.is_within_limits.ensures ∙ c.if-not-is_within_limits.true)

pub returns-then-head-len-clause-err : goal.returns-then-head-len-clause-err
returns-then-head-len-clause-err c =
    let head = c.in-Some.head in
    let within = sym c.is_within_limits.ensures ∙ c.if-not-is_within_limits.false in
    let all = ap (λ n. head.height * n) c.row_len.ensures in (
      head.width,
      head.height,
      head.after.now,
      exact_head c.args.bytes.now head.width head.height head.after.now c.in-Some.ensures.some within,
      within,
      omega (arith, c.if-head-len.true, c.saturating_mul-len.ensures, all),
    )

pub returns-clause-ok : goal.returns-clause-ok
returns-clause-ok c =
    let head = c.in-Some.head in
    let within = sym c.is_within_limits.ensures ∙ c.if-not-is_within_limits.false in
    let len = c.saturating_mul-len.result in
    let after = head.after.now in
    let raster = take len after in
    let rest = take (length after - len) (drop len after) in
    image_read c.args.bytes.now head.width head.height raster rest
    (subst (λ (l : List ℕ). IsHeadRead c.args.bytes.now head.width head.height l) (take_both after len)
    c.in-Some.ensures.some)
    within
    (length-take_of after len c.if-head-len.false
    ∙ grind (arith, c.if-head-len.false, c.saturating_mul-len.ensures, ap (λ n. head.height * n) c.row_len.ensures))

pub returns-clause-raster : goal.returns-clause-raster
returns-clause-raster c =
    let head = c.in-Some.head in
    let within = sym c.is_within_limits.ensures ∙ c.if-not-is_within_limits.false in
    subst (λ (l : List ℕ). IsHead c.args.bytes.now head.width head.height l)
    (take_both head.after.now c.saturating_mul-len.result)
    (exact_head c.args.bytes.now head.width head.height head.after.now c.in-Some.ensures.some within)
