use Rattle.std.proofs.Common.{◌≡◌, sym, ◌∙◌, arith}
use Rattle.std.proofs.lemmas.Fmt.{parse-decimal}
use Rattle.std.specs.Cmp.Lexicographic.{other_text}
use Rattle.fax_walk.proofs.cursor.number.Goals as goal

pub returns-in_default-clause-err : goal.returns-in_default-clause-err
returns-in_default-clause-err c number small is =
    c.in_default.not-Ok number (parse-decimal 32 number c.args.digits.now c.parse.result small (omega arith) is
    c.parse.ensures.value.0)

pub returns-else-eq-clause-err : goal.returns-else-eq-clause-err
returns-else-eq-clause-err c number small is =
    let parsed = parse-decimal 32 number c.args.digits.now c.parse.result small (omega arith) is c.parse.ensures.value.0
    in
    let same : c.in-Ok.number ≡ number = cc in
    other_text c.format.result.now c.args.digits.now c.if-eq.ensures (rw same at c.format.ensures.text ∙ sym is)
