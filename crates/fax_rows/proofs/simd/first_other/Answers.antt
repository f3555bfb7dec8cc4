use Rattle.std.proofs.Common.{◌<◌, ◌+◌, ◌*◌, ◌/◌, ◌%◌, sym, ◌∙◌, arith, length, get_or}
use Rattle.fax_rows.specs.code.FirstOther.{first_other_in_byte}
use Rattle.fax_rows.proofs.FirstOtherLemmas.{first_other_is, plain_in_byte, other_in_byte, plain_before, plain_on}
use Rattle.fax_rows.proofs.FirstOtherLemmas.{found_in_byte}
use Rattle.fax_rows.proofs.FirstOtherLemmas.{in_byte-ge}
use Rattle.fax_rows.proofs.simd.first_other.Goals as goal

pub returns-then-at-bytes : goal.returns-then-at-bytes
returns-then-at-bytes c = grind (arith, first_other_is)

pub returns-then-here-lt8 : goal.returns-then-here-lt8
returns-then-here-lt8 c =
    let bytes = c.args.bytes.now in
    let inside : c.args.from / 8 < length bytes = omega (arith, c.requires.within, c.if-at-bytes.false) in
    let below : c.args.from % 8 < 8 = omega arith in
    let found = c.first_other_in_byte-here.ensures in
    first_other_is bytes c.args.from (8 * (c.args.from / 8) + c.from.result) c.args.colour
    (omega (
      arith,
      in_byte-ge (get_or bytes (c.args.from / 8) 0) (c.args.from % 8) c.args.colour,
      found,
      c.from.ensures,
    ))
    (omega (arith, c.from.ensures, c.if-here-lt8.true))
    (λ k l h. plain_in_byte c.bits_stand_by_index.ensures bytes c.args.colour (c.args.from / 8) (c.args.from % 8)
    c.first_other_in_byte-here.result
    inside below (omega (arith, found)) k (omega arith) (omega (arith, c.from.ensures)))
    (λ h. other_in_byte c.bits_stand_by_index.ensures bytes c.args.colour (c.args.from / 8) (c.args.from % 8)
    c.first_other_in_byte-here.result
    (8 * (c.args.from / 8) + c.from.result) inside below found c.if-here-lt8.true (omega (arith, c.from.ensures)))

pub returns-then-after-bytes : goal.returns-then-after-bytes
returns-then-after-bytes c =
    let bytes = c.args.bytes.now in
    let inside : c.args.from / 8 < length bytes = omega (arith, c.requires.within, c.if-at-bytes.false) in
    let first = c.first_other_byte-after.ensures in
    first_other_is bytes c.args.from (8 * c.first_other_byte-after.result) c.args.colour (omega (arith, first.right))
    (omega (arith, first.within))
    (plain_before c.bits_stand_by_index.ensures bytes c.args.colour c.args.from c.first_other_in_byte-here.result
    c.plain_byte.result
    c.first_other_byte-after.result inside c.first_other_in_byte-here.ensures c.if-here-lt8.false c.plain_byte.ensures
    first)
    (λ h. absurd (omega (arith, c.if-after-bytes.true)))

pub returns : goal.returns
returns c =
    let bytes = c.args.bytes.now in
    let law = c.bits_stand_by_index.ensures in
    let inside : c.args.from / 8 < length bytes = omega (arith, c.requires.within, c.if-at-bytes.false) in
    let first = c.first_other_byte-after.ensures in
    let after = c.first_other_byte-after.result in
    let within : after < length bytes = omega (arith, first.within, c.if-after-bytes.false) in
    let near : first_other_in_byte (get_or bytes after 0) 0 c.args.colour < 8 =
    found_in_byte (get_or bytes after 0) c.args.colour (c.type_inv.bytes after).fits
    (λ same. first.other within (same ∙ sym c.plain_byte.ensures)) in
    let found = c.first_other_in_byte.ensures in
    first_other_is bytes c.args.from (8 * after + c.from-2.result) c.args.colour (omega (arith, first.right))
    (omega (arith, within, near, found, c.from-2.ensures))
    (plain_on bytes c.args.colour c.args.from (8 * after) (8 * after + c.from-2.result)
    (plain_before law bytes c.args.colour c.args.from c.first_other_in_byte-here.result c.plain_byte.result after inside
    c.first_other_in_byte-here.ensures c.if-here-lt8.false c.plain_byte.ensures first)
    (λ k l h. plain_in_byte law bytes c.args.colour after 0 c.first_other_in_byte.result within (omega arith)
    (omega (arith, found)) k
    (omega arith) (omega (arith, c.from-2.ensures))))
    (λ h. other_in_byte law bytes c.args.colour after 0 c.first_other_in_byte.result (8 * after + c.from-2.result)
    within (omega arith)
    found
    (omega (arith, near, found)) (omega (arith, c.from-2.ensures)))
