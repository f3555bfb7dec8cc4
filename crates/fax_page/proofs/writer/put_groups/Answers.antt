use Rattle.std.proofs.Common.{◌≡◌, ◌*◌, length, arith}
use Rattle.fax_page.specs.Lines.{white_row}
use Rattle.fax_page.proofs.WhiteLineLemmas.{no_lines}
use Rattle.fax_page.proofs.WhiteGroupLemmas.{group_more}
use Rattle.fax_page.proofs.writer.put_groups.Goals as goal

pub loop-init : goal.loop-init
loop-init c =
    let none : 0 * c.args.rows ≡ 0 = omega arith in
    rw none
    (no_lines c.args.form c.args.k (length c.args.sink.now.bits) c.args.first (white_row c.args.form.width)
    c.args.sink.now)

pub loop-preserved : goal.loop-preserved
loop-preserved c =
    group_more c.args.form c.args.k c.requires.unaligned c.args.rows c.args.first c.loop.counter c.args.group.now.bits
    c.args.sink.now c.loop.sink c.put_bits_of.new.self c.requires.same_place c.requires.group c.loop.invariant
    c.in_ok-put_bits_of.ensures.ok
