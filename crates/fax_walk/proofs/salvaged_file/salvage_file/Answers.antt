use Rattle.std.proofs.Common.{refl}
use Rattle.fax_walk.proofs.SalvagedFileLemmas.{large_at_end, large_before, none_salvaged, none_there, one_put}
use Rattle.fax_walk.proofs.SalvagedFileLemmas.{one_refused, salvaged}
use Rattle.fax_walk.proofs.salvaged_file.salvage_file.Goals as goal

pub loop-after-init : goal.loop-after-init
loop-after-init c =
    rw c.new-chain.ensures
    (none_salvaged c.args.file.now c.args.options.now c.in-Ok.tiff c.in-Ok-new.output c.in-Ok.ensures.head
    c.in-Ok.ensures.file c.in-Ok-new.ensures)

pub loop-after-preserved-in-Refused : goal.loop-after-preserved-in-Refused
loop-after-preserved-in-Refused c =
    let next = c.in-Refused.ensures in
    one_refused c.args.file.now c.args.options.now c.loop-after.chain c.loop-after.output c.loop-after.some
    c.loop-after.invariant next.0 c.in-Refused.after next.2 next.1 next.3

pub put_page-requires-clause-upcoming : goal.put_page-requires-clause-upcoming
put_page-requires-clause-upcoming c = (_, record { options_are = refl; written = c.loop-after.invariant.written })

pub returns-in-TooLarge-clause-err : goal.returns-in-TooLarge-clause-err
returns-in-TooLarge-clause-err c = λ other.
    let next = c.in-There.ensures in
    large_before c.args.file.now c.args.options.now c.in-There.after c.put_page.new.output _
    (one_put c.args.file.now c.args.options.now c.loop-after.chain c.loop-after.output c.loop-after.some
    c.loop-after.invariant next.0 c.in-There.after next.1 c.in-There.form c.in-There.strips.directory
    c.put_page.new.output next.2 next.4 c.in-Ok-put_page.ensures)
    c.strips_are_salvaged_in_one_way.ensures c.in-TooLarge.is

pub loop-after-preserved : goal.loop-after-preserved
loop-after-preserved c =
    let next = c.in-There.ensures in
    one_put c.args.file.now c.args.options.now c.loop-after.chain c.loop-after.output c.loop-after.some
    c.loop-after.invariant next.0 c.in-There.after next.1 c.in-There.form c.in-There.strips.directory
    c.put_page.new.output next.2 next.4 c.in-Ok-put_page.ensures

pub returns-then-not-some-clause-ok : goal.returns-then-not-some-clause-ok
returns-then-not-some-clause-ok c =
    let ends = c.in-Ends.ensures in
    none_there c.args.file.now c.args.options.now c.loop-after.chain c.loop-after.output c.loop-after.some
    c.loop-after.invariant ends c.if-not-some.true

pub returns-in-Ok-finish-clause-ok : goal.returns-in-Ok-finish-clause-ok
returns-in-Ok-finish-clause-ok c =
    let ends = c.in-Ends.ensures in
    salvaged c.args.file.now c.args.options.now c.loop-after.chain c.loop-after.output c.loop-after.some
    c.loop-after.invariant ends c.if-not-some.false c.in-Ok-finish.bytes c.in-Ok-finish.ensures.ok

pub returns-in-Err-clause-err : goal.returns-in-Err-clause-err
returns-in-Err-clause-err c = λ other.
    let ends = c.in-Ends.ensures in
    large_at_end c.args.file.now c.args.options.now c.loop-after.chain c.loop-after.output c.loop-after.some
    c.loop-after.invariant ends _ c.in-Err.ensures.err
