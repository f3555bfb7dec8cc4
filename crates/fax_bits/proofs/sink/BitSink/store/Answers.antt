use Rattle.std.proofs.Common.{◌+◌, ◌-◌, ◌*◌, ◌/◌, ◌%◌, ◌^◌, ◌<◌, ◌≤◌, ◌++◌, arith, ap, ◌∙◌}
use Rattle.std.specs.Prelude.{bit_or}
use Rattle.fax_bits.specs.declared.FillOrder.TheVariants.{MsbFirst}
use Rattle.fax_bits.specs.Bits.{bits, code_bits}
use Rattle.fax_bits.specs.code.Sink.{sink_of}
use Rattle.fax_bits.proofs.SinkLemmas.{joined-lt, first_part-lt, put_after, word_stored}
use Rattle.fax_bits.proofs.sink.BitSink.store.Goals as goal

pub invariant_of-self-then-count-lt32 : goal.invariant_of-self-then-count-lt32
invariant_of-self-then-count-lt32 c = grind (arith, joined-lt)

pub returns-then-count-lt32-clause-ok : goal.returns-then-count-lt32-clause-ok
returns-then-count-lt32-clause-ok c =
    let inside = c.self.inside in
    let fits : c.from.result < 2 ^ c.args.len = omega (arith, c.from.ensures, c.requires.fits) in
    let short : inside.count + c.args.len ≤ 64 = omega (
      arith,
      c.self.invariant.within,
      c.self.invariant.few,
      c.requires.short,
    ) in
    let all = bit_or (inside.pending * 2 ^ c.args.len % 2 ^ 64) c.from.result in
    let put = put_after inside.order inside.bytes.items inside.count inside.pending c.args.len c.from.result
    c.args.self.now
    c.self.invariant.fits fits short c.self.view_is
    ∙ ap (λ n. record { order = c.args.self.now.order; bits = c.args.self.now.bits ++ code_bits c.args.len n })
    c.from.ensures in
    ap (λ items. sink_of inside.order items (inside.count + c.args.len) all) c.reserve.ensures.items ∙ put

pub overflow_cast-pending-2 : goal.overflow_cast-pending-2
overflow_cast-pending-2 c = grind (arith, joined-lt, first_part-lt)

pub returns-clause-ok : goal.returns-clause-ok
returns-clause-ok c =
    let inside = c.self.inside in
    let fits : c.from.result < 2 ^ c.args.len = omega (arith, c.from.ensures, c.requires.fits) in
    let short : inside.count + c.args.len ≤ 64 = omega (
      arith,
      c.self.invariant.within,
      c.self.invariant.few,
      c.requires.short,
    ) in
    let all = bit_or (inside.pending * 2 ^ c.args.len % 2 ^ 64) c.from.result in
    let put = put_after inside.order inside.bytes.items inside.count inside.pending c.args.len c.from.result
    c.args.self.now
    c.self.invariant.fits fits short c.self.view_is
    ∙ ap (λ n. record { order = c.args.self.now.order; bits = c.args.self.now.bits ++ code_bits c.args.len n })
    c.from.ensures in
    let joined = joined-lt inside.count inside.pending c.args.len c.from.result c.self.invariant.fits fits short in
    word_stored inside.order inside.bytes.items c.push_word.new.bytes.items (inside.count + c.args.len) all _
    c.if-count-lt32.false short
    joined put
    (c.push_word.ensures.pushed
    ∙ ap (λ items. bits MsbFirst items ++ code_bits 32 (all / 2 ^ (inside.count + c.args.len - 32)))
    c.reserve.ensures.items)
