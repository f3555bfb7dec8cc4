use Rattle.std.proofs.Common.{◌+◌, ◌^◌, ◌<◌, ◌≤◌, ◌++◌, arith, ap, ◌∙◌}
use Rattle.fax_bits.specs.Bits.{code_bits}
use Rattle.fax_bits.proofs.SinkLemmas.{joined-lt, put_after}
use Rattle.fax_bits.proofs.WordPutLemmas.{high_word-lt, word_put}
use Rattle.fax_bits.proofs.sink.BitSink.put_word.Goals as goal

pub overflow_cast-pending : goal.overflow_cast-pending
overflow_cast-pending c = grind (arith, joined-lt, high_word-lt)

pub returns-clause-ok : goal.returns-clause-ok
returns-clause-ok c =
    let inside = c.self.inside in
    let fits : c.from.result < 2 ^ 32 = omega (arith, c.from.ensures) in
    let short : inside.count + 32 ≤ 64 = omega (arith, c.self.invariant.within, c.self.invariant.few) in
    let joined = joined-lt inside.count inside.pending 32 c.from.result c.self.invariant.fits fits short in
    let put = put_after inside.order inside.bytes.items inside.count inside.pending 32 c.from.result c.args.self.now
    c.self.invariant.fits fits short c.self.view_is
    ∙ ap (λ n. record { order = c.args.self.now.order; bits = c.args.self.now.bits ++ code_bits 32 n }) c.from.ensures
    in
    word_put inside.order inside.bytes.items c.push_word.new.bytes.items inside.count _ _ short joined put
    c.push_word.ensures.pushed
