use Rattle.std.proofs.Common.{◌≡◌, ◌++◌, ◌<◌, length, sym, ◌∙◌, ap, arith, get_or}
use Rattle.fax_bits.specs.Bits.{bits}
use Rattle.fax_bits.specs.views.Source.{Source}
use Rattle.fax_bits.specs.views.Sink.{Sink}
use Rattle.fax_bits.proofs.TakeLemmas.{next_byte, other_byte, last_bits}
use Rattle.fax_bits.proofs.sink.BitSink.starts_with.Goals as goal

pub loop-byte-init : goal.loop-byte-init
unfolding bits
loop-byte-init c = ap (λ (s : Source). s.remaining) (sym c.fork-ahead.ensures)

pub returns-then-not-take : goal.returns-then-not-take
returns-then-not-take c =
    let bytes = c.self.inside.bytes.items in
    let within : c.loop-byte.byte-index < length bytes = omega (arith, ap length c.deref-byte-items.ensures.value) in
    let byte_is = c.from.ensures ∙ ap (λ xs. get_or xs c.loop-byte.byte-index 0) c.deref-byte-items.ensures.value in (
      λ is. cc is,
      λ begins.
          absurd (other_byte bytes c.loop-byte.byte-index c.args.source.now.remaining c.loop-byte.ahead.remaining
          c.loop-byte.invariant c.from.result
          _ within byte_is
          c.if-not-take.ensures.taken.1 (
            begins.0,
            begins.1 ∙ ap (λ (s : Sink). s.bits ++ begins.0)
                (sym c.self.view_is),
          )),
    )

pub loop-byte-preserved : goal.loop-byte-preserved
loop-byte-preserved c =
    let bytes = c.self.inside.bytes.items in
    let within : c.loop-byte.byte-index < length bytes = omega (arith, ap length c.deref-byte-items.ensures.value) in
    next_byte bytes c.loop-byte.byte-index _ _ c.loop-byte.invariant c.from.result _ within
    (c.from.ensures ∙ ap (λ xs. get_or xs c.loop-byte.byte-index 0) c.deref-byte-items.ensures.value)
    c.if-not-take.ensures.taken

pub returns : goal.returns
returns c =
    let bytes = c.self.inside.bytes.items in
    let all : c.loop-byte.byte-index ≡ length bytes = omega (arith, ap length c.deref-byte-items.ensures.value) in
    let same = last_bits bytes c.loop-byte.byte-index _ _ c.loop-byte.invariant _ c.starts_with.result all
    c.starts_with.ensures
    in
    let bits_are = ap (λ (s : Sink). s.bits) c.self.view_is in (
      λ is. ((same.0 is).0, (same.0 is).1 ∙ ap (λ b. b ++ (same.0 is).0) bits_are),
      λ begins. same.1 (begins.0, begins.1 ∙ ap (λ b. b ++ begins.0) (sym bits_are)),
    )
