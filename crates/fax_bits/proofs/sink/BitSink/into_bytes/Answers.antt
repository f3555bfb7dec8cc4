use Rattle.std.proofs.Common.{◌≡◌, ◌++◌, length, map, take, drop, sym, ◌∙◌, ap, arith}
use Rattle.std.specs.Int.{reverse_bits, w8}
use Rattle.std.proofs.lemmas.List.{length-map}
use Rattle.fax_bits.specs.declared.FillOrder.TheVariants.{LsbFirst}
use Rattle.fax_bits.specs.Bits.{bits}
use Rattle.fax_bits.specs.views.Sink.{Sink}
use Rattle.fax_bits.proofs.SinkLemmas.{all_pushed, bits-reversed, written_over}
use Rattle.fax_bits.proofs.sink.BitSink.into_bytes.Goals as goal

pub returns-in-MsbFirst : goal.returns-in-MsbFirst
returns-in-MsbFirst c =
    ap (λ order. bits order c.push_whole.new.bytes.items) (sym (ap (λ (s : Sink). s.order) c.self.view_is)
    ∙ c.in-MsbFirst.is)
    ∙ all_pushed c.self.inside.order c.self.inside.bytes.items c.push_whole.new.bytes.items c.self.inside.count
    c.self.inside.pending
    c.push_whole.result.1 c.push_whole.result.0 c.args.self c.self.view_is c.push_whole.ensures.pushed c.requires.whole
    c.push_whole.ensures.fewer

pub returns-in-LsbFirst : goal.returns-in-LsbFirst
returns-in-LsbFirst c =
    let old = c.push_whole.new.bytes in
    let turned : c.reverse_bits.new.bytes ≡ map (reverse_bits w8) old.items =
    c.reverse_bits.ensures.turned ∙ ap (map (reverse_bits w8)) c.deref_mut.ensures.value in
    let len : length c.reverse_bits.new.bytes ≡ old.len =
    ap length turned ∙ length-map old.items (reverse_bits w8) ∙ omega arith in
    let new = c.reverse_bits.new.bytes in
    ap (λ order. bits order (take old.len (new ++ drop (length new) old.items)))
    (sym (ap (λ (s : Sink). s.order) c.self.view_is) ∙ c.in-LsbFirst.is)
    ∙ ap (bits LsbFirst) (written_over old.len new old.items len ∙ turned)
    ∙ bits-reversed old.items
    ∙ all_pushed c.self.inside.order c.self.inside.bytes.items c.push_whole.new.bytes.items c.self.inside.count
    c.self.inside.pending
    c.push_whole.result.1 c.push_whole.result.0 c.args.self c.self.view_is c.push_whole.ensures.pushed c.requires.whole
    c.push_whole.ensures.fewer
