use Rattle.std.proofs.Common.{◌≡◌, ◌-◌, ◌≤◌, ◌++◌, ◌∙◌, length, take, ap, arith, append_assoc, length-append}
use Rattle.std.proofs.Common.{List, ℕ}
use Rattle.std.proofs.KnownBytes.{Consumes-trans}
use Rattle.std.proofs.lemmas.List.{length-take-le}
use Rattle.fax_tool.proofs.HeldLemmas.{held_more, whole}
use Rattle.fax_tool.proofs.streams.input_buffer.InputBuffer.fill.Goals as goal

pub loop-self-preserved-in-Ok : goal.loop-self-preserved-in-Ok
loop-self-preserved-in-Ok g c =
    let old = c.loop-self.invariant in
    let its = c.loop-self.self-inside in
    let items = its.room.items in
    let n = c.in-Ok.count in
    let buffer = c.take.new.buffer in
    let value = c.deref_mut.ensures.value in
    let all = ap (λ (l : List ℕ). length l) value in
    let wide : length buffer ≡ length items - its.len = omega (arith, c.take.auto.buffer, all) in
    let size : its.room.len ≡ length items = omega (arith, c.deref_mut.ensures.len, all) in
    let room = whole items buffer its.len old.held.within wide its.room.len size in
    let within : n ≤ length buffer = c.in-Ok.ensures.within in
    record {
      held = rw (value, room) (record {
        some = omega (
          arith,
          old.held.some,
          length-append (take its.len items) buffer,
          wide,
          old.held.within,
          length-take-le its.len items old.held.within,
        );
        within = omega (
          arith,
          length-append (take its.len items) buffer,
          within,
          length-take-le its.len items old.held.within,
        );
        few = omega (arith, old.held.few);
        limit = omega (arith, c.if-count-self.false, old.held.limit);
      });
      origin = rw (value, room) (omega (
        arith,
        old.origin,
        length-append (take its.len items) buffer,
        wide,
        old.held.within,
        length-take-le its.len items old.held.within,
      ));
      text = old.text ++ take n buffer;
      bytes_are = rw (value, room) (held_more items buffer its.len old.held.within wide n within
          ∙ ap (λ (l : List ℕ). l ++ take n buffer) old.bytes_are
          ∙ append_assoc c.args.self.now.bytes old.text (take n buffer));
      taken_is = omega (arith, old.taken_is, length-append old.text (take n buffer), length-take-le n buffer within);
      moved = Consumes-trans _ (g.R.Source.remaining c.loop-self.input) _ old.text (take n buffer) old.moved
          c.in-Ok.ensures.bytes.0;
      taken = grind (arith, c.in-Ok.ensures.taken, old.taken, c.if-count-self.false, old.held.limit);
      counts = c.in-Ok.ensures.counts ∙ old.counts;
    }
