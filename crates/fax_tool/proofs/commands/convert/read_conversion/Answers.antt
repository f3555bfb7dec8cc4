use Rattle.std.proofs.Common.{◌≡◌, ◌++◌, [], ◌∷◌, rules, List, ℕ, Option, Some, None, length, take, drop, sym, ap, ◌∙◌}
use Rattle.std.proofs.Common.{arith}
use Rattle.std.proofs.Common.{append_assoc, append-nil, length-append, take-append-drop}
use Rattle.std.specs.Prelude.{IfSome}
use Rattle.std.specs.Io.KnownBytes.{Consumes, IsAtEnd}
use Rattle.std.proofs.KnownBytes.{Consumes-trans}
use Rattle.fax_walk.proofs.ConversionLemmas.{if_err, if_ok}
use Rattle.fax_tool.specs.code.InputBuffer.{HeldBytes}
use Rattle.fax_tool.proofs.commands.convert.read_conversion.Goals as goal

-- all bytes of a source that has ended were taken
all_taken : (remaining now : Option (List ℕ)) (text : List ℕ) → Consumes remaining now text → IsAtEnd now
    → IfSome remaining (λ bytes. text ≡ bytes)
all_taken None now text moved end = tt
all_taken (Some bytes) None text moved end = absurd moved
all_taken (Some bytes) (Some rest) text moved end = sym (moved ∙ rw end (append-nil text))

pub loop-ended-init : goal.loop-ended-init
loop-ended-init g c =
    let more = c.in_ok-ended.ensures.more in
    let none = c.in_ok-held.ensures.none in
    let bytes : c.fill.new.self.bytes ≡ more.text =
    more.bytes_are ∙ ap (λ (h : HeldBytes). h.bytes ++ more.text) none in
    let starts : (x : List ℕ) × (c.bytes.result.now ≡ 80 ∷ 52 ∷ x) = search rules in
    record {
      done = [];
      so_far = rw c.in-Ok.ensures.options c.in-Ok.ensures.origin;
      options = c.in-Ok.ensures.options;
      begins = rw c.bytes.ensures at starts;
      moved = rw bytes more.moved;
      all = omega (arith, more.taken_is, ap (λ (h : HeldBytes). h.taken) none, ap (λ (l : List ℕ). length l) bytes);
      taken = c.in_ok-ended.ensures.taken;
      counts = c.in_ok-ended.ensures.counts;
      end = more.end;
    }

pub loop-ended-preserved : goal.loop-ended-preserved
loop-ended-preserved g c =
    let old = c.loop-ended.invariant in
    let more = c.in_ok-ended-2.ensures.more in
    let held = c.loop-ended.held.bytes in
    let n = c.in-Ok-take_images.taken in
    let front = old.done ++ take n held in
    let bytes : c.fill-in-loop-ended.new.self.bytes ≡ drop n held ++ more.text =
    more.bytes_are ∙ ap (λ (h : HeldBytes). h.bytes ++ more.text) c.drop_front.ensures in
    let rest : take n held ++ (drop n held ++ more.text) ≡ held ++ more.text =
    sym (append_assoc (take n held) (drop n held) more.text)
    ∙ ap (λ (l : List ℕ). l ++ more.text) (take-append-drop n held) in
    let whole : front ++ (drop n held ++ more.text) ≡ (old.done ++ held) ++ more.text =
    append_assoc old.done (take n held) (drop n held ++ more.text) ∙ ap (λ (l : List ℕ). old.done ++ l) rest
    ∙ sym (append_assoc old.done held more.text) in
    record {
      done = front;
      so_far = rw c.bytes-in-loop-ended.ensures at (c.in-Ok-take_images.ensures.so_far old.done old.so_far);
      options = c.in-Ok-take_images.ensures.options ∙ old.options;
      begins = (old.begins.0 ++ more.text, rw (bytes, whole) (ap (λ (l : List ℕ). l ++ more.text) old.begins.1));
      moved = rw (bytes, whole) (Consumes-trans _ (g.R.Source.remaining c.loop-ended.input) _ (old.done
          ++ held) more.text
          old.moved more.moved);
      all = omega (
        arith,
        more.taken_is,
        ap (λ (h : HeldBytes). h.taken) c.drop_front.ensures,
        old.all,
        ap (λ (l : List ℕ). length l) bytes,
        ap (λ (l : List ℕ). length l) whole,
        length-append front (drop n held ++ more.text),
        length-append (old.done ++ held) more.text,
        length-append old.done held,
      );
      taken = c.in_ok-ended-2.ensures.taken;
      counts = c.in_ok-ended-2.ensures.counts;
      end = more.end;
    }

pub returns-clause-converts : goal.returns-clause-converts
returns-clause-converts g c =
    let old = c.loop-ended.invariant in
    let held = c.loop-ended.held.bytes in
    let same = all_taken _ (g.R.Source.remaining c.loop-ended.input) (old.done ++ held) old.moved
    (old.end c.loop-ended-test.false) in (
      old.done ++ held,
      same,
      if_ok c.finish.result (λ output is. rw (c.bytes-2.ensures, old.options) at (is old.done old.so_far
          (rw c.bytes-2.ensures old.begins))) c.finish.ensures.ok,
      if_err c.finish.result (λ fault is other. rw (c.bytes-2.ensures, old.options) at (is other old.done old.so_far
          (rw c.bytes-2.ensures old.begins))) c.finish.ensures.err,
    )
