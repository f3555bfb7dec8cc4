use Rattle.std.proofs.Common.{◌≡◌, ℕ, ◌+◌, ◌<◌, List, Bool, ◌∷◌, [], ◌++◌, length, get_or, take, drop, sym, ap, ◌∙◌}
use Rattle.std.proofs.Common.{subst}
use Rattle.std.proofs.Common.{add-one, arith, append_assoc, append-nil}
use Rattle.std.proofs.Common.{◌-◌, length-drop}
use Rattle.std.proofs.Math.Seq.{take-suc, take-add}
use Rattle.std.proofs.lemmas.List.{take_all}
use Rattle.fax_bits.specs.declared.FillOrder.TheVariants.{MsbFirst}
use Rattle.fax_bits.specs.Bits.{bits, code_bits, byte_bits}
use Rattle.fax_bits.specs.views.Sink.{Sink, Appends}
use Rattle.fax_bits.proofs.SinkLemmas.{bits-append, byte_bits-msb}
use Rattle.fax_bits.proofs.sink.BitSink.put_bytes.Goals as goal

-- more bytes are put
more_put : (first old new : Sink) (xs ys : List ℕ) (b : List Bool) → Appends first (bits MsbFirst xs) old
    → Appends old b new → b ≡ bits MsbFirst ys → Appends first (bits MsbFirst (xs ++ ys)) new
more_put first old new xs ys b before put is = grind (arith, append_assoc, bits-append)

-- none
none_put : (sink : Sink) → Appends sink (bits MsbFirst []) sink
unfolding bits
none_put sink = grind (arith, append-nil)

pub loop-at-init : goal.loop-at-init
loop-at-init c = record { within = omega arith; put = none_put c.args.self.now }

pub loop-at-preserved : goal.loop-at-preserved
loop-at-preserved c = record {
  within = omega arith;
  put =
      subst (λ xs. Appends c.args.self.now (bits MsbFirst xs) c.put_word.new.self)
      (sym (take-add c.loop-at.at 4 c.args.bytes.now))
      (more_put c.args.self.now c.loop-at.self c.put_word.new.self (take c.loop-at.at c.args.bytes.now)
      (take 4 (drop c.loop-at.at c.args.bytes.now)) _ c.loop-at.invariant.put c.in_ok-put_word.ensures.ok
      c.word_at.ensures);
}

byte_alone : (byte : ℕ) → code_bits 8 byte ≡ bits MsbFirst (byte ∷ [])
unfolding bits
byte_alone byte = sym (byte_bits-msb byte) ∙ sym (append-nil (byte_bits MsbFirst byte))

next_byte : (xs rest : List ℕ) (i byte : ℕ) → i < length rest → byte ≡ get_or rest i 0
    → (xs ++ take i rest) ++ byte ∷ [] ≡ xs ++ take (i + 1) rest
next_byte xs rest i byte within is =
    append_assoc xs (take i rest) (byte ∷ [])
    ∙ ap (λ b. xs ++ (take i rest ++ b ∷ [])) is
    ∙ ap (λ ys. xs ++ ys) (sym (take-suc rest i 0 within) ∙ ap (λ n. take n rest) (sym (add-one i)))

pub loop-byte-preserved : goal.loop-byte-preserved
loop-byte-preserved c =
    let xs = take c.loop-at.at c.args.bytes.now in
    let rest = drop c.loop-at.at c.args.bytes.now in
    let i = c.loop-byte.byte-index in
    let len = length c.args.bytes.now - c.loop-at.at in
    let whole : take len rest ≡ rest = take_all len rest (omega (arith, length-drop c.loop-at.at c.args.bytes.now)) in
    let within : i < length rest = omega (arith, ap length whole) in
    subst (λ ys. Appends c.args.self.now (bits MsbFirst ys) c.put.new.self)
    (next_byte xs rest i c.from.result within (c.from.ensures ∙ ap (λ l. get_or l i 0) whole))
    (more_put c.args.self.now c.loop-byte.self c.put.new.self (xs ++ take i rest) (c.from.result ∷ []) _
    c.loop-byte.invariant c.in_ok-put.ensures.ok (byte_alone c.from.result))
