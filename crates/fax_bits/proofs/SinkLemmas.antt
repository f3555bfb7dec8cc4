-- Bits that are put after others: into the pending bits, and from there into bytes.
use Rattle.std.proofs.lemmas.Grind.{common_steps}
use Rattle.std.proofs.Common.{◌≡◌, ℕ, ◌+◌, ◌-◌, ◌*◌, ◌/◌, ◌%◌, ◌^◌, ◌<◌, ◌≤◌, List, [], ◌∷◌, ◌++◌, length, map, take}
use Rattle.std.proofs.Common.{drop, replicate, Bool}
use Rattle.std.proofs.Common.{false, refl, ap, sym, ◌∙◌, arith, append_assoc, append-nil, add-zero}
use Rattle.std.specs.Prelude.{bit_and, bit_or}
use Rattle.std.proofs.lemmas.List.{take_at}
use Rattle.std.proofs.lemmas.List.Concat.{flat_map-append}
use Rattle.fax_bits.proofs.WordLemmas.{be_bits}
use Rattle.std.proofs.lemmas.Nat.{from_be_bytes-to_be_bytes_4, pow-add, pow_pos, or_shifted, shl_whole, one_shl}
use Rattle.std.proofs.lemmas.Nat.{and_mask, mul-add-lt}
use Rattle.std.proofs.lemmas.Nat.{shr_below, shr_split, mod_below, shl_below}
use Rattle.std.specs.Int.{reverse_bits, w8}
use Rattle.fax_bits.specs.declared.FillOrder.{FillOrder}
use Rattle.fax_bits.specs.declared.FillOrder.TheVariants.{MsbFirst, LsbFirst}
use Rattle.fax_bits.specs.Bits.{bits, byte_bits, code_bits}
use Rattle.fax_bits.specs.views.Sink.{Sink, IsPadded}
use Rattle.fax_bits.specs.code.Sink.{sink_of}
use Rattle.fax_bits.proofs.CodeBitsLemmas.{code_bits-add, code_bits-zeros, byte_bits-reversed, length-code_bits}
use Rattle.fax_bits.proofs.SourceLemmas.{length-bits}

-- one more byte
pub bits-push : (order : FillOrder) (bytes : List ℕ) (byte : ℕ)
    → bits order (bytes ++ byte ∷ []) ≡ bits order bytes ++ byte_bits order byte
unfolding bits
bits-push order bytes byte = grind (arith, common_steps)

-- pending bits and those that are put, as one number
module _ (count pending len number : ℕ) (pending_fits : pending < 2 ^ count) (number_fits : number < 2 ^ len)
    (short : count + len ≤ 64) where
  pub joined : bit_or (pending * 2 ^ len % 2 ^ 64) number ≡ pending * 2 ^ len + number
  joined =
      ap (λ n. bit_or n number) (shl_whole pending count len 64 pending_fits (omega arith))
      ∙ or_shifted pending len number number_fits

  pub joined-lt : bit_or (pending * 2 ^ len % 2 ^ 64) number < 2 ^ (count + len)
  joined-lt = rw joined (omega (
    arith,
    mul-add-lt pending (2 ^ len) number (2 ^ count) pending_fits number_fits,
    pow-add
        2 count len,
  ))

  pub joined_bits : code_bits (count + len) (bit_or (pending * 2 ^ len % 2 ^ 64) number)
      ≡ code_bits count pending ++ code_bits len number
  joined_bits = ap (code_bits (count + len)) joined ∙ code_bits-add count len pending number number_fits

-- a number of pending bits, of which the first k are stored
module _ (k count pending : ℕ) (some : 0 < k) (whole : k ≤ count) (short : count ≤ 64) (fits : pending < 2 ^ count)
  where
    pub first_part-lt : pending / 2 ^ (count - k) < 2 ^ k
    first_part-lt = grind (arith, shr_below)

    pub masked : bit_and pending (1 * 2 ^ (count - k) % 2 ^ 64 - 1) ≡ pending % 2 ^ (count - k)
    masked = ap (λ n. bit_and pending (n - 1)) (one_shl (count - k) 64 (omega arith)) ∙ and_mask pending (count - k)

    pub masked-lt : bit_and pending (1 * 2 ^ (count - k) % 2 ^ 64 - 1) < 2 ^ (count - k)
    masked-lt = rw masked (mod_below pending (2 ^ (count - k)) (pow_pos (count - k)))

    -- the stored bits, and those after them
    pub split_bits : code_bits count pending
        ≡ code_bits k (pending / 2 ^ (count - k)) ++ code_bits (count - k)
        (bit_and pending (1 * 2 ^ (count - k) % 2 ^ 64 - 1))
    split_bits =
        let e : k + (count - k) ≡ count = omega arith in
        sym (ap (λ n. code_bits n pending) e) ∙ ap (code_bits (k + (count - k))) (sym (shr_split pending (count - k)))
        ∙ code_bits-add k (count - k) (pending / 2 ^ (count - k)) (pending % 2 ^ (count - k))
        (mod_below pending (2 ^ (count - k)) (pow_pos (count - k)))
        ∙ ap (λ n. code_bits k (pending / 2 ^ (count - k)) ++ code_bits (count - k) n) (sym masked)

-- a byte whose highest bit is first
pub byte_bits-msb : (byte : ℕ) → byte_bits MsbFirst byte ≡ code_bits 8 byte
unfolding byte_bits
byte_bits-msb byte = refl

-- bytes that are turned round hold the same bits in the other order
pub bits-reversed : (bytes : List ℕ) → bits LsbFirst (map (reverse_bits w8) bytes) ≡ bits MsbFirst bytes
unfolding bits
bits-reversed [] = refl
bits-reversed (byte ∷ bytes) = grind (arith, byte_bits-reversed, byte_bits-msb, bits-reversed bytes)

-- bytes that are all written over
pub written_over : (len : ℕ) (new old : List ℕ) → length new ≡ len → take len (new ++ drop (length new) old) ≡ new
written_over len new old same = take_at new (drop (length new) old) len same

-- a byte that became whole is pushed
pub pushed_bits : (order : FillOrder) (bytes pushed : List ℕ) (byte n : ℕ) (all rest : List Bool)
    → pushed ≡ bytes ++ byte ∷ []
    → byte_bits order byte ≡ code_bits 8 n
    → all ≡ code_bits 8 n ++ rest → bits order pushed ++ rest ≡ bits order bytes ++ all
pushed_bits order bytes pushed byte n all rest pushed_is byte_is all_is = grind (arith, common_steps, bits-push)

-- bytes that are pushed
pub bits-append : (order : FillOrder) (bytes xs : List ℕ) → bits order (bytes ++ xs) ≡ bits order bytes ++ bits order xs
unfolding bits
bits-append order bytes xs = flat_map-append (byte_bits order) bytes xs

-- the bytes of a word, the highest first
pub be_coded : (n : ℕ) → n < 2 ^ 32 → bits MsbFirst (n / 16777216 % 256 ∷ n / 65536 % 256 ∷ n / 256 % 256 ∷ n % 256
    ∷ []) ≡ code_bits 32 n
be_coded n fits = grind (arith, be_bits, from_be_bytes-to_be_bytes_4)

-- how many bits a sink has
pub length-sink : (order : FillOrder) (bytes : List ℕ) (count pending : ℕ) (sink : Sink)
    → sink_of order bytes count pending ≡ sink
    → length sink.bits ≡ 8 * length bytes + count
length-sink order bytes count pending sink is = grind (arith, common_steps, length-bits, length-code_bits)

-- a sink with no pending bits
pub none_pending : (order : FillOrder) (bytes : List ℕ) (count pending : ℕ) → count ≡ 0
    → bits order bytes ++ code_bits count pending
    ≡ bits order bytes
unfolding code_bits
none_pending order bytes count pending none = ap (λ n. bits order bytes ++ code_bits n pending) none
    ∙ append-nil (bits order bytes)

-- whole bytes hold all bits of a sink that has a multiple of eight
pub all_whole : (order : FillOrder) (bytes : List ℕ) (count pending : ℕ) (sink : Sink)
    → sink_of order bytes count pending ≡ sink
    → length sink.bits % 8 ≡ 0 → count < 8 → bits MsbFirst bytes ≡ sink.bits
all_whole order bytes count pending sink is whole short =
    let none : count ≡ 0 = omega (arith, length-sink order bytes count pending sink is) in
    sym (none_pending MsbFirst bytes count pending none) ∙ ap (λ (s : Sink). s.bits) is

-- and of one whose pending bits were pushed
pub all_pushed : (order : FillOrder) (bytes pushed : List ℕ) (count pending remaining rest : ℕ) (sink : Sink)
    → sink_of order bytes count pending
    ≡ sink
    → bits MsbFirst pushed ++ code_bits remaining rest ≡ bits MsbFirst bytes ++ code_bits count pending
    → length sink.bits % 8 ≡ 0 → remaining < 8 → bits MsbFirst pushed ≡ sink.bits
all_pushed order bytes pushed count pending remaining rest sink is same whole short =
    all_whole order pushed remaining rest sink (ap (λ b. record { order = order; bits = b }) same ∙ is) whole short

-- bits that are put after the pending ones of a sink
pub put_after : (order : FillOrder) (bytes : List ℕ) (count pending len number : ℕ) (old : Sink) → pending < 2 ^ count
    → number < 2 ^ len
    → count + len ≤ 64
    → sink_of order bytes count pending ≡ old
    → sink_of order bytes (count + len) (bit_or (pending * 2 ^ len % 2 ^ 64) number)
    ≡ record { order = old.order; bits = old.bits ++ code_bits len number }
put_after order bytes count pending len number old fits number_fits short old_is =
    grind (arith, common_steps, joined_bits)

-- the first 32 of the pending bits are stored
pub word_stored : (order : FillOrder) (bytes pushed : List ℕ) (count pending : ℕ) (sink : Sink) → 32 ≤ count
    → count ≤ 64
    → pending < 2 ^ count
    → sink_of order bytes count pending ≡ sink → bits MsbFirst pushed
    ≡ bits MsbFirst bytes ++ code_bits 32 (pending / 2 ^ (count - 32))
    → sink_of order pushed (count - 32) (bit_and pending (1 * 2 ^ (count - 32) % 2 ^ 64 - 1)) ≡ sink
word_stored order bytes pushed count pending sink whole short fits is pushed_is =
    grind (arith, common_steps, split_bits)

-- pending bits with zeros after them, up to a whole byte
padded_bits : (count pending zeros : ℕ) → pending < 2 ^ count → count + zeros ≤ 64
    → code_bits (count + zeros) (pending * 2 ^ zeros % 2 ^ 64) ≡ code_bits count pending ++ replicate zeros false
padded_bits count pending zeros fits short =
    ap (code_bits (count + zeros)) (shl_whole pending count zeros 64 fits short ∙ sym (add-zero (pending * 2 ^ zeros)))
    ∙ code_bits-add count zeros pending 0 (pow_pos zeros)
    ∙ ap (λ b. code_bits count pending ++ b) (code_bits-zeros zeros)

pub padded-lt : (count pending zeros : ℕ) → pending < 2 ^ count → count + zeros ≤ 64
    → pending * 2 ^ zeros % 2 ^ 64 < 2 ^ (count + zeros)
padded-lt count pending zeros fits short = rw (shl_whole pending count zeros 64 fits short)
    (shl_below pending count zeros fits)

pub pads : (order : FillOrder) (bytes : List ℕ) (count pending zeros : ℕ) (old : Sink) → count ≤ 32
    → pending < 2 ^ count
    → zeros ≡ (32 - count) % 8 → sink_of order bytes count pending ≡ old
    → IsPadded old (sink_of order bytes (count + zeros) (pending * 2 ^ zeros % 2 ^ 64))
pads order bytes count pending zeros old short fits zeros_are old_is =
    let bits_are : bits MsbFirst bytes ++ code_bits (count + zeros) (pending * 2 ^ zeros % 2 ^ 64)
    ≡ (bits MsbFirst bytes ++ code_bits count pending) ++ replicate zeros false =
    ap (λ b. bits MsbFirst bytes ++ b) (padded_bits count pending zeros fits (omega arith))
    ∙ sym (append_assoc (bits MsbFirst bytes) (code_bits count pending) (replicate zeros false)) in
    record {
      zeros = zeros;
      few = omega arith;
      appended =
          ap (λ b. record { order = order; bits = b }) bits_are
          ∙ ap (λ (s : Sink). record { order = s.order; bits = s.bits ++ replicate zeros false }) old_is;
      whole = omega (arith, length-sink order bytes (count + zeros) (pending * 2 ^ zeros % 2 ^ 64) _ refl);
    }
