-- The bytes of bits.
use Rattle.std.proofs.Common.{◌≡◌, ℕ, zero, suc, ◌+◌, ◌-◌, ◌*◌, ◌/◌, ◌<◌, ◌≤◌, List, [], ◌∷◌, ◌++◌, length, take, drop}
use Rattle.std.proofs.Common.{map, replicate}
use Rattle.std.proofs.Common.{Bool, false, refl, ap, sym, ◌∙◌, subst, arith, append_assoc, length-append, length-drop}
use Rattle.std.specs.Prelude.{All}
use Rattle.std.specs.Simd.{first_chunks}
use Rattle.std.proofs.lemmas.List.{length-replicate, length-reverse, reverse-reverse, length-take-le, take-replicate}
use Rattle.std.proofs.lemmas.List.{replicate-append-replicate}
use Rattle.std.proofs.Math.Seq.{take-add, take-append-add, take-append_seam, drop-append_seam}
use Rattle.fax_bits.specs.declared.FillOrder.{FillOrder}
use Rattle.fax_bits.specs.Bits.{bits, byte_bits, byte_of, packed}
use Rattle.fax_bits.specs.laws.Codes.{PackedBitsArePadded, PaddedBytesArePacked}
use Rattle.fax_bits.proofs.NumberLemmas.{byte_bits-number, number-byte_bits}
use Rattle.fax_bits.proofs.SourceLemmas.{length-bits, length-byte_bits}

-- the byte of eight bits holds them
byte_bits-byte_of : (order : FillOrder) (eight : List Bool) → length eight ≡ 8
    → byte_bits order (byte_of order eight) ≡ eight
unfolding byte_bits
byte_bits-byte_of order eight len = grind (arith, byte_bits-number, length-reverse, reverse-reverse)

-- and is the byte of its bits
byte_of-byte_bits : (order : FillOrder) (byte : ℕ) → byte < 256 → byte_of order (byte_bits order byte) ≡ byte
unfolding byte_bits
byte_of-byte_bits order byte fits = grind (arith, number-byte_bits, reverse-reverse)

-- the bits of the bytes of chunks
bits-chunks : (order : FillOrder) (n : ℕ) (b : List Bool) → 8 * n ≤ length b
    → bits order (map (byte_of order) (first_chunks 8 n b)) ≡ take (8 * n) b
unfolding bits
bits-chunks order zero b within = refl
bits-chunks order (suc n) b within =
    let more : 8 * suc n ≡ 8 + 8 * n = omega arith in
    ap (λ c. c ++ bits order (map (byte_of order) (first_chunks 8 n (drop 8 b))))
    (byte_bits-byte_of order (take 8 b) (length-take-le 8 b (omega arith)))
    ∙ ap (λ c. take 8 b ++ c) (bits-chunks order n (drop 8 b) (omega (arith, length-drop 8 b)))
    ∙ sym (ap (λ k. take k b) more ∙ take-add 8 (8 * n) b)

-- the bytes of the chunks of bits that begin with those of bytes
chunks-bits : (order : FillOrder) (bytes : List ℕ) (more : List Bool) → All (λ byte. byte < 256) bytes
    → map (byte_of order) (first_chunks 8 (length bytes) (bits order bytes ++ more)) ≡ bytes
unfolding bits
chunks-bits order [] more fit = refl
chunks-bits order (byte ∷ bytes) more fit =
    let eight = byte_bits order byte in
    let after = bits order bytes ++ more in
    let all : (eight ++ bits order bytes) ++ more ≡ eight ++ after = append_assoc eight (bits order bytes) more in
    let len : length eight ≡ 8 = length-byte_bits order byte in
    let front : take 8 (eight ++ after) ≡ eight = subst (λ n. take n (eight ++ after) ≡ eight) len
    (take-append_seam eight after) in
    let rest : drop 8 (eight ++ after) ≡ after = subst (λ n. drop n (eight ++ after) ≡ after) len
    (drop-append_seam eight after) in
    let first : byte_of order (take 8 ((eight ++ bits order bytes) ++ more)) ≡ byte =
    ap (λ (b : List Bool). byte_of order (take 8 b)) all ∙ ap (byte_of order) front
    ∙ byte_of-byte_bits order byte (fit zero byte (omega arith)) in
    let others : map (byte_of order) (first_chunks 8 (length bytes) (drop 8 ((eight ++ bits order bytes) ++ more)))
    ≡ bytes =
    ap (λ (b : List Bool). map (byte_of order) (first_chunks 8 (length bytes) (drop 8 b))) all
    ∙ ap (λ (b : List Bool). map (byte_of order) (first_chunks 8 (length bytes) b)) rest
    ∙ chunks-bits order bytes more (λ j d h. fit (suc j) d (omega (arith, h))) in
    cc

pub packed-padded : PackedBitsArePadded
unfolding packed
packed-padded order b =
    let n = (length b + 7) / 8 in
    let zeros = 8 * n - length b in
    let long : length (b ++ replicate 7 false) ≡ length b + 7 =
    length-append b (replicate 7 false) ∙ ap (λ k. length b + k) (length-replicate 7 false) in
    let place : 8 * n ≡ length b + zeros = omega arith in (
      zeros,
      omega arith,
      bits-chunks order n (b ++ replicate 7 false) (omega (arith, long))
          ∙ ap (λ k. take k (b ++ replicate 7 false)) place ∙ take-append-add b (replicate 7 false) zeros
          ∙ ap (λ c. b ++ c) (take-replicate zeros 7 false (omega arith)),
    )

pub packed-only : PaddedBytesArePacked
unfolding packed
packed-only order b bytes zeros few fit holds =
    let long : 8 * length bytes ≡ length b + zeros =
    sym (length-bits order bytes) ∙ ap (λ (c : List Bool). length c) holds ∙ length-append b (replicate zeros false)
    ∙ ap (λ k. length b + k) (length-replicate zeros false) in
    let count : length bytes ≡ (length b + 7) / 8 = omega arith in
    let missing = replicate (7 - zeros) false in
    let seven : zeros + (7 - zeros) ≡ 7 = omega arith in
    let more : bits order bytes ++ missing ≡ b ++ replicate 7 false =
    ap (λ (c : List Bool). c ++ missing) holds ∙ append_assoc b (replicate zeros false) missing
    ∙ ap (λ (c : List Bool). b ++ c) (replicate-append-replicate zeros (7 - zeros) false
    ∙ ap (λ k. replicate k false) seven) in
    sym (chunks-bits order bytes missing fit)
    ∙ ap (λ (c : List Bool). map (byte_of order) (first_chunks 8 (length bytes) c)) more
    ∙ ap (λ n. map (byte_of order) (first_chunks 8 n (b ++ replicate 7 false))) count
