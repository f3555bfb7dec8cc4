-- Thirty-two bits that are looked at, and the codes that begin them.
use Rattle.std.proofs.Common.{◌≡◌, ℕ, ◌+◌, ◌-◌, ◌*◌, ◌/◌, ◌%◌, ◌^◌, ◌≤◌, List, ◌++◌, length, drop, Bool, ap, sym, ◌∙◌}
use Rattle.std.proofs.Common.{subst, arith}
use Rattle.std.proofs.Common.{append_assoc, add-zero}
use Rattle.std.proofs.Math.Nat.{div-div-eq-div-mul, mul-mod_left}
use Rattle.std.proofs.Math.Seq.{drop-append_seam}
use Rattle.std.proofs.lemmas.Nat.{mod_below, pow_pos, pow-add, shr_split, mod-pow-add, shl-shr}
use Rattle.fax_bits.specs.Bits.{code_bits, StartsWith}
use Rattle.fax_bits.proofs.CodeBitsLemmas.{code_bits-add, length-code_bits}

-- the highest bits of a number, and the others
parts : (high low number : ℕ) → code_bits (high + low) number
    ≡ code_bits high (number / 2 ^ low) ++ code_bits low (number % 2 ^ low)
parts high low number =
    ap (code_bits (high + low)) (sym (shr_split number low))
    ∙ code_bits-add high low (number / 2 ^ low) (number % 2 ^ low) (mod_below number (2 ^ low) (pow_pos low))

-- what begins the highest bits begins all
pub begins_all : (high low number : ℕ) (front : List Bool) → StartsWith (code_bits high (number / 2 ^ low)) front
    → StartsWith (code_bits (high + low) number) front
begins_all high low number front begins = (
  begins.0 ++ code_bits low (number % 2 ^ low),
  parts high low number ∙ ap (λ b. b ++ code_bits low (number % 2 ^ low)) begins.1
      ∙ append_assoc front begins.0 (code_bits low (number % 2 ^ low)),
)

-- the bits after the first `len`, as the program shifts them
shifted : (number len : ℕ) → len ≤ 13 → number * 2 ^ len % 2 ^ 32 / 2 ^ 19 ≡ number % 2 ^ (32 - len) / 2 ^ (19 - len)
shifted number len few =
    let all : 32 - len + len ≡ 32 = omega arith in
    let most : len + (19 - len) ≡ 19 = omega arith in
    let low = number % 2 ^ (32 - len) in
    let up : number * 2 ^ len % 2 ^ 32 ≡ low * 2 ^ len =
    ap (λ k. number * 2 ^ len % 2 ^ k) (sym all) ∙ mod-pow-add (number * 2 ^ len) (32 - len) len
    ∙ ap (λ r. number * 2 ^ len / 2 ^ len % 2 ^ (32 - len) * 2 ^ len + r) (mul-mod_left number (2 ^ len))
    ∙ add-zero (number * 2 ^ len / 2 ^ len % 2 ^ (32 - len) * 2 ^ len)
    ∙ ap (λ k. k % 2 ^ (32 - len) * 2 ^ len) (shl-shr number len) in
    ap (λ n. n / 2 ^ 19) up ∙ ap (λ k. low * 2 ^ len / 2 ^ k) (sym most)
    ∙ ap (λ m. low * 2 ^ len / m) (pow-add 2 len (19 - len))
    ∙ sym (div-div-eq-div-mul (low * 2 ^ len) (2 ^ len) (2 ^ (19 - len)))
    ∙ ap (λ n. n / 2 ^ (19 - len)) (shl-shr low len)

-- and a code that begins these
pub begins_next : (number len : ℕ) (front next : List Bool) → len ≤ 13 → length front ≡ len
    → StartsWith (code_bits 32 number) front
    → StartsWith (code_bits 13 (number * 2 ^ len % 2 ^ 32 / 2 ^ 19)) next
    → StartsWith (code_bits 32 number) (front ++ next)
begins_next number len front next few long begins after =
    let remaining = 32 - len in
    let all : len + remaining ≡ 32 = omega arith in
    let those : 13 + (19 - len) ≡ remaining = omega arith in
    let low = number % 2 ^ remaining in
    let split : code_bits 32 number ≡ code_bits len (number / 2 ^ remaining) ++ code_bits remaining low =
    ap (λ k. code_bits k number) (sym all) ∙ parts len remaining number in
    let rest : begins.0 ≡ code_bits remaining low =
    sym (drop-append_seam front begins.0) ∙ ap (drop (length front)) (sym begins.1 ∙ split)
    ∙ ap (λ k. drop k (code_bits len (number / 2 ^ remaining) ++ code_bits remaining low))
    (long ∙ sym (length-code_bits len (number / 2 ^ remaining)))
    ∙ drop-append_seam (code_bits len (number / 2 ^ remaining)) (code_bits remaining low) in
    let more : StartsWith (code_bits remaining low) next =
    subst (λ k. StartsWith (code_bits k low) next) those
    (begins_all 13 (19 - len) low next (subst (λ n. StartsWith (code_bits 13 n) next) (shifted number len few) after))
    in (
      more.0,
      begins.1 ∙ ap (λ b. front ++ b) (rest ∙ more.1) ∙ sym (append_assoc front next more.0),
    )

-- and one that begins the lowest bits, after the highest ones
pub begins_after : (high low number : ℕ) (front next : List Bool) → code_bits high (number / 2 ^ low) ≡ front
    → StartsWith (code_bits low (number % 2 ^ low)) next → StartsWith (code_bits (high + low) number) (front ++ next)
begins_after high low number front next first after = (
  after.0,
  parts high low number ∙ ap (λ b. b ++ code_bits low (number % 2 ^ low)) first ∙ ap (λ b. front ++ b) after.1
      ∙ sym (append_assoc front next after.0),
)
