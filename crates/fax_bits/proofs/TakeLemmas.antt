-- Bits that stand next in a source.
use Rattle.std.proofs.lemmas.Grind.{common_steps}
use Rattle.std.proofs.Common.{◌≡◌, ℕ, suc, ◌+◌, ◌-◌, ◌*◌, ◌/◌, ◌%◌, ◌^◌, ◌<◌, ◌≤◌, subst, List, ◌∷◌, ◌++◌, length, take}
use Rattle.std.proofs.Common.{drop, replicate}
use Rattle.std.proofs.Common.{get_or, Bool, false, ◌↔◌, IsTrue, ap, sym, ◌∙◌, arith, append_assoc, length-append}
use Rattle.std.proofs.Common.{drop-cons}
use Rattle.std.specs.Prelude.{bit_and}
use Rattle.std.proofs.lemmas.Nat.{one_shl, and_mask, shr_below, shr_split, mod_below, pow_pos}
use Rattle.fax_bits.proofs.CodeBitsLemmas.{code_bits-add, length-code_bits}
use Rattle.std.proofs.lemmas.List.{append_cancel_left, take-append-le, take-append-drop, length-take-le}
use Rattle.std.proofs.Math.Seq.{take-length}
use Rattle.std.proofs.lemmas.List.Concat.{flat_map-append}
use Rattle.fax_bits.specs.declared.FillOrder.TheVariants.{MsbFirst}
use Rattle.fax_bits.specs.Bits.{bits, byte_bits, code_bits, StartsWith, bits_number}
use Rattle.fax_bits.proofs.SinkLemmas.{bits-push, byte_bits-msb}
use Rattle.fax_bits.specs.views.Source.{IsTaken}
use Rattle.fax_bits.proofs.NumberLemmas.{code_bits-number, number-code_bits}
use Rattle.fax_bits.proofs.PeekLemmas.{padded}

-- bits that spell a number
pub spelled : (b : List Bool) (len number : ℕ) → len ≤ length b → bits_number (take len (padded b len)) ≡ number
    → b ≡ code_bits len number ++ drop len b
spelled b len number enough spells =
    let here : take len (padded b len) ≡ take len b = take-append-le len b (replicate len false) enough in
    let long : length (take len b) ≡ len = length-take-le len b enough in
    let front : code_bits len number ≡ take len b =
    ap (code_bits len) (sym spells ∙ ap bits_number here) ∙ ap (λ n. code_bits n (bits_number (take len b))) (sym long)
    ∙ code_bits-number (take len b) in
    sym (take-append-drop len b) ∙ ap (λ c. c ++ drop len b) (sym front)

-- bits that begin with those of a number are as many, and spell it
pub as_many : (b : List Bool) (len number : ℕ) → StartsWith b (code_bits len number) → len ≤ length b
as_many b len number begins = grind (arith, length-append, length-code_bits)

pub spells_it : (b : List Bool) (len number : ℕ) → number < 2 ^ len → StartsWith b (code_bits len number)
    → bits_number (take len (padded b len)) ≡ number
spells_it b len number fits begins = grind (arith, common_steps, length-code_bits, number-code_bits)

-- whether bits begin with these, after those that both begin with
pub begins_after : (b c front more : List Bool) → b ≡ front ++ c → StartsWith c more ↔ StartsWith b (front ++ more)
begins_after b c front more is = grind (arith, common_steps, append_cancel_left)

pub taken_iff : (front b : List Bool) (result : Bool) (rest : List Bool) → IsTaken front b result rest
    → IsTrue result ↔ StartsWith b front
taken_iff front b result rest taken = grind arith

-- whether bits begin with two parts, the first of which stands next
pub both_taken : (b middle front back : List Bool) (result : Bool) (rest : List Bool) → b ≡ front ++ middle
    → IsTaken back middle result rest
    → IsTrue result ↔ StartsWith b (front ++ back)
both_taken b middle front back result rest is taken =
    let here = taken_iff back middle result rest taken in
    let whole = begins_after b middle front back is in
    (λ yes. whole.0 (here.0 yes), λ begins. here.1 (whole.1 begins))

-- and where it does not
pub first_other : (b front back : List Bool) → (StartsWith b front → ⊥) → StartsWith b (front ++ back) → ⊥
first_other b front back other begins = other (back ++ begins.0, begins.1 ∙ append_assoc front back begins.0)

-- a number in two parts
module _ (len low number : ℕ) (within : low ≤ len) (short : len ≤ 48) (fits : number < 2 ^ len) where
  parts_are : len - low + low ≡ len
  parts_are = omega arith

  pub high_part-lt : number / 2 ^ low < 2 ^ (len - low)
  high_part-lt = shr_below number (len - low) low (subst (λ n. number < 2 ^ n) (sym parts_are) fits)

  pub low_part : bit_and number (1 * 2 ^ low % 2 ^ 64 - 1) ≡ number % 2 ^ low
  low_part = ap (λ n. bit_and number (n - 1)) (one_shl low 64 (omega arith)) ∙ and_mask number low

  pub two_parts : code_bits len number
      ≡ code_bits (len - low) (number / 2 ^ low) ++ code_bits low (bit_and number (1 * 2 ^ low % 2 ^ 64 - 1))
  two_parts =
      sym (ap (λ n. code_bits n number) parts_are) ∙ ap (code_bits (len - low + low)) (sym (shr_split number low))
      ∙ code_bits-add (len - low) low (number / 2 ^ low) (number % 2 ^ low) (mod_below number (2 ^ low) (pow_pos low))
      ∙ ap (λ n. code_bits (len - low) (number / 2 ^ low) ++ code_bits low n) (sym low_part)

-- the bits of bytes that stand one after another
bits-append : (bytes more : List ℕ) → bits MsbFirst (bytes ++ more) ≡ bits MsbFirst bytes ++ bits MsbFirst more
unfolding bits
bits-append bytes more = flat_map-append (byte_bits MsbFirst) bytes more

bits-cons : (byte : ℕ) (bytes : List ℕ) → bits MsbFirst (byte ∷ bytes) ≡ code_bits 8 byte ++ bits MsbFirst bytes
unfolding bits
bits-cons byte bytes = ap (λ b. b ++ bits MsbFirst bytes) (byte_bits-msb byte)

-- the bytes of a sink, compared one after another, with some pending bits after them
module _ (bytes : List ℕ) (i : ℕ) (source ahead : List Bool) (so_far : source ≡ bits MsbFirst (take i bytes) ++ ahead)
  where
    pub next_byte : (byte : ℕ) (rest : List Bool) → i < length bytes → byte ≡ get_or bytes i 0
        → ahead ≡ code_bits 8 byte ++ rest
        → source ≡ bits MsbFirst (take (i + 1) bytes) ++ rest
    next_byte byte rest within byte_is taken = grind (arith, common_steps, byte_bits-msb, bits-push)

    pub other_byte : (byte : ℕ) (pending : List Bool) → i < length bytes → byte ≡ get_or bytes i 0
        → (StartsWith ahead (code_bits 8 byte) → ⊥) → StartsWith source (bits MsbFirst bytes ++ pending) → ⊥
    other_byte byte pending within byte_is other begins =
        let front = bits MsbFirst (take i bytes) in
        let here = code_bits 8 byte in
        let after = bits MsbFirst (drop (suc i) bytes) in
        let parts : bits MsbFirst bytes ≡ front ++ (here ++ after) =
        sym (ap (bits MsbFirst) (take-append-drop i bytes)) ∙ ap (λ xs. bits MsbFirst (take i bytes ++ xs))
        (drop-cons bytes i 0 within)
        ∙ bits-append (take i bytes) (get_or bytes i 0 ∷ drop (suc i) bytes)
        ∙ ap (λ b. front ++ b) (bits-cons (get_or bytes i 0) (drop (suc i) bytes)
        ∙ ap (λ n. code_bits 8 n ++ after) (sym byte_is)) in
        let all : bits MsbFirst bytes ++ pending ≡ front ++ (here ++ (after ++ pending)) =
        ap (λ b. b ++ pending) parts ∙ append_assoc front (here ++ after) pending
        ∙ ap (λ b. front ++ b) (append_assoc here after pending) in
        let more =
        (begins_after source ahead front (here ++ (after ++ pending)) so_far).1
        (begins.0, begins.1 ∙ ap (λ b. b ++ begins.0) all) in
        other (after ++ pending ++ more.0, more.1 ∙ append_assoc here (after ++ pending) more.0)

    pub last_bits : (pending : List Bool) (result : Bool) → i ≡ length bytes → IsTrue result ↔ StartsWith ahead pending
        → IsTrue result ↔ StartsWith source (bits MsbFirst bytes ++ pending)
    last_bits pending result all here =
        let is : source ≡ bits MsbFirst bytes ++ ahead =
        so_far ∙ ap (λ n. bits MsbFirst (take n bytes) ++ ahead) all
        ∙ ap (λ xs. bits MsbFirst xs ++ ahead) (take-length bytes) in
        let whole = begins_after source ahead (bits MsbFirst bytes) pending is in
        (λ yes. whole.0 (here.0 yes), λ begins. here.1 (whole.1 begins))
