-- Words of 64 bits: `count` bits, the highest first, with zeros after them.
use Rattle.fax_bits.proofs.CodeBitsLemmas.{code_bits-zeros, code_bits-add, length-code_bits}
use Rattle.std.proofs.lemmas.Grind.{common_steps}
use Rattle.std.proofs.Common.{◌≡◌, ℕ, zero, suc, ◌+◌, ◌-◌, ◌*◌, ◌/◌, ◌%◌, ◌^◌, ◌<◌, ◌≤◌, List, [], ◌∷◌, ◌++◌, length}
use Rattle.std.proofs.Common.{take, drop, replicate}
use Rattle.std.proofs.Common.{get_or, Bool, true, false, nat_eq, refl, append_assoc, ap, sym, ◌∙◌, subst, arith}
use Rattle.std.proofs.Common.{add-zero}
use Rattle.std.specs.Prelude.{bit_or}
use Rattle.std.specs.Int.{bit_at}
use Rattle.std.proofs.Math.Nat.{add-mul, div-div-eq-div-mul, mul-mod_left}
use Rattle.std.proofs.Math.Seq.{drop-append_seam, take-append_seam}
use Rattle.std.proofs.lemmas.List.{take-append-le, take-append-drop, take-replicate, replicate-append-replicate}
use lib.Count.{count_leading_zeros}
use Rattle.std.proofs.lemmas.Nat.{leading_length, mod-pow-add, mod_below, or_shifted, pow-add, pow_pos, shl_below}
use Rattle.std.proofs.lemmas.Nat.{shl-shr}
use Rattle.std.proofs.lemmas.Nat.{shl_whole, shr_below, shr_split}
use Rattle.fax_bits.specs.Bits.{code_bits, bits_number}
use Rattle.fax_bits.specs.views.Source.{HasLeadingZeros}
use Rattle.fax_bits.specs.code.Window.{first_bits}
use Rattle.fax_bits.proofs.NumberLemmas.{number-code_bits}

-- a word whose bits are those of a number below 2 ^ count
pub first_bits-of : (count number word : ℕ) → word ≡ number * 2 ^ (64 - count)
    → first_bits count word ≡ code_bits count number
first_bits-of count number word is = ap (code_bits count) (ap (λ w. w / 2 ^ (64 - count)) is
    ∙ shl-shr number (64 - count))

pub zeros_after-of : (count number word : ℕ) → word ≡ number * 2 ^ (64 - count) → word % 2 ^ (64 - count) ≡ 0
zeros_after-of count number word is = ap (λ w. w % 2 ^ (64 - count)) is ∙ mul-mod_left number (2 ^ (64 - count))

word_is : (count word : ℕ) → word % 2 ^ (64 - count) ≡ 0 → word ≡ word / 2 ^ (64 - count) * 2 ^ (64 - count)
word_is count word zeros = omega (arith, shr_split word (64 - count), zeros)

-- a power that is moved over
moved : (number j k m : ℕ) → j + k ≡ m → number * 2 ^ j * 2 ^ k ≡ number * 2 ^ m
moved number j k m places = grind (arith, pow-add)

-- a word that is shifted by n of its bits
module _ (count word n remaining : ℕ) (few : count ≤ 64) (zeros : word % 2 ^ (64 - count) ≡ 0) (parts : remaining + n
    ≡ count)
  where
    pub shifted_is : word * 2 ^ n % 2 ^ 64 ≡ word / 2 ^ (64 - count) % 2 ^ remaining * 2 ^ (64 - remaining)
    shifted_is =
        let number = word / 2 ^ (64 - count) in
        let places : 64 - count + n ≡ 64 - remaining = omega arith in
        let all : remaining + (64 - remaining) ≡ 64 = omega arith in
        let up : word * 2 ^ n ≡ number * 2 ^ (64 - remaining) =
        ap (λ w. w * 2 ^ n) (word_is count word zeros) ∙ moved number (64 - count) n (64 - remaining) places in
        ap (λ w. w % 2 ^ 64) up ∙ ap (λ k. number * 2 ^ (64 - remaining) % 2 ^ k) (sym all)
        ∙ mod-pow-add (number * 2 ^ (64 - remaining)) remaining (64 - remaining)
        ∙ ap (λ low. number * 2 ^ (64 - remaining) / 2 ^ (64 - remaining) % 2 ^ remaining * 2 ^ (64 - remaining) + low)
        (mul-mod_left number (2 ^ (64 - remaining)))
        ∙ add-zero (number * 2 ^ (64 - remaining) / 2 ^ (64 - remaining) % 2 ^ remaining * 2 ^ (64 - remaining))
        ∙ ap (λ k. k % 2 ^ remaining * 2 ^ (64 - remaining)) (shl-shr number (64 - remaining))

    pub shifted_bits : first_bits remaining (word * 2 ^ n % 2 ^ 64) ≡ drop n (first_bits count word)
    shifted_bits =
        let number = word / 2 ^ (64 - count) in
        let all : n + remaining ≡ count = omega arith in
        let low = mod_below number (2 ^ remaining) (pow_pos remaining) in
        let split : code_bits count number ≡ code_bits n (number / 2 ^ remaining)
        ++ code_bits remaining (number % 2 ^ remaining) =
        sym (ap (λ k. code_bits k number) all) ∙ ap (code_bits (n + remaining)) (sym (shr_split number remaining))
        ∙ code_bits-add n remaining (number / 2 ^ remaining) (number % 2 ^ remaining) low in
        first_bits-of remaining (number % 2 ^ remaining) (word * 2 ^ n % 2 ^ 64) shifted_is
        ∙ sym (drop-append_seam (code_bits n (number / 2 ^ remaining)) (code_bits remaining (number % 2 ^ remaining)))
        ∙ ap (λ k. drop k (code_bits n (number / 2 ^ remaining) ++ code_bits remaining (number % 2 ^ remaining)))
        (length-code_bits n (number / 2 ^ remaining))
        ∙ ap (drop n) (sym split)

    pub shifted_zeros : word * 2 ^ n % 2 ^ 64 % 2 ^ (64 - remaining) ≡ 0
    shifted_zeros = zeros_after-of remaining (word / 2 ^ (64 - count) % 2 ^ remaining) (word * 2 ^ n % 2 ^ 64)
        shifted_is

-- a word to which k bits are added
module _ (k count word more : ℕ) (room : count + k ≤ 64) (zeros : word % 2 ^ (64 - count) ≡ 0) (fits : more < 2 ^ k)
  where
    pub loaded_is : bit_or word (more * 2 ^ (64 - k - count) % 2 ^ 64)
        ≡ (word / 2 ^ (64 - count) * 2 ^ k + more) * 2 ^ (64 - (count + k))
    loaded_is =
        let number = word / 2 ^ (64 - count) in
        let places : k + (64 - k - count) ≡ 64 - count = omega arith in
        let rest : 64 - k - count ≡ 64 - (count + k) = omega arith in
        let low : more * 2 ^ (64 - k - count) < 2 ^ (64 - count) =
        subst (λ j. more * 2 ^ (64 - k - count) < 2 ^ j) places (shl_below more k (64 - k - count) fits) in
        ap (bit_or word) (shl_whole more k (64 - k - count) 64 fits (omega arith))
        ∙ ap (λ w. bit_or w (more * 2 ^ (64 - k - count))) (word_is count word zeros)
        ∙ or_shifted number (64 - count) (more * 2 ^ (64 - k - count)) low
        ∙ ap (λ high. high + more * 2 ^ (64 - k - count)) (sym (moved number k (64 - k - count) (64 - count) places))
        ∙ sym (add-mul (number * 2 ^ k) more (2 ^ (64 - k - count)))
        ∙ ap (λ j. (number * 2 ^ k + more) * 2 ^ j) rest

    pub loaded_bits : first_bits (count + k) (bit_or word (more * 2 ^ (64 - k - count) % 2 ^ 64))
        ≡ first_bits count word ++ code_bits k more
    loaded_bits =
        first_bits-of (count + k) (word / 2 ^ (64 - count) * 2 ^ k + more) _ loaded_is
        ∙ code_bits-add count k (word / 2 ^ (64 - count)) more fits

    pub loaded_zeros : bit_or word (more * 2 ^ (64 - k - count) % 2 ^ 64) % 2 ^ (64 - (count + k)) ≡ 0
    loaded_zeros = zeros_after-of (count + k) (word / 2 ^ (64 - count) * 2 ^ k + more) _ loaded_is

pub length-first_bits : (count word : ℕ) → length (first_bits count word) ≡ count
length-first_bits count word = length-code_bits count (word / 2 ^ (64 - count))

-- the next n bits of a word that has them, whatever follows
module _ (count word n : ℕ) (more : List Bool) (few : count ≤ 64) (within : n ≤ count) (fits : word < 2 ^ 64) where
  pub next_bits : take n (first_bits count word ++ more) ≡ code_bits n (word / 2 ^ (64 - n))
  next_bits =
      let number = word / 2 ^ (64 - count) in
      let short : n ≤ length (first_bits count word) = omega (arith, length-first_bits count word) in
      let all : n + (count - n) ≡ count = omega arith in
      let places : 64 - count + (count - n) ≡ 64 - n = omega arith in
      let high : number / 2 ^ (count - n) ≡ word / 2 ^ (64 - n) =
      div-div-eq-div-mul word (2 ^ (64 - count)) (2 ^ (count - n))
      ∙ ap (λ m. word / m) (sym (pow-add 2 (64 - count) (count - n)))
      ∙ ap (λ k. word / 2 ^ k) places in
      let split : code_bits count number ≡ code_bits n (number / 2 ^ (count - n))
      ++ code_bits (count - n) (number % 2 ^ (count - n)) =
      sym (ap (λ k. code_bits k number) all) ∙ ap (code_bits (n + (count - n))) (sym (shr_split number (count - n)))
      ∙ code_bits-add n (count - n) (number / 2 ^ (count - n)) (number % 2 ^ (count - n))
      (mod_below number (2 ^ (count - n)) (pow_pos (count - n))) in
      take-append-le n (first_bits count word) more short ∙ ap (take n) split
      ∙ sym (ap (λ k. take k (code_bits n (number / 2 ^ (count - n))
      ++ code_bits (count - n) (number % 2 ^ (count - n))))
      (length-code_bits n (number / 2 ^ (count - n))))
      ∙ take-append_seam (code_bits n (number / 2 ^ (count - n))) (code_bits (count - n) (number % 2 ^ (count - n)))
      ∙ ap (code_bits n) high

  pub next-lt : word / 2 ^ (64 - n) < 2 ^ n
  next-lt = grind (arith, shr_below)

  pub next_number : word / 2 ^ (64 - n) ≡ bits_number (take n (first_bits count word ++ more))
  next_number = grind (arith, next_bits, number-code_bits, next-lt)

-- a 1 after n zeros
one_bit : (n : ℕ) → code_bits (suc n) 1 ≡ replicate n false ++ true ∷ []
unfolding code_bits
one_bit zero = refl
one_bit (suc n) = grind (arith, one_bit n)

-- the highest bit of a word, which stands after its leading zeros
top_bit : (word n m : ℕ) → n + suc m ≡ 64 → word < 2 ^ suc m → 2 ^ suc m ≤ 2 * word + 1 → word / 2 ^ (64 - suc n) ≡ 1
top_bit word n m parts below most = grind (arith, common_steps)

leading_one : (word n m : ℕ) → n + m ≡ 64 → n < 64 → word < 2 ^ m → 2 ^ m ≤ 2 * word + 1 → word / 2 ^ (64 - suc n) ≡ 1
leading_one word n zero parts within below most = absurd (omega arith)
leading_one word n (suc m) parts within below most = top_bit word n m parts below most

pub zeros_before : (count word n : ℕ) (more : List Bool) → count ≤ 64 → word < 2 ^ 64
    → n ≡ count_leading_zeros 64 word → n < count → HasLeadingZeros (first_bits count word ++ more) n
zeros_before count word n more few fits is within = (
  drop (suc n) ahead,
  sym (take-append-drop (suc n) ahead) ∙ ap (λ b. b ++ drop (suc n) ahead) front
      ∙ append_assoc (replicate n false) (true ∷ []) (drop (suc n) ahead),
)
  where
    ahead : List Bool
    ahead = first_bits count word ++ more

    one : word / 2 ^ (64 - suc n) ≡ 1
    one =
        let size = leading_length 64 word fits in
        leading_one word n size.0 (omega (arith, is, size.1)) (omega arith) size.2 size.3

    front : take (suc n) (first_bits count word ++ more) ≡ replicate n false ++ true ∷ []
    front = next_bits count word (suc n) more few (omega arith) fits ∙ ap (code_bits (suc n)) one ∙ one_bit n

-- the next bit
pub first_is_one : (count word : ℕ) → count ≤ 64 → word < 2 ^ 64 → word % 2 ^ (64 - count) ≡ 0
    → nat_eq (word / 2 ^ 63) 1 ≡ get_or (first_bits count word) 0 false
unfolding code_bits
first_is_one zero word few fits zeros = grind (arith, common_steps)
first_is_one (suc count) word few fits zeros =
    let places : 64 - suc count + count ≡ 63 = omega arith in
    let top : word / 2 ^ (64 - suc count) / 2 ^ count ≡ word / 2 ^ 63 =
    div-div-eq-div-mul word (2 ^ (64 - suc count)) (2 ^ count)
    ∙ ap (λ m. word / m) (sym (pow-add 2 (64 - suc count) count))
    ∙ ap (λ k. word / 2 ^ k) places in
    let small : word / 2 ^ 63 < 2 = omega (arith, fits) in
    let bit : bit_at (word / 2 ^ (64 - suc count)) count ≡ word / 2 ^ 63 = omega (arith, top, small) in
    ap (λ n. nat_eq n 1) (sym bit)

-- the zeros after the first bits of a word
whole_word : (count word : ℕ) → count ≤ 64 → word % 2 ^ (64 - count) ≡ 0
    → first_bits 64 word ≡ first_bits count word ++ replicate (64 - count) false
whole_word count word few zeros =
    let number = word / 2 ^ (64 - count) in
    let all : count + (64 - count) ≡ 64 = omega arith in
    let same : word / 2 ^ (64 - 64) ≡ number * 2 ^ (64 - count) + 0 = omega (arith, word_is count word zeros) in
    ap (code_bits 64) same ∙ ap (λ n. code_bits n (number * 2 ^ (64 - count) + 0)) (sym all)
    ∙ code_bits-add count (64 - count) number 0 (pow_pos (64 - count))
    ∙ ap (λ b. code_bits count number ++ b) (code_bits-zeros (64 - count))

-- bits with zeros after them: as many as are taken are enough
take_padded : (b : List Bool) (n m : ℕ) → n ≤ m → take n (b ++ replicate m false) ≡ take n (b ++ replicate n false)
take_padded [] n m more = take-replicate n m false more ∙ sym (take-replicate n n false (omega arith))
take_padded (x ∷ b) zero m more = refl
take_padded (x ∷ b) (suc n) m more = ap (λ ys. x ∷ ys) (take_padded b n m (omega arith)
    ∙ sym (take_padded b n (suc n) (omega arith)))

-- the next n bits of a word, with zeros past its end
pub past_number : (count word n : ℕ) → count ≤ 64 → n ≤ 64 → word < 2 ^ 64 → word % 2 ^ (64 - count) ≡ 0
    → word / 2 ^ (64 - n) ≡ bits_number (take n (first_bits count word ++ replicate n false))
past_number count word n few short fits zeros =
    let front = first_bits count word in
    next_number 64 word n (replicate n false) (omega arith) short fits
    ∙ ap (λ b. bits_number (take n (b ++ replicate n false))) (whole_word count word few zeros)
    ∙ ap (λ b. bits_number (take n b)) (append_assoc front (replicate (64 - count) false) (replicate n false)
    ∙ ap (λ b. front ++ b) (replicate-append-replicate (64 - count) n false))
    ∙ ap bits_number (take_padded front n (64 - count + n) (omega arith))
