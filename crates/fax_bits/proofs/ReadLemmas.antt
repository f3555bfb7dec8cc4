-- A code that is read by the number of the next bits.
use Rattle.std.proofs.lemmas.Grind.{common_steps}
use Rattle.std.proofs.Common.{◌≡◌, ℕ, ◌+◌, ◌-◌, ◌^◌, ◌<◌, ◌≤◌, List, ◌∷◌, ◌++◌, length, take, drop, Bool, ap, sym, ◌∙◌}
use Rattle.std.proofs.Common.{arith, append_assoc, length-append, length-take}
use Rattle.std.proofs.Math.Seq.{take-append-add}
use Rattle.std.proofs.lemmas.List.{take-append-drop}
use Rattle.fax_bits.specs.declared.codes.CodeEntry.{CodeEntry}
use Rattle.fax_bits.specs.Bits.{bits_number, code_bits}
use Rattle.fax_bits.specs.Codes.{bits_of, HasNoCode, Decodes}
use Rattle.std.specs.Prelude.{Contains}
use Rattle.fax_bits.proofs.ReadingLemmas.{IsCutBy}
use Rattle.fax_bits.specs.views.Codes.{HasCodeAhead, HasShortCodes}
use Rattle.fax_bits.proofs.CodeBitsLemmas.{length-code_bits, ahead_fits}
use Rattle.fax_bits.proofs.NumberLemmas.{code_bits-number}
use Rattle.fax_bits.proofs.PeekLemmas.{padded, bits_number-lt}
use Rattle.fax_bits.proofs.TableLemmas.{left_after}

-- the next n bits, where there are so many
module _ (remaining : List Bool) (n : ℕ) (all : n ≤ length remaining) where
  length-next : length (take n remaining) ≡ n
  length-next = length-take n remaining ∙ omega arith

  pub peeked_bits : (number : ℕ) → number ≡ bits_number (take n (padded remaining n)) → code_bits n number
      ≡ take n remaining
  peeked_bits number is = grind (arith, common_steps, length-next, code_bits-number)

  pub peeked-below : (number : ℕ) → number ≡ bits_number (take n (padded remaining n)) → number < 2 ^ n
  peeked-below number is = grind (arith, common_steps, bits_number-lt)

-- a code that begins the next bits is taken
pub takes_found : {M : Type 0} {table : List (CodeEntry M)} {remaining b : List Bool} (n : ℕ) {len : ℕ} {meaning : M}
    → b ≡ take n remaining
    → HasCodeAhead table b len meaning → Decodes table remaining meaning (drop len remaining)
takes_found {remaining = remaining} n {len = len} next found = record {
  entry = found.entry;
  listed = found.listed;
  means = found.means;
  spelled =
      left_after remaining (bits_of found.entry) (found.ahead.0 ++ drop n remaining) len
      (sym (take-append-drop n remaining) ∙ ap (λ xs. xs ++ drop n remaining) (sym next ∙ found.ahead.1)
      ∙ append_assoc (bits_of found.entry) found.ahead.0 (drop n remaining))
      (length-code_bits found.entry.len found.entry.code ∙ found.length);
}

-- and is no longer than the next bits
pub found_is_short : {M : Type 0} {table : List (CodeEntry M)} (n number : ℕ) {len : ℕ} {meaning : M}
    → HasCodeAhead table (code_bits n number) len meaning → len ≤ n
found_is_short n number found =
    omega (
      arith,
      found.length,
      ahead_fits found.entry.len found.entry.code (code_bits n number) found.ahead,
      length-code_bits n number,
    )

-- none begins the bits where none begins the next ones: 13, or all of them
pub none_begins : {M : Type 0} (table : List (CodeEntry M)) {remaining b : List Bool} {n : ℕ} → HasShortCodes table
    → n ≤ length remaining
    → ((k : ℕ) → k ≤ 13 → k ≤ length remaining → k ≤ n) → b ≡ take n remaining → HasNoCode table b
    → HasNoCode table remaining
none_begins table {remaining = remaining} {n = n} short within all next none entry here ahead =
    let in_next : entry.len ≤ n = all entry.len (short entry here).1 (ahead_fits entry.len entry.code remaining ahead)
    in
    let e : n ≡ length (bits_of entry) + (n - entry.len) = omega (arith, length-code_bits entry.len entry.code) in
    none entry here (
      take (n - entry.len) ahead.0,
      next ∙ ap (take n) ahead.1 ∙ ap (λ k. take k (bits_of entry ++ ahead.0)) e
          ∙ take-append-add (bits_of entry) ahead.0 (n - entry.len),
    )

-- 13 bits end within no code
pub not_cut : {M : Type 0} (table : List (CodeEntry M)) (remaining : List Bool) → HasShortCodes table
    → 13 ≤ length remaining
    → (entry : CodeEntry M) → Contains table entry → IsCutBy (bits_of entry) remaining → ⊥
not_cut table remaining short long entry listed cut =
    omega (
      arith,
      long,
      (short entry listed).1,
      length-code_bits entry.len entry.code,
      length-append remaining (cut.0 ∷ cut.1),
      ap length cut.2,
    )
