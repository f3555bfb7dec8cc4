-- Fill before an EOL.
use Rattle.fax_page.specs.code.Starts.{IsEndOfLine}
use Rattle.std.proofs.Common.{◌≡◌, ℕ, zero, suc, ◌+◌, ◌<◌, ◌^◌, List, ◌∷◌, ◌++◌, length, replicate, Bool, true, false}
use Rattle.std.proofs.Common.{nat_eq, sym, ap}
use Rattle.std.proofs.Common.{◌∙◌, arith, append_assoc}
use Rattle.std.proofs.Math.Nat.{pow-le-pow_right}
use Rattle.std.proofs.lemmas.Nat.Bits.{bit_at_above}
use Rattle.std.proofs.lemmas.List.{replicate-append-replicate}
use Rattle.fax_bits.specs.Bits.{code_bits}
use Rattle.fax_bits.specs.views.Sink.{Sink, Appends}
use Rattle.fax_page.specs.Strip.{eol_bits, fill_zeros}
use Rattle.fax_page.proofs.StartLaws.{eol_at}

-- a number that fits fits more bits too
pub fits_more : (n len number : ℕ) → number < 2 ^ len → number < 2 ^ (len + n)
fits_more n len number fits = grind (arith, pow-le-pow_right)

-- the bits of a number after zeros
pub code_bits-after_zeros : (n len number : ℕ) → number < 2 ^ len
    → code_bits (len + n) number ≡ replicate n false ++ code_bits len number
unfolding code_bits
code_bits-after_zeros zero len number fits = grind arith
code_bits-after_zeros (suc n) len number fits =
    let e : len + suc n ≡ suc (len + n) = omega arith in
    ap (λ m. code_bits m number) e
    ∙ ap (λ bit. nat_eq bit 1 ∷ code_bits (len + n) number) (bit_at_above number len (len + n) fits (omega arith))
    ∙ ap (λ more. false ∷ more) (code_bits-after_zeros n len number fits)

-- bits that begin with fill and an EOL
pub end_of_line_back : (n : ℕ) (tail codes more : List Bool)
    → IsEndOfLine (((replicate n false ++ (eol_bits ++ tail)) ++ codes) ++ more) (tail ++ (codes ++ more))
end_of_line_back n tail codes more =
    let rest = tail ++ (codes ++ more) in
    let parts = append_assoc (replicate n false ++ (eol_bits ++ tail)) codes more
    ∙ append_assoc (replicate n false) (eol_bits ++ tail) (codes ++ more) in
    let zeros = sym (append_assoc (replicate n false) (replicate 11 false) (true ∷ rest))
    ∙ ap (λ (b : List Bool). b ++ true ∷ rest) (replicate-append-replicate n 11 false) in
    eol_at _ rest (n + 11) (omega arith) (parts ∙ zeros)

-- bits that a number spells are put after fill
pub put_after_fill : (old new : Sink) (aligned : Bool) (place fill len number : ℕ) (start : List Bool)
    → place ≡ length old.bits
    → fill ≡ fill_zeros aligned place → number < 2 ^ len → code_bits len number ≡ start
    → Appends old (code_bits (len + fill) number) new
    → Appends old (replicate (fill_zeros aligned (length old.bits)) false ++ start) new
put_after_fill old new aligned place fill len number start here is fits spells put =
    grind (arith, code_bits-after_zeros)
