-- Zeros before a row.
use Rattle.fax_page.specs.code.Starts.{IsEndOfLine}
use Rattle.std.proofs.lemmas.Grind.{common_steps}
use Rattle.std.proofs.Common.{◌≡◌, ℕ, ◌+◌, ◌-◌, ◌≤◌, List, ◌∷◌, ◌++◌, length, drop, replicate, Bool, true, false, ap}
use Rattle.std.proofs.Common.{◌∙◌, arith}
use Rattle.std.proofs.Common.{append_assoc}
use Rattle.std.proofs.Math.Seq.{drop-append-add}
use Rattle.std.proofs.lemmas.List.{replicate-append-replicate, length-replicate}
use Rattle.fax_bits.specs.Bits.{IsAllZeros}
use Rattle.fax_bits.specs.views.Source.{HasLeadingZeros}
use Rattle.fax_page.proofs.StartLaws.{eol_at}

-- so many zeros begin with fewer
replicate-split : (n m : ℕ) → n ≤ m → replicate m false ≡ replicate n false ++ replicate (m - n) false
replicate-split n m h = grind (arith, replicate-append-replicate)

-- eleven zeros or more before a 1
pub eleven_ahead : (b : List Bool) (zeros : ℕ) → 11 ≤ zeros → HasLeadingZeros b zeros
    → (after : List Bool) × (b ≡ replicate 11 false ++ after)
eleven_ahead b zeros enough ahead = (
  replicate (zeros - 11) false ++ true ∷ ahead.0,
  ahead.1 ∙ ap (λ x. x ++ true ∷ ahead.0) (replicate-split 11 zeros enough)
      ∙ append_assoc (replicate 11 false) (replicate (zeros - 11) false) (true ∷ ahead.0),
)

-- eleven zeros or more, and nothing else
pub eleven_alone : (b : List Bool) → 11 ≤ length b → IsAllZeros b
    → (after : List Bool) × (b ≡ replicate 11 false ++ after)
eleven_alone b enough all =
    let zeros : length b ≡ all.0 = ap length all.1 ∙ length-replicate all.0 false in
    (replicate (all.0 - 11) false, all.1 ∙ replicate-split 11 all.0 (omega arith))

-- an EOL, after whose 1 the rest stands
pub eol_before : (b rest : List Bool) (zeros : ℕ) → 11 ≤ zeros → HasLeadingZeros b zeros → rest ≡ drop (zeros + 1) b
    → IsEndOfLine b rest
eol_before b rest zeros enough ahead rest_is =
    eol_at b rest zeros enough (grind (arith, common_steps, drop-append-add))
