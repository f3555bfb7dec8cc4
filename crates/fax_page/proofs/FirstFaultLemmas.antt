-- Eleven zeros where a row's first code is expected, as the program takes them.
use Rattle.fax_page.specs.code.Starts.{BeginsBelowEleven}
use Rattle.std.proofs.Common.{◌≡◌, ℕ, List, ◌++◌, replicate, Bool, false, refl, ap, sym, ◌∙◌, inl, inr, arith}
use Rattle.std.proofs.Common.{length}
use Rattle.std.proofs.lemmas.Bool.{cases_lt}
use Rattle.std.proofs.lemmas.List.{length-replicate}
use Rattle.fax_bits.specs.Bits.{StartsWith, IsAllZeros, code_bits}
use Rattle.fax_bits.specs.views.Source.{HasLeadingZeros}
use Rattle.fax_page.specs.declared.StripFault.TheVariants.{DataEnds, EndMarker}
use Rattle.fax_page.specs.code.Starts.{IsFirstCodeFault}
use Rattle.fax_page.proofs.StartLaws.{code_at}
use Rattle.fax_page.proofs.StartLemmas.{eleven_ahead, eleven_alone}

eleven : code_bits 11 0 ≡ replicate 11 false
unfolding code_bits
eleven = refl

begins : (b : List Bool) → ((after : List Bool) × (b ≡ replicate 11 false ++ after)) → StartsWith b (code_bits 11 0)
begins b has = (has.0, has.1 ∙ ap (λ front. front ++ has.0) (sym eleven))

-- they stand there
pub marker_there : (b after : List Bool) → b ≡ code_bits 11 0 ++ after → IsFirstCodeFault b EndMarker
marker_there b after is = inl (after, is ∙ ap (λ front. front ++ after) eleven, refl)

-- they do not, and there is a 1
pub few_ahead : (b : List Bool) (zeros : ℕ) → (StartsWith b (code_bits 11 0) → ⊥) → HasLeadingZeros b zeros
    → BeginsBelowEleven b
few_ahead b zeros none ahead =
    elim (cases_lt zeros 11) [
      | inl few ↦ code_at b ahead.0 zeros few ahead.1
      | inr enough ↦ absurd (none (begins b (eleven_ahead b zeros enough ahead)))
    ]

-- or there is none
pub few_alone : (b : List Bool) → (StartsWith b (code_bits 11 0) → ⊥) → IsAllZeros b → IsFirstCodeFault b DataEnds
few_alone b none all =
    elim (cases_lt all.0 11) [
      | inl few ↦ inr (all.0, few, all.1, refl)
      | inr enough ↦
          let long : length b ≡ all.0 = ap length all.1 ∙ length-replicate all.0 false in
          absurd (none (begins b (eleven_alone b (omega arith) all)))
    ]
