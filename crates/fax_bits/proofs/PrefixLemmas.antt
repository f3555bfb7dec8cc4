-- A table that keeps its rules is read in one way.
use Rattle.std.proofs.Common.{◌≡◌, List, [], ◌∷◌, ◌++◌, length, length-append, Bool, refl, ap, sym, ◌∙◌, arith}
use Rattle.std.proofs.Common.{inl, inr}
use Rattle.std.proofs.lemmas.Grind.{common_steps}
use Rattle.std.specs.Prelude.{◌⊎◌, Contains}
use Rattle.std.proofs.lemmas.List.{append_cancel_left}
use Rattle.std.proofs.lemmas.Option.{slice_get_read}
use Rattle.fax_bits.specs.declared.codes.CodeEntry.{CodeEntry}
use Rattle.fax_bits.specs.Codes.{bits_of, Decodes}
use Rattle.fax_bits.specs.views.Codes.{HasShortCodes, IsPrefixFree}
use Rattle.fax_bits.specs.laws.Codes.{HasOneAnswer, TakesBits}
use Rattle.fax_bits.proofs.CodeBitsLemmas.{length-code_bits}

-- of two codes that begin the same bits one begins the other
one_starts_the_other : (a b r s : List Bool) → a ++ r ≡ b ++ s
    → ((more : List Bool) × (b ≡ a ++ more)) ⊎ ((more : List Bool) × (a ≡ b ++ more))
one_starts_the_other [] b r s is = inl (b, refl)
one_starts_the_other (x ∷ a) [] r s is = inr (x ∷ a, refl)
one_starts_the_other (x ∷ a) (y ∷ b) r s is =
    let rest : a ++ r ≡ b ++ s = cc in
    elim (one_starts_the_other a b r s rest) [
      | inl shorter ↦ inl (shorter.0, cc)
      | inr longer ↦ inr (longer.0, cc)
    ]

took_same : {M : Type 0} (table : List (CodeEntry M)) (b : List Bool) (meaning other : M) (rest remaining : List Bool)
    → (first : Decodes table b meaning rest) → (second : Decodes table b other remaining) → first.entry ≡ second.entry
    → (meaning ≡ other) × (rest ≡ remaining)
took_same table b meaning other rest remaining first second same = grind (arith, common_steps, append_cancel_left)

-- an entry whose code begins the code of another is that entry
same_entry : {M : Type 0} (table : List (CodeEntry M)) (entry other : CodeEntry M) (more : List Bool)
    → IsPrefixFree table
    → Contains table entry → Contains table other → bits_of other ≡ bits_of entry ++ more → entry ≡ other
same_entry table entry other more free here there is = grind (arith, common_steps, slice_get_read)

pub takes_one : {M : Type 0} (table : List (CodeEntry M)) → IsPrefixFree table → HasOneAnswer (Decodes table)
takes_one table free b meaning other rest remaining first second =
    elim (one_starts_the_other (bits_of first.entry) (bits_of second.entry) rest remaining
    (sym first.spelled ∙ second.spelled)) [
      | inl longer ↦
          took_same table b meaning other rest remaining first second
          (same_entry table first.entry second.entry longer.0 free first.listed second.listed longer.1)
      | inr shorter ↦
          took_same table b meaning other rest remaining first second
          (sym (same_entry table second.entry first.entry shorter.0 free second.listed first.listed shorter.1))
    ]

pub takes_bits : {M : Type 0} (table : List (CodeEntry M)) → HasShortCodes table → TakesBits table
takes_bits table short b meaning rest takes =
    let some = (short takes.entry takes.listed).0 in
    omega (
      arith,
      some,
      length-code_bits takes.entry.len takes.entry.code,
      length-append (bits_of takes.entry) rest,
      ap length
          takes.spelled,
    )
