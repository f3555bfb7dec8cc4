-- Runs, code by code.
use Rattle.std.proofs.Common.{◌≡◌, ℕ, ◌+◌, List, [], ◌∷◌, ◌++◌, map, Bool, ap, sym, ◌∙◌, subst, arith}
use Rattle.std.proofs.Common.{append_assoc}
use Rattle.std.specs.Prelude.{sum}
use Rattle.std.proofs.lemmas.Grind.{common_steps}
use Rattle.fax_bits.specs.declared.codes.CodeEntry.{CodeEntry}
use Rattle.fax_bits.specs.declared.Colour.{Colour}
use Rattle.fax_bits.specs.declared.run_codes.RunCode.TheVariants.{Terminating, MakeUp}
use Rattle.fax_bits.specs.Tables.{run_table}
use Rattle.fax_bits.specs.Written.{run_bits}
use Rattle.fax_bits.specs.laws.Codes.{ChosenCodesAreWritten}
use Rattle.fax_bits.specs.Codes.{Decodes, DecodesAll, IsRun, bits_of}

pub sum-push : (ms : List ℕ) (m : ℕ) → sum (ms ++ m ∷ []) ≡ sum ms + m
sum-push ms m = grind (arith, common_steps)

-- make-up codes of the longest run so far: with a run after them that is written, they are one that
-- is written
abbrev pub AreLongestMakeUp : Colour → List Bool → ℕ → List Bool → Type 0
AreLongestMakeUp colour b n rest = (m : ℕ) (after : List Bool) → rest ≡ run_bits colour m ++ after
    → b ≡ run_bits colour (n + m) ++ after

-- with a terminating code after them, the make-up codes so far are a run that is written
abbrev pub AreChosen : Colour → List Bool → ℕ → List Bool → Type 0
AreChosen colour b n rest =
    (m : ℕ) (after : List Bool) → Decodes (run_table colour) rest (Terminating m) after
    → b ≡ run_bits colour (n + m) ++ after

module _ (law : ChosenCodesAreWritten) (colour : Colour) (b : List Bool) where
  pub none_longest : AreLongestMakeUp colour b 0 b
  none_longest = λ m after written. subst (λ k. b ≡ run_bits colour k ++ after) (omega arith) written

  pub none_chosen : AreChosen colour b 0 b
  none_chosen = λ m after taken. none_longest m after (law.short colour b m after taken)

  -- after the longest ones any make-up code may be the last
  pub one_chosen : (n m : ℕ) (mid rest : List Bool) → AreLongestMakeUp colour b n mid
      → Decodes (run_table colour) mid (MakeUp m) rest
      → AreChosen colour b (n + m) rest
  one_chosen n m mid rest are first = λ k after last.
      let sum_is : n + (m + k) ≡ n + m + k = omega arith in
      subst (λ j. b ≡ run_bits colour j ++ after) sum_is (are (m + k) after
      (law.long colour mid m k rest after first last))

  pub one_longest : (n m : ℕ) (mid rest : List Bool) → AreLongestMakeUp colour b n mid → m ≡ 2560
      → Decodes (run_table colour) mid (MakeUp m) rest → AreLongestMakeUp colour b (n + m) rest
  one_longest n m mid rest are most first = λ k after written.
      let sum_is : n + (2560 + k) ≡ n + m + k = omega (arith, most) in
      let taken = subst (λ j. Decodes (run_table colour) mid (MakeUp j) rest) most first in
      subst (λ j. b ≡ run_bits colour j ++ after) sum_is (are (2560 + k) after
      (law.longest colour mid k rest after taken written))

-- codes stand before what is left after them
pub spells_after : {M : Type 0} (table : List (CodeEntry M)) (b : List Bool) (ms : List M) (rest : List Bool)
    → DecodesAll table b ms rest → (front : List Bool) × (b ≡ front ++ rest)
spells_after table b [] rest spelled = ([], spelled)
spells_after table b (m ∷ ms) rest spelled =
    let more = spells_after table spelled.0 ms rest spelled.2 in
    let code = bits_of spelled.1.entry in
    (code ++ more.0, spelled.1.spelled ∙ ap (λ c. code ++ c) more.1 ∙ sym (append_assoc code more.0 rest))

pub run_after : {colour : Colour} {b : List Bool} {n : ℕ} {rest : List Bool} → IsRun colour b n rest
    → (front : List Bool) × (b ≡ front ++ rest)
run_after {colour =
    colour} {b = b} {rest = rest} run = spells_after (run_table colour) b
    (map MakeUp run.make_up ++ Terminating run.last ∷ []) rest run.spelled
