-- Runs that are written are read again, and as nothing else.
use Rattle.std.proofs.lemmas.Grind.{common_steps}
use Rattle.std.proofs.Common.{◌≡◌, ℕ, zero, suc, ◌+◌, ◌*◌, ◌/◌, ◌%◌, ◌<◌, ◌≤◌, List, [], ◌∷◌, ◌++◌, map, replicate}
use Rattle.std.proofs.Common.{Bool}
use Rattle.std.proofs.Common.{refl, ap, sym, ◌∙◌, subst, arith, append_assoc, append-nil}
use Rattle.std.specs.Prelude.{sum, flat_map}
use Rattle.fax_bits.specs.declared.codes.CodeEntry.{CodeEntry}
use Rattle.fax_bits.specs.declared.Colour.{Colour}
use Rattle.fax_bits.specs.declared.run_codes.RunCode.{RunCode}
use Rattle.fax_bits.specs.declared.run_codes.RunCode.TheVariants.{Terminating, MakeUp}
use Rattle.fax_bits.specs.Codes.{DecodesAll, IsRun}
use Rattle.fax_bits.specs.laws.Codes.{HasOneAnswer, RunBitsAreRead, RunBitsAreOneRun}
use Rattle.fax_bits.specs.Written.{run_code_bits, run_codes, run_bits}
use Rattle.fax_bits.specs.code.Codes.{one_make_up, run_meaning}
use Rattle.fax_bits.specs.code.TableLaws.{run_table_is_prefix_free}
use Rattle.fax_bits.specs.Tables.{run_table}
use Rattle.fax_bits.proofs.PrefixLemmas.{takes_one}
use Rattle.fax_bits.proofs.RunCodeLemmas.{takes_run_code, run_meaning-terminating, run_meaning-make_up}

-- ---- a run that is written is read again

spells-append : {M : Type 0} (table : List (CodeEntry M)) (b middle rest : List Bool) (codes others : List M)
    → DecodesAll table b codes middle → DecodesAll table middle others rest → DecodesAll table b (codes ++ others) rest
spells-append table b middle rest [] others first second = subst (λ x. DecodesAll table x others rest) (sym first)
    second
spells-append table b middle rest (code ∷ codes) others first second =
    (first.0, first.1, spells-append table first.0 middle rest codes others first.2 second)

spells_one : (colour : Colour) (index : ℕ) (code : RunCode) (more : List Bool) → index < 105 → run_meaning index ≡ code
    → DecodesAll (run_table colour) (run_code_bits colour code ++ more) (code ∷ []) more
spells_one colour index code more within is = grind (arith, takes_run_code)

spells_terminating : (colour : Colour) (n : ℕ) (more : List Bool) → n < 64
    → DecodesAll (run_table colour) (run_code_bits colour (Terminating n) ++ more) (Terminating n ∷ []) more
spells_terminating colour n more short = spells_one colour n (Terminating n) more (omega arith)
    (run_meaning-terminating n short)

spells_make_up : (colour : Colour) (steps : ℕ) (more : List Bool) → 0 < steps → steps ≤ 40
    → DecodesAll (run_table colour) (run_code_bits colour (MakeUp (64 * steps)) ++ more) (MakeUp (64 * steps) ∷ []) more
spells_make_up colour steps more some few =
    spells_one colour (63 + steps) (MakeUp (64 * steps)) more (omega arith) (run_meaning-make_up steps some few)

spells_often : (colour : Colour) (q : ℕ) (more : List Bool)
    → DecodesAll (run_table colour) (flat_map (run_code_bits colour) (replicate q (MakeUp 2560)) ++ more)
    (replicate q (MakeUp 2560)) more
spells_often colour zero more = refl
spells_often colour (suc q) more =
    let f = run_code_bits colour in
    let rest = flat_map f (replicate q (MakeUp 2560)) ++ more in
    let first : DecodesAll (run_table colour) (f (MakeUp 2560) ++ rest) (MakeUp 2560 ∷ []) rest =
    spells_make_up colour 40 rest (omega arith) (omega arith) in
    subst (λ b. DecodesAll (run_table colour) b (MakeUp 2560 ∷ replicate q (MakeUp 2560)) more)
    (sym (append_assoc (f (MakeUp 2560)) (flat_map f (replicate q (MakeUp 2560))) more))
    (spells-append (run_table colour) (f (MakeUp 2560) ++ rest) rest more (MakeUp 2560 ∷ []) (replicate q (MakeUp 2560))
    first
    (spells_often colour q more))

spells_rest : (colour : Colour) (steps : ℕ) (more : List Bool) → steps ≤ 40
    → DecodesAll (run_table colour) (flat_map (run_code_bits colour) (one_make_up steps)
    ++ more) (one_make_up steps) more
spells_rest colour zero more few = refl
spells_rest colour (suc k) more few = grind (arith, common_steps, spells_make_up)

-- codes that are spelled by their own bits, whatever follows them
abbrev SpelledByOwn : Colour → List RunCode → Type 0
SpelledByOwn colour codes = (more : List Bool) → DecodesAll (run_table colour)
    (flat_map (run_code_bits colour) codes ++ more) codes more

spelled-both : (colour : Colour) (codes others : List RunCode) → SpelledByOwn colour codes → SpelledByOwn colour others
    → SpelledByOwn colour (codes ++ others)
spelled-both colour codes others first second more = grind (arith, common_steps, spells-append)

spelled-terminating : (colour : Colour) (n : ℕ) → n < 64 → SpelledByOwn colour (Terminating n ∷ [])
spelled-terminating colour n short more =
    subst (λ b. DecodesAll (run_table colour) (b ++ more) (Terminating n ∷ []) more)
    (sym (append-nil (run_code_bits colour (Terminating n))))
    (spells_terminating colour n more short)

spelled-run : (colour : Colour) (n : ℕ) → SpelledByOwn colour (run_codes n)
spelled-run colour n = grind (arith, spelled-both, spells_often, spells_rest, spelled-terminating)

-- the pels of one_make_up
abbrev rest_pels : ℕ → List ℕ
rest_pels zero = []
rest_pels (suc k) = 64 * suc k ∷ []

map-replicate : (q pels : ℕ) → map MakeUp (replicate q pels) ≡ replicate q (MakeUp pels)
map-replicate zero pels = refl
map-replicate (suc q) pels = ap (λ codes. MakeUp pels ∷ codes) (map-replicate q pels)

codes_are : (n : ℕ) → map MakeUp (replicate (n / 2560) 2560 ++ rest_pels (n % 2560 / 64)) ++ Terminating (n % 64) ∷ []
    ≡ run_codes n
codes_are n = grind (arith, common_steps, map-replicate)

pels_are : (n : ℕ) → sum (replicate (n / 2560) 2560 ++ rest_pels (n % 2560 / 64)) + n % 64 ≡ n
pels_are n = grind (arith, common_steps)

pub run_bits_are_read : RunBitsAreRead
unfolding run_bits
run_bits_are_read colour n more few = record {
  make_up = replicate (n / 2560) 2560 ++ rest_pels (n % 2560 / 64);
  last = n % 64;
  spelled =
      subst (λ codes. DecodesAll (run_table colour) (run_bits colour n ++ more) codes more) (sym (codes_are n))
      (spelled-run colour n more);
  length = sym (pels_are n);
}

-- ---- and as nothing else

-- two readings of a run
same_run : (colour : Colour) (b : List Bool) (pels others : List ℕ) (last end : ℕ) (rest remaining : List Bool)
    → DecodesAll (run_table colour) b (map MakeUp pels ++ Terminating last ∷ []) rest
    → DecodesAll (run_table colour) b (map MakeUp others ++ Terminating end ∷ []) remaining
    → (pels ≡ others) × (last ≡ end) × (rest ≡ remaining)
same_run colour b [] [] last end rest remaining first second =
    let same = takes_one (run_table colour) (run_table_is_prefix_free colour) b _ _ _ _ first.1 second.1 in
    (refl, cc (same.0), sym first.2 ∙ same.1 ∙ second.2)
same_run colour b [] (n ∷ others) last end rest remaining first second =
    let same = takes_one (run_table colour) (run_table_is_prefix_free colour) b _ _ _ _ first.1 second.1 in
    absurd (cc (same.0))
same_run colour b (n ∷ pels) [] last end rest remaining first second =
    let same = takes_one (run_table colour) (run_table_is_prefix_free colour) b _ _ _ _ first.1 second.1 in
    absurd (cc (same.0))
same_run colour b (n ∷ pels) (m ∷ others) last end rest remaining first second =
    let same = takes_one (run_table colour) (run_table_is_prefix_free colour) b _ _ _ _ first.1 second.1 in
    let here : n ≡ m = cc (same.0) in
    let after = same_run colour first.0 pels others last end rest remaining first.2
    (subst (λ x. DecodesAll (run_table colour) x (map MakeUp others ++ Terminating end ∷ []) remaining) (sym same.1)
    second.2) in
    (cc (here, after.0), after.1, after.2)

pub runs_are_one : (colour : Colour) → HasOneAnswer (IsRun colour)
runs_are_one colour b n m rest remaining first second = grind (arith, same_run)

pub run_bits_are_one_run : RunBitsAreOneRun
run_bits_are_one_run colour n m more rest few is =
    runs_are_one colour (run_bits colour n ++ more) n m more rest (run_bits_are_read colour n more few) is
