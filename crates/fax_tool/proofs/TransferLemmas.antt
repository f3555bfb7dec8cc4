-- Bytes that move in several calls.
use Rattle.std.proofs.lemmas.Grind.{common_steps}
use Rattle.std.proofs.Common.{arith, ◌≡◌, ℕ, ◌+◌, ◌-◌, ◌≤◌, List, ◌++◌, length, take, drop, replicate, ap, sym, ◌∙◌}
use Rattle.std.proofs.Common.{append_assoc, length-drop, take-append-drop}
use Rattle.std.proofs.Math.Seq.{take-length}
use Rattle.std.proofs.KnownBytes.{Appends-trans}
use Rattle.std.proofs.lemmas.List.{take-replicate, replicate-append-replicate}
use Rattle.std.specs.Prelude.{Option, Result, Err, IfErr, ⊤}
use Rattle.std.specs.Io.KnownBytes.{Appends}
use Rattle.fax_tool.specs.declared.refusal.Refusal.{Refusal}
use Rattle.fax_tool.specs.Run.{Counts}
use Rattle.fax_tool.specs.code.Transfers.{IsGivenInPart}

-- some front of the bytes is written
pub record IsPartWritten (old new : Option (List ℕ)) (bytes rest : List ℕ) : Type 0 where
  pub front : List ℕ
  pub parts : bytes ≡ front ++ rest
  pub written : Appends old new front

-- what is left after n bytes, as the code cuts it
rest_after : (rest : List ℕ) (n : ℕ) → take (length rest - n) (drop n rest) ≡ drop n rest
rest_after rest n = ap (λ k. take k (drop n rest)) (sym (length-drop n rest)) ∙ take-length (drop n rest)

pub more_written : (old mid new : Option (List ℕ)) (bytes rest : List ℕ) (n : ℕ) → IsPartWritten old mid bytes rest
    → Appends mid new (take n rest) → IsPartWritten old new bytes (take (length rest - n) (drop n rest))
more_written old mid new bytes rest n part appends = rw (rest_after rest n) (record {
  front = part.front ++ take n rest;
  parts =
      part.parts ∙ ap (λ xs. part.front ++ xs) (sym (take-append-drop n rest))
      ∙ sym (append_assoc part.front (take n rest) (drop n rest));
  written = Appends-trans old mid new part.front (take n rest) part.written appends;
})

pub second_given : (old mid new : Option (List ℕ)) (first second : List ℕ) → Appends old mid first
    → Appends mid new second
    → Appends old new (first ++ second)
second_given old mid new first second = Appends-trans old mid new first second

-- the first part was given in part
pub first_given_in_part : (old new : Option (List ℕ)) (first second : List ℕ) (counts : Counts) (refusal : Refusal)
    → IsGivenInPart old new first counts refusal → IsGivenInPart old new (first ++ second) counts refusal
first_given_in_part old new first second counts refusal is = grind (arith, append_assoc)

pub second_given_err : (old mid new : Option (List ℕ)) (first second : List ℕ) (counts : Counts)
    (answer : Result ⊤ Refusal)
    → Appends old mid first → IfErr answer (IsGivenInPart mid new second counts)
    → IfErr answer (IsGivenInPart old new (first ++ second) counts)
second_given_err old mid new first second counts answer given is = grind (arith, common_steps)

-- zeros, of which some are left, are given from a block
module _ (block : List ℕ) (zeros remaining count : ℕ) (are : block
    ≡ replicate (length block) 0) (few : remaining ≤ zeros)
    (within : count ≤ remaining) (lent : count ≤ length block) where
  taken : take count block ≡ replicate count 0
  taken = ap (λ (l : List ℕ). take count l) are ∙ take-replicate count (length block) 0 lent

  pub zeros_more : replicate (zeros - remaining) 0 ++ take count block ≡ replicate (zeros - (remaining - count)) 0
  zeros_more =
      let sum : zeros - remaining + count ≡ zeros - (remaining - count) = omega (arith, few, within) in
      rw (taken, replicate-append-replicate {A = ℕ} (zeros - remaining) count 0) (ap (λ (n : ℕ). replicate n 0) sum)

  rest : replicate zeros 0 ≡ replicate (zeros - remaining) 0 ++ (take count block ++ replicate (remaining - count) 0)
  rest =
      let sum : zeros - remaining + (count + (remaining - count)) ≡ zeros = omega (arith, few, within) in
      let few : replicate count 0 ++ replicate (remaining - count) 0 ≡ replicate (count + (remaining - count)) 0 =
      replicate-append-replicate {A = ℕ} count (remaining - count) 0 in
      let all : replicate (zeros - remaining) 0 ++ replicate (count + (remaining - count)) 0 ≡ replicate zeros 0 =
      rw (replicate-append-replicate {A = ℕ} (zeros - remaining) (count + (remaining - count)) 0)
      (ap (λ (n : ℕ). replicate n 0) sum) in
      sym (rw (taken, few) all)

  pub zeros_given_in_part : (old mid new : Option (List ℕ)) (counts : Counts) (refusal : Refusal)
      → Appends old mid (replicate (zeros - remaining) 0) → IsGivenInPart mid new (take count block) counts refusal
      → IsGivenInPart old new (replicate zeros 0) counts refusal
  zeros_given_in_part old mid new counts refusal given is =
      let part = first_given_in_part mid new (take count block) (replicate (remaining - count) 0) counts refusal is in
      rw rest (second_given_err old mid new (replicate (zeros - remaining) 0) _ counts (Err refusal) given part)
