-- Runs as they are read, code by code.
use Rattle.std.proofs.Common.{arith, ◌≡◌, ℕ, ◌+◌, ◌<◌, ◌≤◌, List, [], ◌∷◌, ◌++◌, length, map, Bool, true, false, cond}
use Rattle.std.proofs.Common.{refl, ap, sym, subst, ◌∙◌}
use Rattle.std.specs.Prelude.{sum, nat_eq, nat_lt}
use Rattle.std.proofs.lemmas.Grind.{common_steps}
use Rattle.std.proofs.lemmas.Bool.Decides.{nat_tests}
use Rattle.fax_bits.specs.declared.Colour.{Colour}
use Rattle.fax_bits.specs.declared.codes.CodeEntry.{CodeEntry}
use Rattle.fax_bits.specs.declared.codes.CodeFault.{CodeFault}
use Rattle.fax_bits.specs.declared.run_codes.RunCode.{RunCode}
use Rattle.fax_bits.specs.declared.run_codes.RunCode.TheVariants.{Terminating, MakeUp, Extension as RunExtension}
use Rattle.fax_bits.specs.Codes.{DecodesAll, Decodes, IsRun, read_code}
use Rattle.fax_bits.specs.Reading.{read, failed, map_fault, Step, onward, done, stopped}
use Rattle.fax_bits.specs.Tables.{run_table}
use Rattle.fax_bits.specs.code.TableLaws.{run_table_has_short_codes, run_table_is_prefix_free}
use Rattle.fax_bits.proofs.CodeLemmas.{read_is_taken, taken_is_read}
use Rattle.fax_bits.proofs.PrefixLemmas.{takes_bits}
use Rattle.fax_bits.proofs.StepsLemmas.{by_step, holds, named_read, step_on, step_fails, step_onward, step_done}
use Rattle.fax_rows.specs.declared.RowFault.{RowFault}
use Rattle.fax_rows.specs.declared.RowFault.TheVariants.{DataEnds, RunTooLong}
use Rattle.fax_rows.specs.ReadRows.{row_fault, row_code, within, by_run_code, run_step, read_run}
use Rattle.fax_rows.proofs.RunLemmas.{run_after}

pub sum-cons : (n : ℕ) (ns : List ℕ) → sum (n ∷ ns) ≡ n + sum ns
sum-cons n ns = grind (arith, common_steps)

pub same_place : (n m : ℕ) → n ≡ m → nat_eq n m ≡ true
same_place n m same = grind (arith, nat_tests)

pub other_place : (n m : ℕ) → n < m → nat_eq n m ≡ false
other_place n m below = grind (arith, nat_tests)

-- a code that is read is taken
pub code_taken : {M : Type 0} (table : List (CodeEntry M)) (b : List Bool) (meaning : M) (rest : List Bool)
    → row_code table b ≡ read meaning rest → Decodes table b meaning rest
code_taken table b meaning rest is =
    read_is_taken b table meaning rest (named_read row_fault (read_code table b) meaning rest is)

within_of : (width to : ℕ) (step : Step ℕ ℕ RowFault) → to ≤ width → within width to step ≡ step
within_of width to step inside = let is : nat_lt width to ≡ false = grind (arith, nat_tests) in rw is refl

pub not_within : (width to : ℕ) (step : Step ℕ ℕ RowFault) → width < to → within width to step ≡ stopped RunTooLong
not_within width to step outside = let is : nat_lt width to ≡ true = grind (arith, nat_tests) in rw is refl

not_after : (width to : ℕ) → nat_lt width to ≡ false → to ≤ width
not_after width to is = grind (arith, nat_tests)

abbrev GoesOnTo : Step ℕ ℕ RowFault → ℕ → List Bool → Type 0
GoesOnTo step to rest = step ≡ onward to rest

abbrev EndsAt : Step ℕ ℕ RowFault → ℕ → List Bool → Type 0
EndsAt step to rest = step ≡ done to rest

-- what continues is a make-up code within the row
record GoesOnBy (width from : ℕ) (code : RunCode) (remaining : List Bool) (to : ℕ) (rest : List Bool) : Type 0 where
  n : ℕ
  code_is : code ≡ MakeUp n
  to_is : to ≡ from + n
  inside : to ≤ width
  rest_is : remaining ≡ rest

goes_on_by : (width from : ℕ) (code : RunCode) (remaining : List Bool) (to : ℕ) (rest : List Bool)
    → by_run_code width from code remaining ≡ onward to rest → GoesOnBy width from code remaining to rest
goes_on_by width from (MakeUp n) remaining to rest is = by (nat_lt width (from + n)) refl is
  where
    by : (test : Bool) → nat_lt width (from + n) ≡ test
        → GoesOnTo (cond test (stopped RunTooLong) (onward (from + n) remaining)) to rest
        → GoesOnBy width from (MakeUp n) remaining to rest
    by true there same = absurd (cc (same))
    by false there same =
        let to_is : to ≡ from + n = cc (same) in
        let rest_is : remaining ≡ rest = cc (same) in
        record {
          n = n;
          code_is = refl;
          to_is = to_is;
          inside = omega (arith, to_is, not_after width (from + n) there);
          rest_is = rest_is;
        }
goes_on_by width from (Terminating n) remaining to rest is = by (nat_lt width (from + n)) is
  where
    by : (test : Bool) → GoesOnTo (cond test (stopped RunTooLong) (done (from + n) remaining)) to rest
        → GoesOnBy width from (Terminating n) remaining to rest
    by true same = absurd (cc (same))
    by false same = absurd (cc (same))
goes_on_by width from RunExtension remaining to rest is = absurd (cc (is))

-- and what ends a run is a terminating code within the row
record EndsBy (width from : ℕ) (code : RunCode) (remaining : List Bool) (to : ℕ) (rest : List Bool) : Type 0 where
  n : ℕ
  code_is : code ≡ Terminating n
  to_is : to ≡ from + n
  inside : to ≤ width
  rest_is : remaining ≡ rest

ends_by : (width from : ℕ) (code : RunCode) (remaining : List Bool) (to : ℕ) (rest : List Bool)
    → by_run_code width from code remaining ≡ done to rest → EndsBy width from code remaining to rest
ends_by width from (Terminating n) remaining to rest is = by (nat_lt width (from + n)) refl is
  where
    by : (test : Bool) → nat_lt width (from + n) ≡ test
        → EndsAt (cond test (stopped RunTooLong) (done (from + n) remaining)) to rest
        → EndsBy width from (Terminating n) remaining to rest
    by true there same = absurd (cc (same))
    by false there same =
        let to_is : to ≡ from + n = cc (same) in
        let rest_is : remaining ≡ rest = cc (same) in
        record {
          n = n;
          code_is = refl;
          to_is = to_is;
          inside = omega (arith, to_is, not_after width (from + n) there);
          rest_is = rest_is;
        }
ends_by width from (MakeUp n) remaining to rest is = by (nat_lt width (from + n)) is
  where
    by : (test : Bool) → EndsAt (cond test (stopped RunTooLong) (onward (from + n) remaining)) to rest
        → EndsBy width from (MakeUp n) remaining to rest
    by true same = absurd (cc (same))
    by false same = absurd (cc (same))
ends_by width from RunExtension remaining to rest is = absurd (cc (is))

-- a run within the width, up to a place
pub record IsRunTo (colour : Colour) (width from : ℕ) (b : List Bool) (to : ℕ) (rest : List Bool) : Type 0 where
  pub n : ℕ
  pub run : IsRun colour b n rest
  pub ends : to ≡ from + n
  pub inside : to ≤ width

module _ (colour : Colour) (width : ℕ) where
  shortens : (from to : ℕ) (b rest : List Bool) → run_step colour width from b ≡ onward to rest → length rest < length b
  shortens from to b rest is =
      let first = step_onward (row_code (run_table colour) b) (by_run_code width from) to rest is in
      let on = goes_on_by width from first.0 first.1 to rest first.3 in
      omega (
        arith,
        ap length on.rest_is,
        takes_bits (run_table colour) (run_table_has_short_codes colour) b first.0 first.1
            (code_taken (run_table colour) b first.0 first.1 first.2),
      )

  -- a terminating code ends the run
  pub ends : (from to n : ℕ) (b rest : List Bool) → read_code (run_table colour) b ≡ read (Terminating n) rest
      → to ≡ from + n → to ≤ width → read_run colour width from b ≡ read to rest
  ends from to n b rest is at inside =
      by_step DataEnds (run_step colour width) shortens from b (done to rest)
      (step_on (by_run_code width from) (ap (map_fault row_fault) is)
      (within_of width (from + n) (done (from + n) rest) (omega (arith, at, inside)) ∙ ap (λ k. done k rest) (sym at)))

  -- after a make-up code the run is read on
  pub goes_on : (from to n : ℕ) (b rest : List Bool) → read_code (run_table colour) b ≡ read (MakeUp n) rest
      → to ≡ from + n → to ≤ width → read_run colour width from b ≡ read_run colour width to rest
  goes_on from to n b rest is at inside =
      by_step DataEnds (run_step colour width) shortens from b (onward to rest)
      (step_on (by_run_code width from) (ap (map_fault row_fault) is)
      (within_of width (from + n) (onward (from + n) rest) (omega (arith, at, inside))
      ∙ ap (λ k. onward k rest) (sym at)))

  pub no_code : (from : ℕ) (b : List Bool) (fault : CodeFault) → read_code (run_table colour) b ≡ failed fault
      → read_run colour width from b ≡ failed (row_fault fault)
  no_code from b fault is =
      by_step DataEnds (run_step colour width) shortens from b (stopped (row_fault fault))
      (step_fails (by_run_code width from) (ap (map_fault row_fault) is))

  -- a code that is none of the row ends it too
  pub refuses : (from : ℕ) (b : List Bool) (code : RunCode) (rest : List Bool) (fault : RowFault)
      → read_code (run_table colour) b ≡ read code rest → by_run_code width from code rest ≡ stopped fault
      → read_run colour width from b ≡ failed fault
  refuses from b code rest fault is at =
      by_step DataEnds (run_step colour width) shortens from b (stopped fault)
      (step_on (by_run_code width from) (ap (map_fault row_fault) is) at)

  last_code : (from : ℕ) (b : List Bool) (to : ℕ) (rest : List Bool) → run_step colour width from b ≡ done to rest
      → IsRunTo colour width from b to rest
  last_code from b to rest is =
      let first = step_done (row_code (run_table colour) b) (by_run_code width from) to rest is in
      let by = ends_by width from first.0 first.1 to rest first.3 in
      let taken = code_taken (run_table colour) b first.0 first.1 first.2 in
      record {
        n = by.n;
        run = record {
          make_up = [];
          last = by.n;
          spelled = (first.1, subst (λ code. Decodes (run_table colour) b code first.1) by.code_is taken, by.rest_is);
          length = omega arith;
        };
        ends = by.to_is;
        inside = by.inside;
      }

  code_more : (from next : ℕ) (b remaining : List Bool) (to : ℕ) (rest : List Bool)
      → run_step colour width from b ≡ onward next remaining → IsRunTo colour width next remaining to rest
      → IsRunTo colour width from b to rest
  code_more from next b remaining to rest is more =
      let first = step_onward (row_code (run_table colour) b) (by_run_code width from) next remaining is in
      let by = goes_on_by width from first.0 first.1 next remaining first.3 in
      let taken = subst (λ c. Decodes (run_table colour) b first.0 c) by.rest_is
      (code_taken (run_table colour) b first.0 first.1 first.2) in
      record {
        n = by.n + more.n;
        run = record {
          make_up = by.n ∷ more.run.make_up;
          last = more.run.last;
          spelled = (
            remaining,
            subst (λ code. Decodes (run_table colour) b code remaining) by.code_is taken,
            more.run.spelled,
          );
          length = omega (arith, more.run.length, sum-cons by.n more.run.make_up);
        };
        ends = omega (arith, more.ends, by.to_is);
        inside = more.inside;
      }

  -- a run that is read
  pub is_run_to : (from : ℕ) (b : List Bool) (to : ℕ) (rest : List Bool) → read_run colour width from b ≡ read to rest
      → IsRunTo colour width from b to rest
  is_run_to = holds DataEnds (run_step colour width) shortens (IsRunTo colour width) last_code code_more

-- codes of a run are read
spelled_run : (colour : Colour) (width from to : ℕ) (b : List Bool) (make_up : List ℕ) (last : ℕ) (rest : List Bool)
    → DecodesAll (run_table colour) b (map MakeUp make_up ++ Terminating last ∷ []) rest → to
    ≡ from + (sum make_up + last)
    → to ≤ width → (read_run colour width from b ≡ read to rest) × (length rest < length b)
spelled_run colour width from to b [] last rest spelled at inside =
    let taken = subst (λ remaining. Decodes (run_table colour) b (Terminating last) remaining) spelled.2 spelled.1 in (
      ends colour width from to last b rest
          (taken_is_read b (run_table colour) (run_table_is_prefix_free colour) (Terminating last) rest taken)
          (omega (arith, at)) inside,
      takes_bits (run_table colour) (run_table_has_short_codes colour) b (Terminating last) rest taken,
    )
spelled_run colour width from to b (n ∷ ns) last rest spelled at inside =
    let more : (read_run colour width (from + n) spelled.0 ≡ read to rest) × (length rest < length spelled.0) =
    spelled_run colour width (from + n) to spelled.0 ns last rest spelled.2 (omega (arith, at, sum-cons n ns)) inside
    in (
      goes_on colour width from (from + n) n b spelled.0
          (taken_is_read b (run_table colour) (run_table_is_prefix_free colour) (MakeUp n) spelled.0 spelled.1) refl
          (omega (arith, at, inside, sum-cons n ns))
          ∙ more.0,
      omega (
        arith,
        more.1,
        takes_bits (run_table colour) (run_table_has_short_codes colour) b (MakeUp n) spelled.0 spelled.1,
      ),
    )

-- a run that the bits begin with is read
pub run_read : {colour : Colour} (width from n : ℕ) {b rest : List Bool} → IsRun colour b n rest → from + n ≤ width
    → (read_run colour width from b ≡ read (from + n) rest) × (length rest < length b)
run_read {colour} width from n {b} {rest} run inside =
    spelled_run colour width from (from + n) b run.make_up run.last rest run.spelled (omega (arith, run.length)) inside

pub is_run : (colour : Colour) (width from n : ℕ) (b rest : List Bool)
    → read_run colour width from b ≡ read (from + n) rest → IsRun colour b n rest
is_run colour width from n b rest is =
    let run = is_run_to colour width from b (from + n) rest is in
    let same : run.n ≡ n = omega (arith, run.ends) in
    subst (λ k. IsRun colour b k rest) same run.run

pub run_front : (colour : Colour) (width from to : ℕ) (b rest : List Bool)
    → read_run colour width from b ≡ read to rest → (front : List Bool) × (b ≡ front ++ rest)
run_front colour width from to b rest is = run_after (is_run_to colour width from b to rest is).run

pub run_shorter : {colour : Colour} {b : List Bool} {n : ℕ} {rest : List Bool} → IsRun colour b n rest
    → length rest < length b
run_shorter {n = n} run = (run_read n 0 n run (omega arith)).1
