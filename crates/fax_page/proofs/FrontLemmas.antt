-- What is read of bits stands at their front: a rest follows it, and it stays, whatever follows.
use Rattle.std.proofs.Common.{arith, ◌≡◌, ◌≢◌, ℕ, zero, suc, ◌+◌, ◌≤◌, List, [], ◌∷◌, ◌++◌, length, drop, None}
use Rattle.std.proofs.Common.{Bool, true, false, refl, ap, sym, ◌∙◌, append_assoc, length-append}
use Rattle.std.proofs.Math.Seq.{drop-append_seam}
use Rattle.std.specs.Prelude.{nat_lt, nat_eq, if◌then◌else◌}
use Rattle.fax_bits.specs.declared.codes.CodeEntry.{CodeEntry}
use Rattle.fax_bits.specs.declared.codes.CodeFault.{CodeFault}
use Rattle.fax_bits.specs.declared.codes.CodeFault.TheVariants as code_fault
use Rattle.fax_bits.specs.declared.Colour.{Colour}
use Rattle.fax_bits.specs.declared.mode_codes.ModeCode.{ModeCode}
use Rattle.fax_bits.specs.declared.mode_codes.ModeCode.TheVariants as mode
use Rattle.fax_bits.specs.declared.run_codes.RunCode.{RunCode}
use Rattle.fax_bits.specs.declared.run_codes.RunCode.TheVariants as run
use Rattle.fax_bits.specs.Codes.{bits_of, Decodes, after_front, is_cut_code, read_code}
use Rattle.fax_bits.specs.Reading.{Read, read, failed, ◌>>=◌, map_fault}
use Rattle.fax_bits.specs.Reading.{Step, onward, done, stopped, step_by, and_more, steps_within, steps}
use Rattle.fax_bits.specs.Tables.{run_table, modes}
use Rattle.fax_bits.specs.laws.Codes.{ReadsOneWay, ReadsRunsOneWay}
use Rattle.fax_rows.specs.declared.RowFault.{RowFault}
use Rattle.fax_rows.specs.declared.RowFault.TheVariants.{DataEnds, Extension, RunTooLong, OutOfRow}
use Rattle.fax_rows.specs.Rows.{Position, beginning, first_pel, other}
use Rattle.fax_rows.specs.ReadRows.{row_fault, row_code, by_run_code, run_step, read_run, Runs, after_run, row_step}
use Rattle.fax_rows.specs.ReadRows.{read_one_dimensional, is_in_row, by_mode, is_ended, coding_step}
use Rattle.fax_rows.specs.ReadRows.{read_two_dimensional}

-- bits that end with this rest
pub record EndsWith (b rest : List Bool) : Type 0 where
  pub front : List Bool
  pub parts : b ≡ front ++ rest

pub same : (b rest : List Bool) → b ≡ rest → EndsWith b rest
same b rest is = record { front = []; parts = is }

pub onwards : (b middle rest : List Bool) → EndsWith b middle → EndsWith middle rest → EndsWith b rest
onwards b middle rest first second = record {
  front = first.front ++ second.front;
  parts = first.parts ∙ ap (λ c. first.front ++ c) second.parts ∙ sym (append_assoc first.front second.front rest);
}

-- so many bits stand before a rest of them
pub among : (b rest : List Bool) → EndsWith b rest → (n : ℕ) × (n ≤ length b) × (drop n b ≡ rest)
among b rest from =
    let count : length b ≡ length from.front + length rest = ap length from.parts ∙ length-append from.front rest in (
      length from.front,
      omega (arith, count),
      ap (drop (length from.front)) from.parts ∙ drop-append_seam from.front rest,
    )

-- what is read of bits, and what is read of them where more follow: the same answer, of which the
-- rest is the end of the bits, or the same fault, unless it is that the data end
abbrev IsFrontOf : {A F : Type 0} → F → List Bool → List Bool → Read A F → Read A F → Type 0
IsFrontOf ends more b (read x rest) now = EndsWith b rest × (now ≡ read x (rest ++ more))
IsFrontOf ends more b (failed fault) now = fault ≢ ends → now ≡ failed fault

pub record IsFront {A F : Type 0} (ends : F) (more b : List Bool) (r now : Read A F) : Type 0 where
  pub is : IsFrontOf ends more b r now

-- and so of a step
abbrev IsStepOf : {S A F : Type 0} → F → List Bool → List Bool → Step S A F → Step S A F → Type 0
IsStepOf ends more b (onward at rest) now = EndsWith b rest × (now ≡ onward at (rest ++ more))
IsStepOf ends more b (done x rest) now = EndsWith b rest × (now ≡ done x (rest ++ more))
IsStepOf ends more b (stopped fault) now = fault ≢ ends → now ≡ stopped fault

pub record IsStepFront {S A F : Type 0} (ends : F) (more b : List Bool) (s now : Step S A F) : Type 0 where
  pub is : IsStepOf ends more b s now

module _ {F : Type 0} {ends : F} {more : List Bool} where
  pub is_read : {A : Type 0} (x : A) (b : List Bool) → IsFront ends more b (read x b) (read x (b ++ more))
  is_read x b = record { is = (same b b refl, refl) }

  pub stops : {A : Type 0} (b : List Bool) (fault : F) (now : Read A F) → now ≡ failed fault
      → IsFront ends more b (failed fault) now
  stops b fault now is = record { is = λ other. is }

  pub at_end : {A : Type 0} (b : List Bool) (now : Read A F) → IsFront ends more b (failed ends) now
  at_end b now = record { is = λ other. absurd (other refl) }

  after_bits : {A : Type 0} (b rest : List Bool) (r now all : Read A F) → EndsWith b rest → all ≡ now
      → IsFront ends more rest r now → IsFront ends more b r all
  after_bits b rest (read x remaining) now all from at is =
      record { is = (onwards b rest remaining from is.is.0, at ∙ is.is.1) }
  after_bits b rest (failed fault) now all from at is = record { is = λ other. at ∙ is.is other }

  -- one after another
  pub joined : {A B : Type 0} (b : List Bool) (r now : Read A F) (next : A → List Bool → Read B F)
      → IsFront ends more b r now
      → ((x : A) (rest : List Bool) → IsFront ends more rest (next x rest) (next x (rest ++ more)))
      → IsFront ends more b (r >>= next) (now >>= next)
  joined b (read x rest) now next front on =
      after_bits b rest (next x rest) (next x (rest ++ more)) (now >>= next) front.is.0 (ap (λ r. r >>= next)
      front.is.1)
      (on x rest)
  joined b (failed fault) now next front on = record { is = λ other. ap (λ r. r >>= next) (front.is other) }

  step_after_bits : {S A : Type 0} (b rest : List Bool) (s now all : Step S A F) → EndsWith b rest → all ≡ now
      → IsStepFront ends more rest s now → IsStepFront ends more b s all
  step_after_bits b rest (onward at remaining) now all from is front =
      record { is = (onwards b rest remaining from front.is.0, is ∙ front.is.1) }
  step_after_bits b rest (done x remaining) now all from is front =
      record { is = (onwards b rest remaining from front.is.0, is ∙ front.is.1) }
  step_after_bits b rest (stopped fault) now all from is front = record { is = λ other. is ∙ front.is other }

  -- a step that begins with something that is read
  step_joined : {S A B : Type 0} (b : List Bool) (r now : Read A F) (next : A → List Bool → Step S B F)
      → IsFront ends more b r now
      → ((x : A) (rest : List Bool) → IsStepFront ends more rest (next x rest) (next x (rest ++ more)))
      → IsStepFront ends more b (step_by next r) (step_by next now)
  step_joined b (read x rest) now next front on =
      step_after_bits b rest (next x rest) (next x (rest ++ more)) (step_by next now) front.is.0
      (ap (step_by next) front.is.1) (on x rest)
  step_joined b (failed fault) now next front on = record { is = λ other. ap (step_by next) (front.is other) }

  -- where a test decides
  step_tested : {S A : Type 0} (b : List Bool) (test : Bool) (s now t after : Step S A F)
      → IsStepFront ends more b s now → IsStepFront ends more b t after
      → IsStepFront ends more b (if test then s else t) (if test then now else after)
  step_tested b true s now t after first second = first
  step_tested b false s now t after first second = second

  step_stops : {S A : Type 0} (b : List Bool) (fault : F) → IsStepFront {S = S} {A = A} ends more b (stopped fault)
      (stopped fault)
  step_stops b fault = record { is = λ other. refl }

  -- step after step
  module _ {S A : Type 0} (step : S → List Bool → Step S A F)
      (fronts : (at : S) (b : List Bool) → IsStepFront ends more b (step at b) (step at (b ++ more))) where
    within_front : (limit others : ℕ) (at : S) (b : List Bool) → limit ≤ others
        → IsFront ends more b (steps_within ends step limit at b) (steps_within ends step others at (b ++ more))
    within_front zero others at b few = at_end b _
    within_front (suc limit) zero at b few = absurd (omega (arith, few))
    within_front (suc limit) (suc others) at b few =
        by (step at b) (step at (b ++ more)) (fronts at b)
        (λ next rest. within_front limit others next rest (omega (arith, few)))
      where
        by : (s now : Step S A F) → IsStepFront ends more b s now
            → ((next : S) (rest : List Bool) → IsFront ends more rest (steps_within ends step limit next rest)
            (steps_within ends step others next (rest ++ more)))
            → IsFront ends more b (and_more (λ next rest. steps_within ends step limit next rest) s)
            (and_more (λ next rest. steps_within ends step others next rest) now)
        by (onward next rest) now front later =
            after_bits b rest _ _ _ front.is.0
            (ap (and_more (λ next rest. steps_within ends step others next rest)) front.is.1) (later next rest)
        by (done x rest) now front later = record {
          is = (front.is.0, ap (and_more (λ next rest. steps_within ends step others next rest)) front.is.1);
        }
        by (stopped fault) now front later = record {
          is = λ other. ap (and_more (λ next rest. steps_within ends step others next rest)) (front.is other);
        }

    pub steps_front : (at : S) (b : List Bool)
        → IsFront ends more b (steps ends step at b) (steps ends step at (b ++ more))
    unfolding steps
    steps_front at b =
        within_front (suc (length b)) (suc (length (b ++ more))) at b (omega (arith, length-append b more))

pub answer_of : {A F : Type 0} {ends : F} {more b : List Bool} {r now : Read A F} (x : A) (rest : List Bool)
    → r ≡ read x rest → IsFront ends more b r now → EndsWith b rest × (now ≡ read x (rest ++ more))
answer_of {A} {F} {ends} {more} {b} {r} {now} x rest at front = by r at front.is
  where
    by : (r : Read A F) → r ≡ read x rest → IsFrontOf ends more b r now
        → EndsWith b rest × (now ≡ read x (rest ++ more))
    by (read y remaining) is front =
        let there : remaining ≡ rest = cc (is) in
        let here : y ≡ x = cc (is) in
        rw (sym there, sym here) front
    by (failed fault) is front = absurd (cc (is))

pub fault_of : {A F : Type 0} {ends : F} {more b : List Bool} {r now : Read A F} (fault : F) → fault ≢ ends
    → r ≡ failed fault → IsFront ends more b r now → now ≡ failed fault
fault_of {A} {F} {ends} {more} {b} {r} {now} fault other at front = by r at front.is
  where
    by : (r : Read A F) → r ≡ failed fault → IsFrontOf ends more b r now → now ≡ failed fault
    by (read y remaining) is front = absurd (cc (is))
    by (failed why) is front =
        let here : why ≡ fault = cc (is) in
        front (λ same. other (sym here ∙ same)) ∙ ap (λ f. failed f) here

-- bits that are no code, nor a front of one
no_front : (more code b : List Bool) → after_front code b ≡ None → is_cut_code code b ≡ false
    → (after_front code (b ++ more) ≡ None) × (is_cut_code code (b ++ more) ≡ false)
no_front more [] b none whole = absurd (cc none)
no_front more (bit ∷ code) [] none whole = absurd (cc whole)
no_front more (true ∷ code) (true ∷ b) none whole = no_front more code b none whole
no_front more (false ∷ code) (false ∷ b) none whole = no_front more code b none whole
no_front more (true ∷ code) (false ∷ b) none whole = (refl, refl)
no_front more (false ∷ code) (true ∷ b) none whole = (refl, refl)

no_code : {M : Type 0} (more : List Bool) (table : List (CodeEntry M)) (b : List Bool)
    → read_code table b ≡ failed code_fault.BadCode → read_code table (b ++ more) ≡ failed code_fault.BadCode
no_code more [] b none = refl
no_code more (entry ∷ table) b none =
    grind (arith, no_front more (bits_of entry) b, no_code more table b)

-- a code of a table
code_front : {M : Type 0} (more : List Bool) (table : List (CodeEntry M)) (b : List Bool) → ReadsOneWay table
    → IsFront DataEnds more b (row_code table b) (row_code table (b ++ more))
code_front {M} more table b reads = by (read_code table b) refl
  where
    by : (r : Read M CodeFault) → read_code table b ≡ r
        → IsFront DataEnds more b (map_fault row_fault r) (row_code table (b ++ more))
    by (read meaning rest) at =
        let taken = (reads.code b meaning rest).1 at in
        let now : Decodes table (b ++ more) meaning (rest ++ more) = record {
          entry = taken.entry;
          listed = taken.listed;
          means = taken.means;
          spelled = ap (λ c. c ++ more) taken.spelled ∙ append_assoc (bits_of taken.entry) rest more;
        } in
        record {
          is = (
            record { front = bits_of taken.entry; parts = taken.spelled },
            ap (map_fault row_fault) ((reads.code (b ++ more) meaning (rest ++ more)).0 now),
          );
        }
    by (failed code_fault.DataEnds) at = at_end b _
    by (failed code_fault.BadCode) at = stops b _ _ (ap (map_fault row_fault) (no_code more table b at))

module _ (runs_read : (colour : Colour) → ReadsRunsOneWay colour) (modes_read : ReadsOneWay modes) (more : List Bool)
  where
    -- a run; where more bits follow, more may be read of it
    by_code_front : (width from : ℕ) (code : RunCode) (rest : List Bool)
        → IsStepFront DataEnds more rest (by_run_code width from code rest) (by_run_code width from code (rest ++ more))
    by_code_front width from (run.Terminating n) rest =
        step_tested rest (nat_lt width (from + n)) _ _ _ _ (step_stops rest RunTooLong)
        (record { is = (same rest rest refl, refl) })
    by_code_front width from (run.MakeUp n) rest =
        step_tested rest (nat_lt width (from + n)) _ _ _ _ (step_stops rest RunTooLong)
        (record { is = (same rest rest refl, refl) })
    by_code_front width from run.Extension rest = step_stops rest Extension

    run_front : (colour : Colour) (width from : ℕ) (b : List Bool)
        → IsFront DataEnds more b (read_run colour width from b) (read_run colour width from (b ++ more))
    run_front colour width = steps_front (run_step colour width) (λ from b.
        step_joined b _ _ (by_run_code width from) (code_front more (run_table colour) b (runs_read colour).codes)
        (by_code_front width from))

    runs_front : (width : ℕ) (at : Runs) (b : List Bool)
        → IsStepFront DataEnds more b (row_step width at b) (row_step width at (b ++ more))
    runs_front width at b =
        step_tested b (nat_eq (length at.pels) width) _ _ _ _ (record { is = (same b b refl, refl) })
        (step_joined b _ _ (after_run at) (run_front at.colour width (length at.pels) b)
        (λ to rest. record { is = (same rest rest refl, refl) }))

    -- a step
    vertical_front : (b : List Bool) (test : Bool) (new : Position)
        → IsFront {F = RowFault} DataEnds more b (if test then (read new b) else (failed OutOfRow))
        (if test then (read new (b ++ more)) else (failed OutOfRow))
    vertical_front b true new = is_read new b
    vertical_front b false new = stops b OutOfRow _ refl

    mode_front : (reference : List Colour) (at : Position) (code : ModeCode) (b : List Bool)
        → IsFront DataEnds more b (by_mode reference at code b) (by_mode reference at code (b ++ more))
    mode_front reference at mode.Pass b = is_read _ b
    mode_front reference at (mode.Vertical d) b = vertical_front b (is_in_row reference at _) _
    mode_front reference at mode.Horizontal b =
        joined b _ _ _ (run_front at.colour (length reference) (first_pel at) b) (λ a1 middle.
        joined middle _ _ _ (run_front (other at.colour) (length reference) a1 middle) (λ a2 rest. is_read _ rest))
    mode_front reference at mode.Extension b = stops b Extension _ refl

    coding_front : (reference : List Colour) (at : Position) (b : List Bool)
        → IsStepFront DataEnds more b (coding_step reference at b) (coding_step reference at (b ++ more))
    coding_front reference at b =
        step_tested b (is_ended reference at.a0) _ _ _ _ (record { is = (same b b refl, refl) })
        (step_joined b _ _ onward
        (joined b _ _ (by_mode reference at) (code_front more modes b modes_read) (mode_front reference at))
        (λ new rest. record { is = (same rest rest refl, refl) }))

    -- a row
    pub one_front : (width : ℕ) (b : List Bool)
        → IsFront DataEnds more b (read_one_dimensional width b) (read_one_dimensional width (b ++ more))
    one_front width b = steps_front (row_step width) (runs_front width) _ b

    pub two_front : (reference : List Colour) (b : List Bool)
        → IsFront DataEnds more b (read_two_dimensional reference b) (read_two_dimensional reference (b ++ more))
    two_front reference b = steps_front (coding_step reference) (coding_front reference) beginning b
