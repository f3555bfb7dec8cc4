-- What one look-up finds, and what was read then.
use Rattle.std.proofs.Common.{◌≡◌, ℕ, ◌+◌, ◌*◌, ◌/◌, ◌%◌, ◌^◌, ◌≤◌, List, [], ◌++◌, length, Bool, refl, ap, sym, ◌∙◌}
use Rattle.std.proofs.Common.{arith, rules}
use Rattle.std.proofs.Common.{append_assoc, append-nil, length-append}
use Rattle.std.proofs.lemmas.Grind.{common_steps}
use Rattle.fax_bits.specs.declared.codes.CodeEntry.{CodeEntry}
use Rattle.fax_bits.specs.declared.pairs.RunPair.{RunPair}
use Rattle.fax_bits.specs.Bits.{code_bits}
use Rattle.fax_bits.specs.Codes.{bits_of, Decodes, IsRun}
use Rattle.fax_bits.specs.Written.{run_bits, mode_bits}
use Rattle.fax_bits.specs.declared.Colour.{Colour}
use Rattle.fax_bits.specs.declared.mode_codes.ModeCode.TheVariants.{Horizontal}
use Rattle.fax_bits.specs.Tables.{run_table, modes}
use Rattle.fax_bits.specs.declared.run_codes.RunCode.{RunCode}
use Rattle.fax_bits.specs.declared.run_codes.RunCode.TheVariants.{Terminating, MakeUp}
use Rattle.fax_bits.specs.code.TableLaws.{run_table_has_short_codes}
use Rattle.fax_bits.specs.views.Codes.{HasCodeAhead, HasShortCodes}
use Rattle.fax_bits.specs.views.Pairs.{IsPairRead, IsHorizontalPairRead}
use Rattle.fax_bits.specs.views.Source.{Source}
use Rattle.fax_bits.specs.code.Pairs.{IsPairAhead}
use Rattle.fax_bits.specs.code.LookUp.{IsBegun, IsLookedUp, IsCode, IsOneRun, AreTwoRuns, IsHorizontalPair}
use Rattle.fax_bits.proofs.CodeBitsLemmas.{length-code_bits}
use Rattle.fax_bits.proofs.RunReadBackLemmas.{run_bits_are_read}
use Rattle.fax_bits.proofs.WrittenRunLemmas.{short_written, long_written, terminating_few, make_up_few}
use Rattle.fax_bits.proofs.LookedAtLemmas.{begins_all, begins_next, begins_after}
use Rattle.fax_bits.proofs.ModeLemmas.{mode_bits_are_read}

-- a code that begins the bits is found
pub code_begins : {M : Type 0} (table : List (CodeEntry M)) (b : List Bool) (len : ℕ) (meaning : M)
    → HasShortCodes table
    → HasCodeAhead table b len meaning → IsBegun (IsCode table) b len meaning
code_begins table b len meaning short found = record {
  front = bits_of found.entry;
  ahead = found.ahead;
  long = length-code_bits found.entry.len found.entry.code ∙ found.length;
  some = omega (arith, (short found.entry found.listed).0, found.length);
  meaning = record { entry = found.entry; listed = found.listed; means = found.means; spelled = refl };
}

-- and is taken
pub code_taken : {M : Type 0} (table : List (CodeEntry M)) (old : Source) (meaning : M) (new : Source)
    → IsLookedUp (IsCode table) old meaning new → Decodes table old.remaining meaning new.remaining
code_taken table old meaning new read = record {
  entry = read.meaning.entry;
  listed = read.meaning.listed;
  means = read.meaning.means;
  spelled = read.taken ∙ ap (λ front. front ++ new.remaining) read.meaning.spelled;
}

-- what begins the first thirteen of thirty-two bits begins them all
pub begins_more : {F : Type 0} (means : List Bool → F → Type 0) (number len : ℕ) (found : F)
    → IsBegun means (code_bits 13 (number / 2 ^ 19)) len found → IsBegun means (code_bits 32 number) len found
begins_more means number len found origin = search (rules, begins_all)

-- a code for a run that begins the bits is taken of its own
run_code_begins : (colour : Colour) (b : List Bool) (len : ℕ) (code : RunCode)
    → HasCodeAhead (run_table colour) b len code
    → IsBegun (λ front code. Decodes (run_table colour) front code []) b len code
run_code_begins colour b len code found =
    let origin = code_begins (run_table colour) b len code (run_table_has_short_codes colour) found in
    record {
      front = origin.front;
      ahead = origin.ahead;
      long = origin.long;
      some = origin.some;
      meaning = record {
        entry = origin.meaning.entry;
        listed = origin.meaning.listed;
        means = origin.meaning.means;
        spelled = origin.meaning.spelled ∙ sym (append-nil (bits_of origin.meaning.entry));
      };
    }

pub run_code_short : (colour : Colour) (b : List Bool) (len : ℕ) (code : RunCode)
    → HasCodeAhead (run_table colour) b len code → len ≤ 13
run_code_short colour b len code found = omega (
  arith,
  (run_table_has_short_codes colour found.entry found.listed).1,
  found.length,
)

-- a run of a terminating code alone
pub short_run_begins : (colour : Colour) (b : List Bool) (len pels : ℕ)
    → HasCodeAhead (run_table colour) b len (Terminating pels) → IsBegun (IsOneRun colour) b len pels
short_run_begins colour b len pels found =
    let origin = run_code_begins colour b len (Terminating pels) found in
    record {
      front = origin.front;
      ahead = origin.ahead;
      long = origin.long;
      some = origin.some;
      meaning = record {
        spelled = short_written colour origin.front pels [] origin.meaning ∙ append-nil (run_bits colour pels);
        short = omega (arith, terminating_few colour origin.front pels [] origin.meaning);
      };
    }

-- a run of a make-up code and a terminating code
pub long_run_begins : (colour : Colour) (number len first more last : ℕ)
    → HasCodeAhead (run_table colour) (code_bits 13 (number / 2 ^ 19)) len (MakeUp first)
    → HasCodeAhead (run_table colour) (code_bits 13 (number * 2 ^ len % 2 ^ 32 / 2 ^ 19)) more (Terminating last)
    → IsBegun (IsOneRun colour) (code_bits 32 number) (len + more) (first + last)
long_run_begins colour number len first more last found after =
    let origin = begins_more _ number len (MakeUp first) (run_code_begins colour (code_bits 13 (number / 2 ^ 19)) len
    (MakeUp first) found) in
    let next = run_code_begins colour (code_bits 13 (number * 2 ^ len % 2 ^ 32 / 2 ^ 19)) more (Terminating last) after
    in
    let make_up : Decodes (run_table colour) (origin.front ++ next.front) (MakeUp first) next.front = record {
      entry = origin.meaning.entry;
      listed = origin.meaning.listed;
      means = origin.meaning.means;
      spelled = ap (λ front. front ++ next.front) (origin.meaning.spelled ∙ append-nil (bits_of origin.meaning.entry));
    } in
    record {
      front = origin.front ++ next.front;
      ahead =
          begins_next number len origin.front next.front (run_code_short colour _ len (MakeUp first) found) origin.long
          origin.ahead next.ahead;
      long = length-append origin.front next.front ∙ ap (λ n. n + length next.front) origin.long
          ∙ ap (λ n. len + n) next.long;
      some = omega (arith, origin.some);
      meaning = record {
        spelled =
            long_written colour (origin.front ++ next.front) first last next.front [] make_up next.meaning
            ∙ append-nil (run_bits colour (first + last));
        short =
            omega (
              arith,
              make_up_few colour (origin.front ++ next.front) first next.front make_up,
              terminating_few colour next.front last [] next.meaning,
            );
      };
    }

-- stands before the bits after it, as it is written
pub run_written : (colour : Colour) (front remaining : List Bool) (pels : ℕ) (rest : List Bool)
    → IsOneRun colour front pels
    → remaining ≡ front ++ rest → remaining ≡ run_bits colour pels ++ rest
run_written colour front remaining pels rest is taken = taken ∙ ap (λ b. b ++ rest) is.spelled

-- and is read
pub run_taken : (colour : Colour) (front remaining : List Bool) (pels : ℕ) (rest : List Bool)
    → IsOneRun colour front pels
    → remaining ≡ front ++ rest → IsRun colour remaining pels rest
run_taken colour front remaining pels rest is taken = grind (arith, run_bits_are_read)

-- two runs that begin the bits are found
pub pair_begins : (b : List Bool) (len : ℕ) (pair : RunPair) → IsPairAhead b len pair → IsBegun AreTwoRuns b len pair
pair_begins b len pair found = grind (arith, length-code_bits)

-- and are read
pub pair_taken : (front remaining : List Bool) (pair : RunPair) (rest : List Bool) → AreTwoRuns front pair
    → remaining ≡ front ++ rest
    → IsPairRead remaining pair rest
pair_taken front remaining pair rest are is = grind (arith, common_steps, run_bits_are_read)

-- the code of horizontal mode
horizontal_is : code_bits 3 1 ≡ mode_bits Horizontal
unfolding modes mode_bits code_bits
horizontal_is = refl

-- and two runs after it are found
pub horizontal_pair_begins : (number len : ℕ) (pair : RunPair) → number / 2 ^ 13 ≡ 1
    → IsPairAhead (code_bits 13 (number % 2 ^ 13)) len pair
    → IsBegun IsHorizontalPair (code_bits 16 number) (3 + len) pair
horizontal_pair_begins number len pair first found =
    let origin = pair_begins (code_bits 13 (number % 2 ^ 13)) len pair found in
    record {
      front = mode_bits Horizontal ++ origin.front;
      ahead = begins_after 3 13 number (mode_bits Horizontal) origin.front (ap (code_bits 3) first ∙ horizontal_is)
          origin.ahead;
      long =
          length-append (mode_bits Horizontal) origin.front ∙ ap (λ n. n + length origin.front)
          (ap length (sym horizontal_is))
          ∙ ap (λ n. length (code_bits 3 1) + n) origin.long ∙ ap (λ n. n + len) (length-code_bits 3 1);
      some = omega arith;
      meaning = record { runs = origin.front; are = origin.meaning; spelled = refl };
    }

-- and are read
pub horizontal_pair_taken : (front remaining : List Bool) (pair : RunPair) (rest : List Bool)
    → IsHorizontalPair front pair
    → remaining ≡ front ++ rest → IsHorizontalPairRead remaining pair rest
horizontal_pair_taken front remaining pair rest is taken = record {
  runs = is.runs ++ rest;
  mode =
      rw (taken ∙ ap (λ b. b ++ rest) is.spelled ∙ append_assoc (mode_bits Horizontal) is.runs rest)
      (mode_bits_are_read Horizontal (is.runs ++ rest) tt);
  pair_read = pair_taken is.runs (is.runs ++ rest) pair rest is.are refl;
}
