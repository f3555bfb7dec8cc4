-- The codes of runs by their places in the run tables.
use Rattle.std.proofs.lemmas.Grind.{common_steps}
use Rattle.std.proofs.Common.{◌≡◌, ℕ, zero, suc, ◌+◌, ◌*◌, ◌<◌, ◌≤◌, List, [], ◌∷◌, ◌++◌, length, Bool, refl, ap, sym}
use Rattle.std.proofs.Common.{◌∙◌, arith, zero-add}
use Rattle.std.specs.Prelude.{Some, slice_get}
use Rattle.fax_bits.specs.declared.codes.CodeEntry.{CodeEntry}
use Rattle.fax_bits.specs.declared.Colour.{Colour}
use Rattle.fax_bits.specs.declared.run_codes.RunCode.TheVariants.{Terminating, MakeUp}
use Rattle.fax_bits.specs.Codes.{bits_of, Decodes}
use Rattle.fax_bits.specs.code.Codes.{bits_at, run_meaning}
use Rattle.fax_bits.specs.Written.{same_run_code, code_for, run_code_bits}
use Rattle.fax_bits.specs.Tables.{run_table}
use Rattle.fax_bits.proofs.TableLemmas.{listed}
use Rattle.fax_bits.proofs.ArrayLemmas.{run_entries, codes_of, lens_of, length-codes_of, run_table_is, run_entry_at}

pub bits_at-found : {M : Type 0} (table : List (CodeEntry M)) (place : ℕ) (entry : CodeEntry M)
    → slice_get table place ≡ Some entry
    → bits_at table place ≡ bits_of entry
bits_at-found [] place entry found = cc
bits_at-found (first ∷ table) zero entry found = let same : first ≡ entry = cc in ap bits_of same
bits_at-found (first ∷ table) (suc place) entry found = bits_at-found table place entry found

pub run_meaning-terminating : (n : ℕ) → n < 64 → run_meaning n ≡ Terminating n
run_meaning-terminating n short = grind (arith, common_steps)

pub run_meaning-make_up : (steps : ℕ) → 0 < steps → steps ≤ 40 → run_meaning (63 + steps) ≡ MakeUp (64 * steps)
run_meaning-make_up steps some few = grind (arith, common_steps)

-- the first code with a meaning is the one at its place
code_for-run_entries : (first : ℕ) (codes lens : List ℕ) (i : ℕ) → i < length codes → i < length lens → first + i < 105
    → code_for (same_run_code (run_meaning (first + i))) (run_entries first codes lens)
    ≡ bits_at (run_entries first codes lens) i
code_for-run_entries first [] lens i h k within = absurd (omega arith)
code_for-run_entries first (c ∷ codes) [] i h k within = absurd (omega arith)
code_for-run_entries first (c ∷ codes) (l ∷ lens) zero h k within = grind (arith, common_steps)
code_for-run_entries first (c ∷ codes) (l ∷ lens) (suc i) h k within =
    grind (arith, code_for-run_entries (suc first) codes lens i (omega arith) (omega arith) (omega arith))

pub bits_at-run_table : (colour : Colour) (place : ℕ) → place < 105 → bits_at (run_table colour) place
    ≡ run_code_bits colour (run_meaning place)
unfolding run_code_bits
bits_at-run_table colour place within =
    let lengths = length-codes_of colour in
    let entries = run_entries 0 (codes_of colour) (lens_of colour) in
    ap (λ table. bits_at table place) (run_table_is colour)
    ∙ sym
    (code_for-run_entries 0 (codes_of colour) (lens_of colour) place (omega (arith, lengths.0))
    (omega (arith, lengths.1)) (omega arith))
    ∙ ap (λ n. code_for (same_run_code (run_meaning n)) entries) (zero-add place)
    ∙ ap (code_for (same_run_code (run_meaning place))) (sym (run_table_is colour))

-- bits that begin with a run code
pub takes_run_code : (colour : Colour) (place : ℕ) (more : List Bool) → place < 105
    → Decodes (run_table colour) (run_code_bits colour (run_meaning place) ++ more) (run_meaning place) more
takes_run_code colour place more within =
    let found = run_entry_at colour place within in
    record {
      entry = _;
      listed = listed (run_table colour) place _ found;
      means = refl;
      spelled = ap (λ b. b ++ more) (sym (bits_at-run_table colour place within)
          ∙ bits_at-found (run_table colour) place _ found);
    }
