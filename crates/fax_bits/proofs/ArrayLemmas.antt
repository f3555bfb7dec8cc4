-- A run table from its codes and their lengths.
use Rattle.std.proofs.lemmas.Grind.{common_steps}
use Rattle.std.proofs.Common.{◌≡◌, ℕ, zero, suc, ◌+◌, ◌<◌, List, [], ◌∷◌, length, get_or, refl, arith}
use Rattle.std.specs.Prelude.{Some, slice_get}
use Rattle.fax_bits.specs.declared.codes.CodeEntry.{CodeEntry}
use Rattle.fax_bits.specs.declared.run_codes.RunCode.{RunCode}
use Rattle.fax_bits.specs.declared.run_codes.TheConstants.{WHITE_CODES, WHITE_LENS, BLACK_CODES, BLACK_LENS}
use Rattle.fax_bits.specs.declared.Colour.{Colour}
use Rattle.fax_bits.specs.declared.Colour.TheVariants.{White, Black}
use Rattle.fax_bits.specs.Tables.{run_table, white_runs, white_terminating, white_make_up, black_runs}
use Rattle.fax_bits.specs.Tables.{black_terminating, black_make_up}
use Rattle.fax_bits.specs.Tables.{common_make_up}
use Rattle.fax_bits.specs.code.Codes.{run_meaning}

abbrev pub run_entries : ℕ → List ℕ → List ℕ → List (CodeEntry RunCode)
run_entries i [] lens = []
run_entries i (c ∷ codes) [] = []
run_entries i (c ∷ codes) (l ∷ lens) = record { code = c; len = l; meaning = run_meaning i }
    ∷ run_entries (suc i) codes lens

pub slice_get-run_entries : (first : ℕ) (codes lens : List ℕ) (i : ℕ) → i < length codes → i < length lens
    → slice_get (run_entries first codes lens) i
    ≡ Some (record { code = get_or codes i 0; len = get_or lens i 0; meaning = run_meaning (first + i) })
slice_get-run_entries first [] lens i h k = absurd (omega arith)
slice_get-run_entries first (c ∷ codes) [] i h k = absurd (omega arith)
slice_get-run_entries first (c ∷ codes) (l ∷ lens) zero h k = grind (arith, common_steps)
slice_get-run_entries first (c ∷ codes) (l ∷ lens) (suc i) h k =
    let e : first + suc i ≡ suc first + i = omega arith in rw e
    (slice_get-run_entries (suc first) codes lens i (omega arith) (omega arith))

-- the codes of the run table of a colour, and their lengths
abbrev pub codes_of : Colour → List ℕ
codes_of White = WHITE_CODES
codes_of Black = BLACK_CODES

abbrev pub lens_of : Colour → List ℕ
lens_of White = WHITE_LENS
lens_of Black = BLACK_LENS

pub length-codes_of : (colour : Colour) → (length (codes_of colour) ≡ 105) × (length (lens_of colour) ≡ 105)
length-codes_of colour = grind arith

pub run_table_is : (colour : Colour) → run_table colour ≡ run_entries 0 (codes_of colour) (lens_of colour)
unfolding white_runs white_terminating white_make_up black_runs black_terminating black_make_up common_make_up
run_table_is White = refl
run_table_is Black = refl

-- its entry at an index
pub run_entry_at : (colour : Colour) (index : ℕ) → index < 105 → slice_get (run_table colour) index
    ≡ Some (record {
      code = get_or (codes_of colour) index 0;
      len = get_or (lens_of colour) index 0;
      meaning =
          run_meaning index;
    })
run_entry_at colour index within = grind (arith, common_steps, run_table_is, slice_get-run_entries)
