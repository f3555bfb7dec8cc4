-- The codes of a row begin with fewer than eleven zeros and a 1.
use Rattle.std.proofs.Common.{arith, ◌≡◌, ℕ, zero, suc, ◌<◌, List, [], ◌∷◌, ◌++◌, length, get_or, map, Bool, true}
use Rattle.std.proofs.Common.{false}
use Rattle.std.proofs.Common.{refl, ap, subst, ◌∙◌}
use Rattle.std.specs.Prelude.{◌&&◌}
use Rattle.fax_bits.specs.declared.codes.CodeEntry.{CodeEntry}
use Rattle.fax_bits.specs.declared.Colour.{Colour}
use Rattle.fax_bits.specs.declared.Colour.TheVariants.{White}
use Rattle.fax_bits.specs.declared.run_codes.RunCode.TheVariants.{Terminating, MakeUp}
use Rattle.fax_bits.specs.Bits.{code_bits}
use Rattle.fax_bits.specs.Codes.{IsRun, bits_of, Decodes, DecodesAll}
use Rattle.fax_bits.specs.Reading.{read}
use Rattle.fax_bits.specs.Tables.{run_table, modes, white_runs, white_terminating, white_make_up, common_make_up}
use Rattle.fax_bits.specs.views.Source.{HasLeadingZeros}
use Rattle.fax_rows.specs.ReadRows.{read_one_dimensional, read_two_dimensional}
use Rattle.fax_rows.proofs.RowRuleLemmas.{runs_rule, first_step_rule}
use Rattle.fax_page.specs.declared.Dimension.TheVariants.{OneDimensional, TwoDimensional}
use Rattle.fax_page.specs.declared.Dimension.{Dimension}
use Rattle.fax_page.specs.Lines.{StripForm, IsLine, read_codes}
use Rattle.fax_page.specs.code.Starts.{BeginsBelowEleven}
use Rattle.fax_page.proofs.LineParts.{line_of}
use Rattle.fax_page.proofs.StartLaws.{IsStart, code_at}

-- a 1 is among the first n bits
abbrev has_one : ℕ → List Bool → Bool
has_one zero b = false
has_one (suc n) [] = false
has_one (suc n) (true ∷ b) = true
has_one (suc n) (false ∷ b) = has_one n b

ahead_of : (n : ℕ) (b more : List Bool) → has_one n b ≡ true
    → (zeros : ℕ) × (zeros < n) × HasLeadingZeros (b ++ more) zeros
ahead_of zero b more h = cc
ahead_of (suc n) [] more h = cc
ahead_of (suc n) (true ∷ b) more h = (0, omega arith, (b ++ more, refl))
ahead_of (suc n) (false ∷ b) more h =
    let ahead = ahead_of n b more h in
    (suc ahead.0, omega (arith, ahead.1), (ahead.2.0, ap (λ c. false ∷ c) ahead.2.1))

-- each code of the table has a 1 among its first eleven bits
abbrev all_have_one : {M : Type 0} → List (CodeEntry M) → Bool
all_have_one [] = true
all_have_one (entry ∷ table) = has_one 11 (bits_of entry) && all_have_one table

both : (a b : Bool) → (a && b) ≡ true → (a ≡ true) × (b ≡ true)
both a b h = grind arith

one_at : {M : Type 0} (table : List (CodeEntry M)) (i : ℕ) (entry : CodeEntry M) → all_have_one table ≡ true
    → i < length table
    → get_or table i entry ≡ entry → has_one 11 (bits_of entry) ≡ true
one_at [] i entry all within is = absurd (omega arith)
one_at (first ∷ table) zero entry all within is = grind arith
one_at (first ∷ table) (suc i) entry all within is =
    one_at table i entry (both (has_one 11 (bits_of first)) (all_have_one table) all).1 (omega arith) is

all_have_one-white : all_have_one (run_table White) ≡ true
unfolding code_bits white_runs white_terminating white_make_up common_make_up
all_have_one-white = refl

all_have_one-modes : all_have_one modes ≡ true
unfolding code_bits modes
all_have_one-modes = refl

-- bits of which a code is taken
taken_begins : {M : Type 0} (table : List (CodeEntry M)) (b : List Bool) (meaning : M) (rest : List Bool)
    → all_have_one table ≡ true
    → Decodes table b meaning rest → BeginsBelowEleven b
taken_begins table b meaning rest all taken =
    let ahead = ahead_of 11 (bits_of taken.entry) rest
    (one_at table taken.listed.0 taken.entry all taken.listed.1 taken.listed.2) in
    code_at b ahead.2.0 ahead.0 ahead.1 (taken.spelled ∙ ahead.2.1)

run_begins : (make_up : List ℕ) (last : ℕ) (b rest : List Bool)
    → DecodesAll (run_table White) b (map MakeUp make_up ++ Terminating last ∷ []) rest
    → BeginsBelowEleven b
run_begins [] last b rest spelled = taken_begins (run_table White) b (Terminating last) spelled.0 all_have_one-white
    spelled.1
run_begins (n ∷ make_up) last b rest spelled = taken_begins (run_table White) b (MakeUp n) spelled.0 all_have_one-white
    spelled.1

runs_begin : (width : ℕ) (b : List Bool) (row : List Colour) (rest : List Bool) → 0 < width
    → read_one_dimensional width b ≡ read row rest → BeginsBelowEleven b
runs_begin width b row rest some is =
    runs_rule width (λ at b pels rest. at.colour ≡ White → length at.pels < width → BeginsBelowEleven b)
    (λ at b end white inside. absurd (omega (arith, inside, end)))
    (λ at to b remaining pels rest unfinished run more white inside.
    let first = subst (λ c. IsRun c b run.n remaining) white run.run in
    run_begins first.make_up first.last b remaining first.spelled)
    (record { pels = []; colour = White }) b row rest is refl some

steps_begin : (reference : List Colour) (b : List Bool) (row : List Colour) (rest : List Bool)
    → read_two_dimensional reference b ≡ read row rest → BeginsBelowEleven b
steps_begin reference b row rest is =
    first_step_rule reference (λ b. BeginsBelowEleven b)
    (λ at b new remaining step. taken_begins modes b step.mode step.after all_have_one-modes step.taken)
    b row rest is

-- the codes of a row of at least one pel
pub row_begins : (dimension : Dimension) (width : ℕ) (reference : List Colour) (b : List Bool) (row : List Colour)
    (rest : List Bool)
    → 0 < width
    → read_codes dimension width reference b ≡ read row rest → BeginsBelowEleven b
row_begins OneDimensional width reference b row rest some is = runs_begin width b row rest some is
row_begins TwoDimensional width reference b row rest some is = steps_begin reference b row rest is

-- a row whose codes are read after what stands before them
pub line_started : (form : StripForm) (i : ℕ) (reference row : List Colour) (b codes rest : List Bool)
    (dimension : Dimension)
    → 0 < form.width → IsStart form.coding i b (read dimension codes)
    → read_codes dimension form.width reference codes ≡ read row rest
    → IsLine form i reference b row rest
line_started form i reference row b codes rest dimension some start coded =
    line_of form i reference b row rest (record {
      dimension = dimension;
      codes = codes;
      start = start;
      first_code = row_begins dimension form.width reference codes row rest some coded;
      coded = coded;
    })
