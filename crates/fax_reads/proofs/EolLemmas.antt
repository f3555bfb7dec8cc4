-- No EOL stands among the codes of a row: each code begins with at most seven zeros, and ends with
-- at most three.
use Rattle.fax_page.specs.code.Starts.{BeginsBelowEleven, IsEndOfLine}
use Rattle.std.proofs.Common.{arith, ◌≡◌, ℕ, zero, suc, ◌+◌, ◌<◌, ◌≤◌, List, [], ◌∷◌, ◌++◌, map, Bool, true, false}
use Rattle.std.proofs.Common.{refl, append_assoc, append-nil, get_or, length, sym, ap, ◌∙◌, subst, inl, inr, Option}
use Rattle.std.proofs.Common.{Some, None, replicate}
use Rattle.std.specs.Prelude.{◌&&◌, ◌⊎◌, Contains, nat_le, if◌then◌else◌}
use Rattle.std.proofs.lemmas.Bool.Decides.{nat_tests}
use Rattle.fax_bits.specs.declared.Colour.{Colour}
use Rattle.fax_bits.specs.declared.Colour.TheVariants.{White, Black}
use Rattle.fax_bits.specs.declared.codes.CodeEntry.{CodeEntry}
use Rattle.fax_bits.specs.declared.mode_codes.ModeCode.{ModeCode}
use Rattle.fax_bits.specs.declared.mode_codes.ModeCode.TheVariants as mode
use Rattle.fax_bits.specs.declared.run_codes.RunCode.{RunCode}
use Rattle.fax_bits.specs.declared.run_codes.RunCode.TheVariants.{Extension, MakeUp, Terminating}
use Rattle.fax_bits.specs.Bits.{IsAllZeros, code_bits}
use Rattle.fax_bits.specs.Codes.{IsRun, DecodesAll, Decodes, bits_of}
use Rattle.fax_bits.specs.Tables.{black_make_up, black_runs, black_terminating, common_make_up, modes, run_table}
use Rattle.fax_bits.specs.Tables.{white_make_up, white_runs, white_terminating}
use Rattle.fax_rows.specs.Rows.{Position, beginning, other}
use Rattle.fax_rows.specs.code.CodingSteps.{IsStepBy}
use Rattle.fax_rows.proofs.RowRuleLemmas.{runs_rule, steps_rule}
use Rattle.fax_page.specs.declared.Dimension.{Dimension}
use Rattle.fax_page.specs.declared.Dimension.TheVariants.{OneDimensional, TwoDimensional}
use Rattle.fax_page.specs.declared.StripForm.{StripForm}
use Rattle.fax_bits.specs.Reading.{read}
use Rattle.fax_page.specs.declared.Coding.{Coding}
use Rattle.fax_page.specs.Lines.{IsLine, NextOne, ends_line, in_code, next_one, read_codes, read_start}
use Rattle.fax_page.proofs.StartedLemmas.{one_started}
use Rattle.fax_page.proofs.LineParts.{parts}
use Rattle.fax_page.specs.Lines.{not_there}
use Rattle.fax_page.specs.Salvage.{after_eol}
use Rattle.fax_reads.specs.laws.Eols.{FoundRowsReachToTheNextEol, RowsHoldNoEol}
use Rattle.fax_page.proofs.StartLaws.{by_next, eol_is}

-- how many zeros stand at the end of bits, after so many zeros, where no EOL is among them
abbrev zeros_after : ℕ → List Bool → Option ℕ
zeros_after z [] = Some z
zeros_after z (false ∷ b) = zeros_after (suc z) b
zeros_after z (true ∷ b) = if nat_le 11 z then None else (zeros_after 0 b)

at_one : (many : Bool) (b : List Bool) (t : ℕ) → (if many then None else (zeros_after 0 b)) ≡ Some t
    → (many ≡ false) × (zeros_after 0 b ≡ Some t)
at_one true b t is = absurd (cc is)
at_one false b t is = (refl, is)

-- an EOL is looked for after them
looked_after : (own rest : List Bool) (z t : ℕ) → zeros_after z own ≡ Some t
    → after_eol z (own ++ rest) ≡ after_eol t rest
looked_after [] rest z t is = let same : z ≡ t = cc is in rw same refl
looked_after (false ∷ own) rest z t is = looked_after own rest (suc z) t is
looked_after (true ∷ own) rest z t is =
    let one = at_one (nat_le 11 z) own t is in rw (one.0) (looked_after own rest 0 t one.1)

joined : (own more : List Bool) (z t : ℕ) → zeros_after z own ≡ Some t
    → zeros_after z (own ++ more) ≡ zeros_after t more
joined [] more z t is = let same : z ≡ t = cc is in rw same refl
joined (false ∷ own) more z t is = joined own more (suc z) t is
joined (true ∷ own) more z t is =
    let one = at_one (nat_le 11 z) own t is in rw (one.0) (joined own more 0 t one.1)

-- after at most three zeros no EOL is among the bits, and at most three zeros are at their end
abbrev IsFree : List Bool → Type 0
IsFree own = (z : ℕ) → z ≤ 3 → (t : ℕ) × (zeros_after z own ≡ Some t) × (t ≤ 3)

abbrev ends_low : Option ℕ → Bool
ends_low None = false
ends_low (Some t) = nat_le t 3

abbrev is_free : List Bool → Bool
is_free own =
    (ends_low (zeros_after 0 own) && ends_low (zeros_after 1 own))
    && (ends_low (zeros_after 2 own) && ends_low (zeros_after 3 own))

low : (at : Option ℕ) → ends_low at ≡ true → (t : ℕ) × (at ≡ Some t) × (t ≤ 3)
low None is = absurd (cc is)
low (Some t) is = (t, refl, grind (arith, nat_tests, is))

both : (first second : Bool) → (first && second) ≡ true → (first ≡ true) × (second ≡ true)
both true second is = (refl, is)
both false second is = absurd (cc is)

each_free : (at_0 at_1 at_2 at_3 : Bool) → ((at_0 && at_1) && (at_2 && at_3)) ≡ true
    → (at_0 ≡ true) × (at_1 ≡ true) × (at_2 ≡ true) × (at_3 ≡ true)
each_free at_0 at_1 at_2 at_3 is =
    let halves = both (at_0 && at_1) (at_2 && at_3) is in
    let low_two = both at_0 at_1 halves.0 in
    let high_two = both at_2 at_3 halves.1 in (low_two.0, low_two.1, high_two.0, high_two.1)

free_where : (own : List Bool) → is_free own ≡ true → IsFree own
free_where own is zero few =
    low (zeros_after 0 own) (each_free (ends_low (zeros_after 0 own)) (ends_low (zeros_after 1 own))
    (ends_low (zeros_after 2 own)) (ends_low (zeros_after 3 own)) is).0
free_where own is (suc zero) few =
    low (zeros_after 1 own) (each_free (ends_low (zeros_after 0 own)) (ends_low (zeros_after 1 own))
    (ends_low (zeros_after 2 own)) (ends_low (zeros_after 3 own)) is).1
free_where own is (suc (suc zero)) few =
    low (zeros_after 2 own) (each_free (ends_low (zeros_after 0 own)) (ends_low (zeros_after 1 own))
    (ends_low (zeros_after 2 own)) (ends_low (zeros_after 3 own)) is).2
free_where own is (suc (suc (suc zero))) few =
    low (zeros_after 3 own) (each_free (ends_low (zeros_after 0 own)) (ends_low (zeros_after 1 own))
    (ends_low (zeros_after 2 own)) (ends_low (zeros_after 3 own)) is).3
free_where own is (suc (suc (suc (suc z)))) few = absurd (omega (arith, few))

-- bits that are free, and then the rest
abbrev AreCodes : List Bool → List Bool → Type 0
AreCodes b rest = (own : List Bool) × (b ≡ own ++ rest) × IsFree own

no_codes : (b rest : List Bool) → b ≡ rest → AreCodes b rest
no_codes b rest same = ([], same, λ z few. (z, refl, few))

codes_and : (b middle rest : List Bool) → AreCodes b middle → AreCodes middle rest → AreCodes b rest
codes_and b middle rest (own, is, free) (more, follows, free_too) = (
  own ++ more,
  is ∙ ap (λ codes. own ++ codes) follows ∙ sym (append_assoc own more rest),
  λ z few.
      let here = free z few in
      let there = free_too here.0 here.2 in
      (there.0, joined own more z here.0 here.1 ∙ there.1, there.2),
)

-- each code of a table
abbrev all_pass : {A : Type 0} → (A → Bool) → List A → Bool
all_pass test [] = true
all_pass test (x ∷ xs) = test x && all_pass test xs

passes_at : {A : Type 0} (test : A → Bool) (xs : List A) (k : ℕ) (x : A) → all_pass test xs ≡ true → k < length xs
    → get_or xs k x ≡ x → test x ≡ true
passes_at test [] k x all few same = absurd (omega (arith, few))
passes_at test (y ∷ xs) zero x all few same =
    subst (λ z. test z ≡ true) same (both (test y) (all_pass test xs) all).0
passes_at test (y ∷ xs) (suc k) x all few same =
    passes_at test xs k x (both (test y) (all_pass test xs) all).1 (omega (arith, few)) same

passes_listed : {A : Type 0} (test : A → Bool) (xs : List A) (x : A) → all_pass test xs ≡ true → Contains xs x
    → test x ≡ true
passes_listed test xs x all (k, few, same) = passes_at test xs k x all few same

abbrev passes : RunCode → Bool → Bool
passes Extension free = true
passes (Terminating n) free = free
passes (MakeUp n) free = free

abbrev run_passes : CodeEntry RunCode → Bool
run_passes entry = passes entry.meaning (is_free (bits_of entry))

abbrev mode_passes : CodeEntry ModeCode → Bool
mode_passes entry = is_free (bits_of entry)

runs_pass : (colour : Colour) → all_pass run_passes (run_table colour) ≡ true
unfolding code_bits white_runs black_runs white_terminating black_terminating white_make_up black_make_up common_make_up
runs_pass White = refl
runs_pass Black = refl

modes_pass : all_pass mode_passes modes ≡ true
unfolding code_bits modes
modes_pass = refl

terminating_free : (meaning : RunCode) (free : Bool) (n : ℕ) → meaning ≡ Terminating n → passes meaning free ≡ true
    → free ≡ true
terminating_free (Terminating m) free n same is = is
terminating_free (MakeUp m) free n same is = is
terminating_free Extension free n same is = absurd (cc same)

make_up_free : (meaning : RunCode) (free : Bool) (n : ℕ) → meaning ≡ MakeUp n → passes meaning free ≡ true
    → free ≡ true
make_up_free (Terminating m) free n same is = is
make_up_free (MakeUp m) free n same is = is
make_up_free Extension free n same is = absurd (cc same)

run_listed : (colour : Colour) (entry : CodeEntry RunCode) → Contains (run_table colour) entry
    → run_passes entry ≡ true
run_listed colour entry listed =
    passes_listed run_passes (run_table colour) entry (runs_pass colour) listed

terminating_codes : (colour : Colour) (b : List Bool) (n : ℕ) (rest : List Bool)
    → Decodes (run_table colour) b (Terminating n) rest → AreCodes b rest
terminating_codes colour b n rest taken =
    let good = terminating_free taken.entry.meaning (is_free (bits_of taken.entry)) n taken.means
    (run_listed colour taken.entry taken.listed) in
    (bits_of taken.entry, taken.spelled, free_where (bits_of taken.entry) good)

make_up_codes : (colour : Colour) (b : List Bool) (n : ℕ) (rest : List Bool)
    → Decodes (run_table colour) b (MakeUp n) rest → AreCodes b rest
make_up_codes colour b n rest taken =
    let good = make_up_free taken.entry.meaning (is_free (bits_of taken.entry)) n taken.means
    (run_listed colour taken.entry taken.listed) in
    (bits_of taken.entry, taken.spelled, free_where (bits_of taken.entry) good)

mode_codes : (b : List Bool) (meaning : ModeCode) (rest : List Bool) → Decodes modes b meaning rest → AreCodes b rest
mode_codes b meaning rest taken =
    let good = passes_listed mode_passes modes taken.entry modes_pass taken.listed in
    (bits_of taken.entry, taken.spelled, free_where (bits_of taken.entry) good)

-- runs
spelled_codes : (colour : Colour) (make_up : List ℕ) (last : ℕ) (b rest : List Bool)
    → DecodesAll (run_table colour) b (map MakeUp make_up ++ Terminating last ∷ []) rest → AreCodes b rest
spelled_codes colour [] last b rest (middle, taken, same) =
    codes_and b middle rest (terminating_codes colour b last middle taken) (no_codes middle rest same)
spelled_codes colour (n ∷ make_up) last b rest (middle, taken, more) =
    codes_and b middle rest (make_up_codes colour b n middle taken)
    (spelled_codes colour make_up last middle rest more)

run_codes : (colour : Colour) (b : List Bool) (n : ℕ) (rest : List Bool) → IsRun colour b n rest → AreCodes b rest
run_codes colour b n rest run = spelled_codes colour run.make_up run.last b rest run.spelled

-- steps
step_codes : (meaning : ModeCode) (reference : List Colour) (old : Position) (b : List Bool) (new : Position)
    (rest : List Bool) → IsStepBy meaning reference old b new rest → AreCodes b rest
step_codes mode.Pass reference old b new rest step = no_codes b rest step.1
step_codes (mode.Vertical d) reference old b new rest step = no_codes b rest step.1
step_codes mode.Horizontal reference old b new rest step =
    codes_and b step.middle rest (run_codes old.colour b step.first step.middle step.first_run)
    (run_codes (other old.colour) step.middle step.second rest step.second_run)
step_codes mode.Extension reference old b new rest step = absurd step

row_codes : (dimension : Dimension) (width : ℕ) (reference : List Colour) (b : List Bool) (row : List Colour)
    (rest : List Bool) → read_codes dimension width reference b ≡ read row rest → AreCodes b rest
row_codes OneDimensional width reference b row rest is =
    runs_rule width (λ at b pels rest. AreCodes b rest) (λ at b end. no_codes b b refl)
    (λ at to b remaining pels rest unfinished run more.
    codes_and b remaining rest (run_codes at.colour b run.n remaining run.run) more)
    (record { pels = []; colour = White }) b row rest is
row_codes TwoDimensional width reference b row rest is =
    (steps_rule reference (λ at remaining. AreCodes b remaining)
    (λ at middle new remaining step codes. codes_and b middle remaining codes
    (codes_and middle step.after remaining (mode_codes middle step.mode step.after step.taken)
    (step_codes step.mode reference at step.after new remaining step.step)))
    beginning b row rest is (no_codes b b refl)).1

line_codes : (form : StripForm) (i : ℕ) (reference : List Colour) (b : List Bool) (row : List Colour) (rest : List Bool)
    (dimension : Dimension) (codes : List Bool)
    → IsLine form i reference b row rest → read_start form.coding i b ≡ read dimension codes → AreCodes codes rest
line_codes form i reference b row rest dimension codes line start =
    let read = parts form i reference b row rest line in
    let same = one_started form.coding i b _ _ _ _ read.start start in
    subst (λ c. AreCodes c rest) same.1
    (row_codes read.dimension form.width reference read.codes row rest read.coded)

-- the EOL after zeros
eol_there : (n z : ℕ) (after : List Bool) → 11 ≤ z + n
    → after_eol z (replicate n false ++ true ∷ after) ≡ Some after
eol_there zero z after many =
    let enough : nat_le 11 z ≡ true = grind (arith, nat_tests, many) in rw enough refl
eol_there (suc n) z after many = eol_there n (suc z) after (omega (arith, many))

inside : (codes rest : List Bool) → AreCodes codes rest
    → (own : List Bool) × (codes ≡ own ++ rest) × (after_eol 0 own ≡ None)
inside codes rest (own, is, free) =
    let end = free 0 (omega arith) in
    let none : after_eol 0 (own ++ []) ≡ None = looked_after own [] 0 end.0 end.1 in
    (own, is, ap (after_eol 0) (sym (append-nil own)) ∙ none)

next : (codes rest after : List Bool) → AreCodes codes rest → IsEndOfLine rest after
    → after_eol 0 codes ≡ Some after
next codes rest after (own, is, free) eol =
    let end = free 0 (omega arith) in
    let ends = eol_is rest after eol in
    ap (after_eol 0) is ∙ looked_after own rest 0 end.0 end.1 ∙ ap (after_eol end.0) ends.2
    ∙ eol_there ends.0 end.0 after (omega (arith, ends.1))

pub no_eols : RowsHoldNoEol
no_eols = record {
  inside = λ form i reference b row rest dimension codes line start.
      inside codes rest (line_codes form i reference b row rest dimension codes line start);
  next = λ form i reference b row rest dimension codes after line start eol.
      next codes rest after (line_codes form i reference b row rest dimension codes line start) eol;
}

-- what follows a row that is found
follows : (rest : List Bool) (one : NextOne) → next_one 0 rest ≡ one → (BeginsBelowEleven rest → ⊥)
    → IsAllZeros rest ⊎ ((after : List Bool) × IsEndOfLine rest after)
follows rest not_there at not_below = inl (by_next rest not_there at)
follows rest in_code at not_below = absurd (not_below at)
follows rest (ends_line after) at not_below = inr (after, at)

abbrev Reaches : Coding → ℕ → List Bool → List Bool → Type 0
Reaches coding i b rest =
    IsAllZeros rest
    ⊎ ((after : List Bool) × IsEndOfLine rest after
    × ((dimension : Dimension) (codes : List Bool) → read_start coding i b ≡ read dimension codes
    → after_eol 0 codes ≡ Some after))

reaches : (form : StripForm) (i : ℕ) (reference : List Colour) (b : List Bool) (row : List Colour) (rest : List Bool)
    → IsLine form i reference b row rest → IsAllZeros rest ⊎ ((after : List Bool) × IsEndOfLine rest after)
    → Reaches form.coding i b rest
reaches form i reference b row rest line (inl all) = inl all
reaches form i reference b row rest line (inr (after, eol)) = inr (
  after,
  eol,
  λ dimension codes start. no_eols.next form i reference b row rest dimension codes after line start eol,
)

pub found_reach : FoundRowsReachToTheNextEol
found_reach form i before reference b row rows (rest, inside, over, ends, more) upcoming =
    let after = follows rest (next_one 0 rest) refl (ends upcoming) in
    (rest, over.line, reaches form i reference b row rest over.line after)
