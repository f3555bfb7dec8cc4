-- The parts of a row of a strip that is read: what stands before its codes, its first code, and its
-- codes; and of the fault in its way.
use Rattle.std.proofs.Common.{arith, ◌≡◌, ℕ, suc, ◌<◌, ◌≤◌, List, [], ◌∷◌, ◌++◌, Bool, true, false}
use Rattle.std.proofs.Common.{length, length-append, refl, ap, sym, ◌∙◌, inl, inr, Option, Some, None, replicate}
use Rattle.std.specs.Prelude.{MatchOption, ◌⊎◌}
use Rattle.std.proofs.lemmas.Bool.{cases_lt}
use Rattle.std.proofs.lemmas.List.{length-replicate}
use Rattle.std.proofs.lemmas.Bool.Decides.{nat_tests}
use Rattle.fax_bits.specs.declared.Colour.{Colour}
use Rattle.fax_bits.specs.Bits.{StartsWith}
use Rattle.fax_bits.specs.Codes.{after_front}
use Rattle.fax_bits.specs.Reading.{Read, read, failed, ◌>>=◌, map_fault}
use Rattle.fax_bits.proofs.CodeLemmas.{front_is}
use Rattle.fax_bits.proofs.StepsLemmas.{bind_read, goes, fails, named_read}
use Rattle.fax_rows.specs.declared.RowFault.{RowFault}
use Rattle.fax_page.specs.declared.Dimension.{Dimension}
use Rattle.fax_page.specs.declared.StripFault.{StripFault}
use Rattle.fax_page.specs.declared.StripFault.TheVariants.{DataEnds, EndMarker}
use Rattle.fax_page.specs.declared.StripForm.{StripForm}
use Rattle.fax_page.specs.Lines.{NextOne, ends_line, in_code, next_one, not_there, read_start, first_bits, check_first}
use Rattle.fax_page.specs.Lines.{read_codes, strip_fault, codes_after, IsLine, IsCause}
use Rattle.fax_page.specs.code.Starts.{BeginsBelowEleven}
use Rattle.fax_page.proofs.StartLaws.{by_next, eol_is, none_at}
use Rattle.fax_page.proofs.StartLemmas.{eleven_ahead, eleven_alone}

-- eleven zeros where a row's first code is next
no_front : (front b : List Bool) → (StartsWith b front → ⊥) → after_front front b ≡ None
no_front front b none = by (after_front front b) (front_is front b)
  where
    by : (r : Option (List Bool)) → MatchOption r (StartsWith b front → ⊥) (λ rest. b ≡ front ++ rest) → r ≡ None
    by None is = refl
    by (Some rest) is = absurd (none (rest, is))

never_code : (n : ℕ) (b : List Bool) → 11 ≤ n → next_one n b ≡ in_code → ⊥
never_code n [] many is = absurd (cc is)
never_code n (false ∷ b) many is = never_code (suc n) b (omega (arith, many)) is
never_code n (true ∷ b) many is = grind (arith, nat_tests, many, is)

pub begins_of : (b : List Bool) → BeginsBelowEleven b → check_first b ≡ read tt b
begins_of b below =
    let none = no_front (replicate 11 false) b (λ begins.
    never_code 11 begins.0 (omega arith) (sym (ap (next_one 0) begins.1) ∙ below)) in
    cc (none, below)

pub marker_of : (b after : List Bool) → b ≡ replicate 11 false ++ after → check_first b ≡ failed EndMarker
marker_of b after is = rw is refl

short_of : (b : List Bool) (n : ℕ) → n < 11 → b ≡ replicate n false → check_first b ≡ failed DataEnds
short_of b n short is =
    let one = none_at b (n, is) in
    let none = no_front (replicate 11 false) b (λ begins.
    let long : length b ≡ n = ap length is ∙ length-replicate n false in
    let more = ap length begins.1 ∙ length-append (replicate 11 false) begins.0 in omega (arith, short, long, more)) in
    cc (none, one)

-- where a row's first code is next: eleven zeros, or fewer and nothing more
abbrev pub IsNoFirstCode : List Bool → StripFault → Type 0
IsNoFirstCode b fault =
    ((after : List Bool) × (b ≡ replicate 11 false ++ after) × (fault ≡ EndMarker))
    ⊎ ((zeros : ℕ) × (zeros < 11) × (b ≡ replicate zeros false) × (fault ≡ DataEnds))

-- the first code is there, and is not read yet, or it is not there
abbrev IsFirst : List Bool → Read (Unit {0}) StripFault → Type 0
IsFirst b (read _ rest) = BeginsBelowEleven b × (b ≡ rest)
IsFirst b (failed fault) = IsNoFirstCode b fault

first_is : (b : List Bool) → IsFirst b (check_first b)
first_is b = by (after_front (replicate 11 false) b) (next_one 0 b) (front_is (replicate 11 false) b) refl
  where
    by : (r : Option (List Bool)) (one : NextOne)
        → MatchOption r (StartsWith b (replicate 11 false) → ⊥) (λ rest. b ≡ replicate 11 false ++ rest)
        → next_one 0 b ≡ one → IsFirst b (first_bits r one b)
    by (Some after) one is at = inl (after, is, refl)
    by None in_code none at = (at, refl)
    by None not_there none at =
        let all = by_next b not_there at in
        elim (cases_lt all.0 11) [
          | inl few ↦ inr (all.0, few, all.1, refl)
          | inr many ↦
              let long : length b ≡ all.0 = ap length all.1 ∙ length-replicate all.0 false in
              absurd (none (eleven_alone b (omega (arith, long, many)) all))
        ]
    by None (ends_line rest) none at =
        let eol = eol_is b rest at in absurd (none (eleven_ahead b eol.0 eol.1 (rest, eol.2)))

-- the parts of a row that is read
pub record LineParts (form : StripForm) (i : ℕ) (reference : List Colour) (b : List Bool) (row : List Colour)
    (rest : List Bool) : Type 0 where
  pub dimension : Dimension
  pub codes : List Bool
  pub start : read_start form.coding i b ≡ read dimension codes
  pub first_code : BeginsBelowEleven codes
  pub coded : read_codes dimension form.width reference codes ≡ read row rest

pub parts : (form : StripForm) (i : ℕ) (reference : List Colour) (b : List Bool) (row : List Colour) (rest : List Bool)
    → IsLine form i reference b row rest → LineParts form i reference b row rest
parts form i reference b row rest line =
    let start = bind_read (read_start form.coding i b) (codes_after form reference) row rest line in
    let first = bind_read (check_first start.1)
    (λ _ c. map_fault strip_fault (read_codes start.0 form.width reference c)) row rest start.3 in
    by start.0 start.1 start.2 (check_first start.1) (first_is start.1) first.1 first.2
    (named_read strip_fault (read_codes start.0 form.width reference first.1) row rest first.3)
  where
    by : (dimension : Dimension) (codes : List Bool) → read_start form.coding i b ≡ read dimension codes
        → (r : Read (Unit {0}) StripFault) → IsFirst codes r → (after : List Bool) → r ≡ read tt after
        → read_codes dimension form.width reference after ≡ read row rest → LineParts form i reference b row rest
    by dimension codes start (read _ here) (below, same) after is coded =
        let there : codes ≡ after = same ∙ cc (is) in
        record {
          dimension = dimension;
          codes = codes;
          start = start;
          first_code = below;
          coded = ap (read_codes dimension form.width reference) there ∙ coded;
        }
    by dimension codes start (failed fault) none after is coded = absurd (cc (is))

-- and the row of such parts
pub line_of : (form : StripForm) (i : ℕ) (reference : List Colour) (b : List Bool) (row : List Colour)
    (rest : List Bool)
    → LineParts form i reference b row rest → IsLine form i reference b row rest
line_of form i reference b row rest line =
    goes (codes_after form reference) line.start
    (goes _ (begins_of line.codes line.first_code) (ap (map_fault strip_fault) line.coded))

-- the fault in the way of a row: before its codes, where its first code is next, or in them
abbrev pub IsStopInCodes : Dimension → ℕ → List Colour → List Bool → StripFault → Type 0
IsStopInCodes dimension width reference b fault =
    IsNoFirstCode b fault
    ⊎ (BeginsBelowEleven b × (cause : RowFault)
    × (read_codes dimension width reference b ≡ failed cause) × (fault ≡ strip_fault cause))

abbrev pub CauseParts : StripForm → ℕ → List Colour → List Bool → StripFault → Type 0
CauseParts form i reference b fault =
    (read_start form.coding i b ≡ failed fault)
    ⊎ ((dimension : Dimension) × (codes : List Bool) × (read_start form.coding i b ≡ read dimension codes)
    × IsStopInCodes dimension form.width reference codes fault)

stop_of : (form : StripForm) (reference : List Colour) (dimension : Dimension) (b : List Bool) (fault : StripFault)
    → IsStopInCodes dimension form.width reference b fault → codes_after form reference dimension b ≡ failed fault
stop_of form reference dimension b fault (inl (inl marker)) =
    fails _ (marker_of b marker.0 marker.1 ∙ ap (λ f. failed f) (sym marker.2))
stop_of form reference dimension b fault (inl (inr short)) =
    fails _ (short_of b short.0 short.1 short.2 ∙ ap (λ f. failed f) (sym short.3))
stop_of form reference dimension b fault (inr (first, cause, at, is)) =
    goes _ (begins_of b first) (ap (map_fault strip_fault) at ∙ ap (λ f. failed f) (sym is))

pub cause_of : (form : StripForm) (i : ℕ) (reference : List Colour) (b : List Bool) (fault : StripFault)
    → CauseParts form i reference b fault → IsCause form i reference b fault
cause_of form i reference b fault (inl start) = fails (codes_after form reference) start
cause_of form i reference b fault (inr (dimension, codes, start, stops)) =
    goes (codes_after form reference) start (stop_of form reference dimension codes fault stops)

stop_is : (form : StripForm) (reference : List Colour) (dimension : Dimension) (b : List Bool) (fault : StripFault)
    → codes_after form reference dimension b ≡ failed fault → IsStopInCodes dimension form.width reference b fault
stop_is form reference dimension b fault is = by (check_first b) (first_is b) is
  where
    named : (r : Read (List Colour) RowFault) (codes : List Bool) → read_codes dimension form.width reference codes ≡ r
        → map_fault strip_fault r ≡ failed fault
        → (cause : RowFault) × (read_codes dimension form.width reference codes ≡ failed cause)
        × (fault ≡ strip_fault cause)
    named (read row rest) codes at same = absurd (cc (same))
    named (failed cause) codes at same = (cause, at, cc (same))

    by : (r : Read (Unit {0}) StripFault) → IsFirst b r
        → (r >>= λ _ c. map_fault strip_fault (read_codes dimension form.width reference c)) ≡ failed fault
        → IsStopInCodes dimension form.width reference b fault
    by (read _ here) (below, there) same =
        let why = named (read_codes dimension form.width reference here) here refl same in
        inr (below, why.0, ap (read_codes dimension form.width reference) there ∙ why.1, why.2)
    by (failed why) none same = let is : why ≡ fault = cc (same) in inl (rw (sym is) none)

pub cause_parts : (form : StripForm) (i : ℕ) (reference : List Colour) (b : List Bool) (fault : StripFault)
    → IsCause form i reference b fault → CauseParts form i reference b fault
cause_parts form i reference b fault is = by (read_start form.coding i b) refl is
  where
    by : (r : Read Dimension StripFault) → read_start form.coding i b ≡ r
        → (r >>= codes_after form reference) ≡ failed fault → CauseParts form i reference b fault
    by (read dimension codes) start same =
        inr (dimension, codes, start, stop_is form reference dimension codes fault same)
    by (failed why) start same = let is : why ≡ fault = cc (same) in inl (start ∙ ap (λ f. failed f) is)
