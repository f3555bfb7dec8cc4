-- A run that is read by one make-up code at most has the bits that are written.
use Rattle.std.proofs.lemmas.Grind.{common_steps}
use Rattle.std.proofs.Common.{◌≡◌, ℕ, suc, ◌+◌, ◌*◌, ◌/◌, ◌%◌, ◌<◌, ◌≤◌, List, [], ◌∷◌, ◌++◌, length, Bool, refl, ap}
use Rattle.std.proofs.Common.{sym, ◌∙◌}
use Rattle.std.proofs.Common.{arith, append_assoc, append-nil}
use Rattle.std.specs.Prelude.{Some, slice_get, flat_map}
use Rattle.std.proofs.lemmas.Option.{slice_get_read}
use Rattle.fax_bits.specs.declared.codes.CodeEntry.{CodeEntry}
use Rattle.fax_bits.specs.declared.Colour.{Colour}
use Rattle.fax_bits.specs.declared.run_codes.RunCode.{RunCode}
use Rattle.fax_bits.specs.declared.run_codes.RunCode.TheVariants.{Terminating, MakeUp}
use Rattle.fax_bits.specs.Codes.{bits_of, Decodes}
use Rattle.fax_bits.specs.code.Codes.{run_meaning}
use Rattle.fax_bits.specs.code.TableLaws.{length-run_table}
use Rattle.fax_bits.specs.Written.{run_code_bits, run_codes, run_bits}
use Rattle.fax_bits.specs.Tables.{run_table}
use Rattle.fax_bits.proofs.ArrayLemmas.{run_entry_at}
use Rattle.fax_bits.proofs.PutLemmas.{short_bits}
use Rattle.fax_bits.proofs.RunCodeLemmas.{bits_at-found, bits_at-run_table}

-- the place of a code in its table, whose bits are those that are written
record IsCodeAt (colour : Colour) (b : List Bool) (code : RunCode) (rest : List Bool) : Type 0 where
  place : ℕ
  within : place < 105
  means : run_meaning place ≡ code
  bits : b ≡ run_code_bits colour code ++ rest

entry_at : (colour : Colour) (b : List Bool) (code : RunCode) (rest : List Bool)
    (takes : Decodes (run_table colour) b code rest) (place : ℕ)
    (entry : CodeEntry RunCode)
    → place < 105 → slice_get (run_table colour) place ≡ Some takes.entry
    → slice_get (run_table colour) place ≡ Some entry
    → entry.meaning ≡ run_meaning place → IsCodeAt colour b code rest
entry_at colour b code rest takes place entry within at found meaning =
    let both : Some entry ≡ Some takes.entry = sym found ∙ at in
    let same : entry ≡ takes.entry = cc in
    let means : run_meaning place ≡ code = sym meaning ∙ ap (λ (e : CodeEntry RunCode). e.meaning) same ∙ takes.means in
    let bits : bits_of takes.entry ≡ run_code_bits colour code =
    sym (bits_at-found (run_table colour) place takes.entry at) ∙ bits_at-run_table colour place within
    ∙ ap (run_code_bits colour) means in
    record { place = place; within = within; means = means; bits = takes.spelled ∙ ap (λ c. c ++ rest) bits }

code_taken : (colour : Colour) (b : List Bool) (code : RunCode) (rest : List Bool)
    → Decodes (run_table colour) b code rest
    → IsCodeAt colour b code rest
code_taken colour b code rest takes =
    let table = run_table colour in
    let place = takes.listed.0 in
    let within : place < 105 = omega (arith, takes.listed.1, length-run_table colour) in
    let at = slice_get_read table (length table) place takes.entry refl takes.listed.1 (sym takes.listed.2) in
    entry_at colour b code rest takes place _ within at (run_entry_at colour place within) refl

short_means : (place n : ℕ) → place < 105 → run_meaning place ≡ Terminating n → n < 64
short_means place n within means = grind (arith, common_steps)

-- how many steps of 64 pels a make-up code means
record AreSteps (m : ℕ) : Type 0 where
  steps : ℕ
  some : 0 < steps
  few : steps ≤ 40
  are : m ≡ 64 * steps

make_up_means : (place m : ℕ) → place < 105 → run_meaning place ≡ MakeUp m → AreSteps m
make_up_means place m within means = grind (arith, common_steps)

-- a code means so many pels at most
pub terminating_few : (colour : Colour) (b : List Bool) (n : ℕ) (rest : List Bool)
    → Decodes (run_table colour) b (Terminating n) rest → n < 64
terminating_few colour b n rest takes =
    let code = code_taken colour b (Terminating n) rest takes in short_means code.place n code.within code.means

pub make_up_few : (colour : Colour) (b : List Bool) (m : ℕ) (rest : List Bool)
    → Decodes (run_table colour) b (MakeUp m) rest → m ≤ 2560
make_up_few colour b m rest takes =
    let code = code_taken colour b (MakeUp m) rest takes in
    let steps = make_up_means code.place m code.within code.means in
    omega (arith, steps.are, steps.few)

pub short_written : (colour : Colour) (b : List Bool) (n : ℕ) (rest : List Bool)
    → Decodes (run_table colour) b (Terminating n) rest
    → b ≡ run_bits colour n ++ rest
short_written colour b n rest takes =
    let code = code_taken colour b (Terminating n) rest takes in
    code.bits ∙ ap (λ c. c ++ rest) (short_bits colour n (short_means code.place n code.within code.means))

-- the codes of a run with a make-up code
long_codes : (steps n : ℕ) → 0 < steps → steps ≤ 40 → n < 64
    → run_codes (64 * steps + n) ≡ MakeUp (64 * steps) ∷ Terminating n ∷ []
long_codes steps n some few short = grind (arith, common_steps)

pub long_written : (colour : Colour) (b : List Bool) (m n : ℕ) (middle rest : List Bool)
    → Decodes (run_table colour) b (MakeUp m) middle
    → Decodes (run_table colour) middle (Terminating n) rest → b ≡ run_bits colour (m + n) ++ rest
unfolding run_bits
long_written colour b m n middle rest first last =
    let up = code_taken colour b (MakeUp m) middle first in
    let low = code_taken colour middle (Terminating n) rest last in
    let steps = make_up_means up.place m up.within up.means in
    let f = run_code_bits colour in
    let codes : run_codes (m + n) ≡ MakeUp m ∷ Terminating n ∷ [] =
    rw steps.are (long_codes steps.steps n steps.some steps.few (short_means low.place n low.within low.means)) in
    up.bits ∙ ap (λ c. f (MakeUp m) ++ c) low.bits ∙ sym (append_assoc (f (MakeUp m)) (f (Terminating n)) rest)
    ∙ ap (λ c. (f (MakeUp m) ++ c) ++ rest) (sym (append-nil (f (Terminating n))))
    ∙ ap (λ cs. flat_map f cs ++ rest) (sym codes)

-- a make-up code of 2560 pels stands before the codes of what is left
pub most_written : (colour : Colour) (b : List Bool) (n : ℕ) (middle rest : List Bool)
    → Decodes (run_table colour) b (MakeUp 2560) middle
    → middle ≡ run_bits colour n ++ rest → b ≡ run_bits colour (2560 + n) ++ rest
unfolding run_bits
most_written colour b n middle rest first written =
    let up = code_taken colour b (MakeUp 2560) middle first in
    let f = run_code_bits colour in
    let often : (2560 + n) / 2560 ≡ suc (n / 2560) = omega arith in
    let more : (2560 + n) % 2560 ≡ n % 2560 = omega arith in
    let last : (2560 + n) % 64 ≡ n % 64 = omega arith in
    let codes : run_codes (2560 + n) ≡ MakeUp 2560 ∷ run_codes n = rw (often, more, last) refl in
    up.bits ∙ ap (λ c. f (MakeUp 2560) ++ c) written ∙ sym (append_assoc (f (MakeUp 2560)) (flat_map f (run_codes n))
    rest)
    ∙ ap (λ cs. flat_map f cs ++ rest) (sym codes)
