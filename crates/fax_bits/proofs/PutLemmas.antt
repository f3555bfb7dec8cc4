-- Codes that are put one after another.
use Rattle.std.proofs.lemmas.Grind.{common_steps}
use Rattle.std.proofs.Common.{◌≡◌, ℕ, ◌+◌, ◌-◌, ◌*◌, ◌/◌, ◌%◌, ◌<◌, ◌≤◌, List, ◌++◌, replicate, ap, sym, ◌∙◌, arith}
use Rattle.std.proofs.Common.{append_assoc}
use Rattle.std.specs.Prelude.{flat_map, Result, OnErr}
use Rattle.std.proofs.lemmas.List.{replicate-append-replicate}
use Rattle.fax_bits.specs.declared.Colour.{Colour}
use Rattle.fax_bits.specs.declared.run_codes.RunCode.{RunCode}
use Rattle.fax_bits.specs.declared.run_codes.RunCode.TheVariants.{Terminating, MakeUp}
use Rattle.fax_bits.specs.Written.{run_codes, run_code_bits, run_bits}
use Rattle.fax_bits.specs.views.Sink.{Sink, Appends, AppendsCodes}

-- these codes were put
abbrev pub Put : Colour → Sink → List RunCode → Sink → Type 0
Put colour old codes new = Appends old (flat_map (run_code_bits colour) codes) new

-- codes that were put are the first of a run's codes
pub put-prefix : (colour : Colour) (n : ℕ) (old new : Sink) (front back : List RunCode) → Put colour old front new
    → run_codes n ≡ front ++ back → AppendsCodes old colour (run_codes n) new
put-prefix colour n old new front back put parts = record {
  done = front;
  missing = back;
  appended = put;
  parts =
      parts;
}

-- a run's codes are as many make-up codes of 2560 as fit, and those of the rest
codes_of_rest : (n : ℕ) → run_codes n ≡ replicate (n / 2560) (MakeUp 2560) ++ run_codes (n % 2560)
codes_of_rest n = grind (arith, common_steps)

-- where so many make-up codes of 2560 were put, and then a growth was refused
pub first_codes : (n i : ℕ) → i ≤ n / 2560 → run_codes n
    ≡ replicate i (MakeUp 2560) ++ (replicate (n / 2560 - i) (MakeUp 2560) ++ run_codes (n % 2560))
first_codes n i within =
    let e : i + (n / 2560 - i) ≡ n / 2560 = omega arith in
    codes_of_rest n
    ∙ ap (λ codes. codes ++ run_codes (n % 2560))
    (ap (λ q. replicate q (MakeUp 2560)) (sym e) ∙ sym (replicate-append-replicate i (n / 2560 - i) (MakeUp 2560)))
    ∙ append_assoc (replicate i (MakeUp 2560)) (replicate (n / 2560 - i) (MakeUp 2560)) (run_codes (n % 2560))

-- and the codes of the rest: the whole run
pub put-rest : (colour : Colour) (n : ℕ) (old mid new : Sink) → Put colour old (replicate (n / 2560) (MakeUp 2560)) mid
    → Appends mid (run_bits colour (n % 2560)) new → Appends old (run_bits colour n) new
unfolding run_bits
put-rest colour n old mid new one two = grind (arith, common_steps)

pub short_bits : (colour : Colour) (n : ℕ) → n < 64 → run_code_bits colour (Terminating n) ≡ run_bits colour n
unfolding run_bits
short_bits colour n short = grind (arith, common_steps)

pub long_bits : (colour : Colour) (n : ℕ) → 64 ≤ n → n < 2560
    → run_code_bits colour (MakeUp (64 * (n / 64))) ++ run_code_bits colour (Terminating (n % 64)) ≡ run_bits colour n
unfolding run_bits
long_bits colour n long short = grind (arith, common_steps)

pub on_err-of : {T E P : Type 0} (result : Result T E) → P → OnErr result P
on_err-of result p = grind arith
