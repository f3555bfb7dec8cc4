use Rattle.std.proofs.Common.{arith, inl, inr, refl}
use Rattle.fax_c.proofs.salvage_conversion.faxpages_salvage_convert.Goals as goal

pub returns-in-Ok-Some : goal.returns-in-Ok-Some
returns-in-Ok-Some c =
    let written = rw c.in-Ok-Some.field-0-is at c.in-Ok-Some.ensures.ok in
    inr (c.in-Some.options, c.in-Some.ensures, inl (c.in-Ok-Some.output, written, c.put_output.ensures))

pub returns-in-Ok-None : goal.returns-in-Ok-None
returns-in-Ok-None c =
    let none = rw c.in-Ok-None.field-0-is at c.in-Ok-None.ensures.ok in
    inr (c.in-Some.options, c.in-Some.ensures, inr (inl (refl, none, c.none.ensures, refl)))

pub returns-in-Err-OutputTooLarge : goal.returns-in-Err-OutputTooLarge
returns-in-Err-OutputTooLarge c =
    let why = rw c.in-Err-OutputTooLarge.field-0-is at c.in-Err-OutputTooLarge.ensures.err in
    inr (c.in-Some.options, c.in-Some.ensures, inr (inr (inl (refl, why (grind arith), c.refused.ensures, refl))))

pub returns-in-Err-Memory : goal.returns-in-Err-Memory
returns-in-Err-Memory c =
    inr (c.in-Some.options, c.in-Some.ensures, inr (inr (inr (refl, c.none.ensures, refl))))
