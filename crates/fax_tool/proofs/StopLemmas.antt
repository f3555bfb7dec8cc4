-- What is left of a text where printing of it was refused.
use Rattle.std.proofs.Common.{arith, ◌≡◌, ℕ, List, [], ◌++◌, ◌⊎◌, inl, inr, refl, append_assoc}
use Rattle.std.specs.Prelude.{Option, Some, None, IfSome}
use Rattle.std.specs.Io.KnownBytes.{Appends}
use Rattle.std.proofs.KnownBytes.{Appends-trans}
use Rattle.fax_tool.specs.declared.refusal.Refusal.{Refusal}
use Rattle.fax_tool.specs.declared.refusal.Refusal.TheVariants.{Memory, Read, Write}
use Rattle.fax_tool.specs.Run.{Counts, Output, LeavesText}
use Rattle.fax_tool.specs.Streams.{output_after}
use Rattle.fax_tool.specs.Text.{Printed}
use Rattle.fax_tool.specs.code.Outcome.{StopsPrinting}
use Rattle.fax_tool.specs.code.Transfers.{IsGivenInPart}

-- some file, which is these bytes where they are known
pub of_some_file : (P : List ℕ → Type 0) (bytes : Option (List ℕ)) → ((file : List ℕ) → P file)
    → (file : List ℕ) × IfSome bytes (λ b. file ≡ b) × P file
of_some_file P None all = ([], tt, all [])
of_some_file P (Some file) all = (file, refl, all file)

-- no text at all
abbrev pub NoText : Printed → Type 0
NoText printed = ⊥

-- what is left of some texts is left of others too
pub leaves_more : (is other : Printed → Type 0) (first more : List ℕ → Type 0) (refusal : Refusal) (output : Output)
    → ((printed : Printed) → is printed → other printed) → ((text : List ℕ) → first text → more text)
    → LeavesText is first refusal output → LeavesText other more refusal output
leaves_more is other first more refusal output f g h = grind arith

pub stops_more : (is other : Printed → Type 0) (first more : List ℕ → Type 0) (refusal : Refusal) (output : Output)
    → ((printed : Printed) → is printed → other printed) → ((text : List ℕ) → first text → more text)
    → StopsPrinting is first refusal output → StopsPrinting other more refusal output
stops_more is other first more refusal output f g stops = grind arith

-- printing was refused after this was sent
pub stops_after : (is other : Printed → Type 0) (first more : List ℕ → Type 0) (refusal : Refusal)
    (old mid new : Option (List ℕ)) (counts : Counts) (sent : List ℕ) → Appends old mid sent
    → ((printed : Printed) → is printed → (p : Printed) × other p × (p.output ≡ sent ++ printed.output))
    → ((text : List ℕ) → first text → more (sent ++ text))
    → StopsPrinting is first refusal (output_after mid new counts)
    → StopsPrinting other more refusal (output_after old new counts)
stops_after is other first more Memory old mid new counts sent before f g stops =
    let (text, remaining, moved) = stops.leaves in
    let all = Appends-trans old mid new sent text before moved in
    record { reason = stops.reason; leaves = (sent ++ text, g text remaining, all) }
stops_after is other first more Read old mid new counts sent before f g stops = absurd stops.reason
stops_after is other first more Write old mid new counts sent before f g stops = record {
  reason = stops.reason;
  leaves = (
    sent ++ stops.leaves.0,
    (stops.leaves.1.0, by_case stops.leaves.0 stops.leaves.1.0 stops.leaves.1.1),
    Appends-trans old mid new sent stops.leaves.0 before stops.leaves.2,
  );
}
  where
    by_case : (text rest : List ℕ) → ((printed : Printed) × is printed × (text ++ rest ≡ printed.output))
        ⊎ first (text ++ rest)
        → ((printed : Printed) × other printed × ((sent ++ text) ++ rest ≡ printed.output))
        ⊎ more ((sent ++ text) ++ rest)
    by_case text rest (inl (printed, holds, same)) =
        let (other_printed, is, output) = f printed holds in
        inl (other_printed, is, rw (append_assoc, same, output))
    by_case text rest (inr remaining) = inr (rw append_assoc (g (text ++ rest) remaining))

-- a text was given in part
pub stops_in_part : (is : Printed → Type 0) (first : List ℕ → Type 0) (old new : Option (List ℕ)) (bytes : List ℕ)
    (counts : Counts) (refusal : Refusal) → ((printed : Printed) × is printed × (bytes ≡ printed.output)) ⊎ first bytes
    → IsGivenInPart old new bytes counts refusal → StopsPrinting is first refusal (output_after old new counts)
stops_in_part is first old new bytes counts refusal h given = grind arith

-- the first part of a text was given in part
pub stops_in_front : (first : List ℕ → Type 0) (old new : Option (List ℕ)) (bytes more : List ℕ) (counts : Counts)
    (refusal : Refusal) → first (bytes ++ more) → IsGivenInPart old new bytes counts refusal
    → StopsPrinting NoText first refusal (output_after old new counts)
stops_in_front first old new bytes more counts refusal holds given = grind (arith, append_assoc)

-- such a text was given in part
pub stops_at : (is : Printed → Type 0) (first : List ℕ → Type 0) (old new : Option (List ℕ)) (bytes : List ℕ)
    (counts : Counts) (refusal : Refusal) → is (record { output = bytes; error = []; status = 0 })
    → IsGivenInPart old new bytes counts refusal → StopsPrinting is first refusal (output_after old new counts)
stops_at is first old new bytes counts refusal holds given = grind arith
