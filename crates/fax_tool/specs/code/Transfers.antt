-- Transfers over several calls.
use Rattle.std.specs.Prelude.{◌≡◌, List, ℕ, ◌++◌, Option}
use Rattle.std.specs.Io.KnownBytes.{Appends}
use Rattle.fax_tool.specs.declared.refusal.Refusal.{Refusal}
use Rattle.fax_tool.specs.declared.refusal.Refusal.TheVariants.{Write}
use Rattle.fax_tool.specs.Run.{HasFailed, Counts}

-- so many calls were interrupted, and none failed
abbrev pub counted : ℕ → Counts
counted interruptions = record { interrupted = interruptions; failed = 0; unopened = 0 }

-- a front of these bytes is written
pub record WritesFront (old new : Option (List ℕ)) (bytes : List ℕ) : Type 0 where
  pub front : List ℕ
  pub rest : List ℕ
  pub parts : bytes ≡ front ++ rest
  pub written : Appends old new front

-- a write was refused: the stream failed, and a front of these bytes is written
pub record IsGivenInPart (old new : Option (List ℕ)) (bytes : List ℕ) (counts : Counts)
    (refusal : Refusal) : Type 0 where
  pub write : refusal ≡ Write
  pub failed : HasFailed counts
  pub front : WritesFront old new bytes

-- the front of a text is written, and this is left of it
pub record SendsPart (old new : Option (List ℕ)) (text remaining : List ℕ) : Type 0 where
  pub part : List ℕ
  pub parts : text ≡ part ++ remaining
  pub written : Appends old new part
