-- Texts, written in memory of the caller.
-- A definition without a citation is this project's profile.
use Rattle.std.specs.Prelude.{◌≡◌, ◌≢◌, ℕ, ◌<◌, ◌≤◌, ◌⊎◌, List, [], ◌∷◌, ◌++◌, codes, length, drop}
use Rattle.std.specs.Prelude.{slice_get, unwrap_or}
use Rattle.fax_files.specs.declared.Cause.{Cause}
use Rattle.fax_files.specs.FaultNames.{fault_name}
use Rattle.fax_files.specs.declared.pbm.PbmFault.{PbmFault}
use Rattle.fax_files.specs.Pbm.{pbm_fault_name}
use Rattle.fax_walk.specs.declared.checking.NoteKind.{NoteKind}
use Rattle.fax_walk.specs.Report.{number_and_name}
use Rattle.fax_c.specs.FaultNumbers.{fault_number, output_too_large_number, pbm_fault_number}
use Rattle.fax_c.specs.FaultNumbers.{too_many_rows_number, unknown_input_number}

-- a text is written where it has room, and nothing else is changed; how many bytes it has is
-- reported
pub record IsTextPut (text old : List ℕ) (len : ℕ) (new : List ℕ) : Type 0 where
  pub len_is : len ≡ length text
  pub written : length text ≤ length old → new ≡ text ++ drop (length text) old
  pub no_room : length old < length text → new ≡ old

-- faults with this number have this name
abbrev pub IsNameOf : ℕ → List ℕ → Type 0
IsNameOf number name =
    ((cause : Cause) × (fault_number cause ≡ number) × (name ≡ fault_name cause))
    ⊎ ((fault : PbmFault) × (pbm_fault_number fault ≡ number) × (name ≡ pbm_fault_name fault))
    ⊎ ((too_many_rows_number ≡ number) × (name ≡ codes "TooManyRows"))
    ⊎ ((unknown_input_number ≡ number) × (name ≡ codes "UnknownInput"))
    ⊎ ((output_too_large_number ≡ number) × (name ≡ codes "OutputTooLarge"))

-- the name of the faults with this number is written, or no fault has it
abbrev pub NamesFault : ℕ → List ℕ → ℕ → List ℕ → Type 0
NamesFault number old len new =
    ((name : List ℕ) × IsNameOf number name × IsTextPut name old len new)
    ⊎ (((name : List ℕ) → IsNameOf number name → ⊥) × (len ≡ 0) × (new ≡ old))

-- the names of statuses, from 0 on
abbrev pub status_names : List (List ℕ)
status_names =
    codes "Done" ∷ codes "End" ∷ codes "Fault" ∷ codes "Outside" ∷ codes "Memory"
    ∷ codes "NoRoom" ∷ codes "NoPlace" ∷ codes "NoOptions" ∷ codes "TooLarge"
    ∷ codes "DataEnd" ∷ codes "More" ∷ []

-- the name of a status is written, or nothing where none has this number
abbrev pub NamesStatus : ℕ → List ℕ → ℕ → List ℕ → Type 0
NamesStatus number old len new =
    IsTextPut (unwrap_or (slice_get status_names number) []) old len new

-- the name of the notes with this number is written, or no note has it
abbrev pub NamesNote : ℕ → List ℕ → ℕ → List ℕ → Type 0
NamesNote number old len new =
    ((kind : NoteKind) × ((number_and_name kind).0 ≡ number)
    × IsTextPut (number_and_name kind).1 old len new)
    ⊎ (((kind : NoteKind) → (number_and_name kind).0 ≢ number) × (len ≡ 0) × (new ≡ old))

-- the version, and its number
abbrev pub version : List ℕ
version = codes "1.15.0"

abbrev pub version_number : ℕ
version_number = 11500
