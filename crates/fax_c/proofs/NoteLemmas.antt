-- Notes that are written one after another.
use Rattle.std.proofs.lemmas.Grind.{common_steps}
use Rattle.std.proofs.Common.{◌≡◌, ℕ, ◌+◌, ◌<◌, List, ◌++◌, length, get_or, map, set, take, drop, arith}
use Rattle.std.proofs.lemmas.List.{length-map, length-take-le}
use Rattle.fax_walk.specs.declared.checking.Note.{Note}
use Rattle.fax_c.specs.declared.file_report.FaxNote.{FaxNote}
use Rattle.fax_c.specs.Checked.{note_of}
use Rattle.fax_c.proofs.ListLemmas.{one_set}

-- so many notes are written
abbrev pub AreFirstPut : List Note → ℕ → List FaxNote → List FaxNote → Type 0
AreFirstPut found count old now = now ≡ map note_of (take count found) ++ drop count old

pub one_more : (found : List Note) (count : ℕ) (default : Note) (made : FaxNote) (old now : List FaxNote)
    → AreFirstPut found count old now
    → made ≡ note_of (get_or found count default) → count < length found → count < length old
    → AreFirstPut found (count + 1) old (set now count made)
one_more found count default made old now so_far is within room =
    grind (arith, common_steps, length-map, length-take-le, one_set)
