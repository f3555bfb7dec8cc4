-- What it is that bits begin with a code of a table, with a run, or with none (T.4, section 4.1.1).
use Rattle.std.specs.Prelude.{◌≡◌, ℕ, ◌+◌, Bool, true, false, List, [], ◌∷◌, ◌++◌, map, sum}
use Rattle.std.specs.Prelude.{Contains}
use Rattle.std.specs.Prelude.{Option, Some, None, if◌then◌else◌}
use Rattle.std.specs.List.{list_any}
use Rattle.fax_bits.specs.Bits.{Colour, StartsWith, code_bits}
use Rattle.fax_bits.specs.Reading.{Read, read, failed}
use Rattle.fax_bits.specs.Tables.{CodeEntry, run_table}
use Rattle.fax_bits.specs.declared.codes.CodeFault.{CodeFault}
use Rattle.fax_bits.specs.declared.codes.CodeFault.TheVariants.{DataEnds, BadCode}
use Rattle.fax_bits.specs.declared.run_codes.RunCode.TheVariants.{MakeUp, Terminating}

-- the bits of an entry's code
abbrev pub bits_of : {M : Type 0} → CodeEntry M → List Bool
bits_of entry = code_bits entry.len entry.code

-- what is left of the bits after a front, if they begin with it
abbrev pub after_front : List Bool → List Bool → Option (List Bool)
after_front [] b = Some b
after_front (true ∷ front) (true ∷ b) = after_front front b
after_front (false ∷ front) (false ∷ b) = after_front front b
after_front (_ ∷ front) _ = None

-- the bits are a front of the code, and not all of it
abbrev pub is_cut_code : List Bool → List Bool → Bool
is_cut_code [] b = false
is_cut_code (bit ∷ code) [] = true
is_cut_code (true ∷ code) (true ∷ b) = is_cut_code code b
is_cut_code (false ∷ code) (false ∷ b) = is_cut_code code b
is_cut_code (_ ∷ code) (_ ∷ b) = false

-- the first code of the table that begins the bits, and the bits after it
abbrev pub first_code : {M : Type 0} → List (CodeEntry M) → List Bool → Option (M × List Bool)
first_code [] b = None
first_code (entry ∷ table) b =
    elim (after_front (bits_of entry) b) [
      | Some rest ↦ Some (entry.meaning, rest)
      | None ↦ first_code table b
    ]

-- why no code of the table begins the bits (this project's profile)
abbrev pub code_fault : {M : Type 0} → List (CodeEntry M) → List Bool → CodeFault
code_fault table b =
    if list_any (λ entry. is_cut_code (bits_of entry) b) table then DataEnds else BadCode

-- what there is, or else the fault
abbrev pub read_or : {A F : Type 0} → F → Option (A × List Bool) → Read A F
read_or fault (Some (x, rest)) = read x rest
read_or fault None = failed fault

-- a code, or the fault that there is none
abbrev pub read_code : {M : Type 0} → List (CodeEntry M) → List Bool → Read M CodeFault
read_code table b = read_or (code_fault table b) (first_code table b)

-- the bits begin with the code of some entry that has this meaning, and the rest follows it
pub record Decodes {M : Type 0} (table : List (CodeEntry M)) (b : List Bool) (meaning : M)
    (rest : List Bool) : Type 0 where
  pub entry : CodeEntry M
  pub listed : Contains table entry
  pub means : entry.meaning ≡ meaning
  pub spelled : b ≡ bits_of entry ++ rest

-- no code of the table begins the bits
abbrev pub HasNoCode : {M : Type 0} → List (CodeEntry M) → List Bool → Type 0
HasNoCode {M} table b =
    (entry : CodeEntry M) → Contains table entry → StartsWith b (bits_of entry) → ⊥

-- the bits are the codes of these meanings, one after another, and the rest follows them
abbrev pub DecodesAll : {M : Type 0} → List (CodeEntry M) → List Bool → List M → List Bool → Type 0
DecodesAll table b [] rest = b ≡ rest
DecodesAll table b (meaning ∷ meanings) rest =
    (middle : List Bool) × Decodes table b meaning middle × DecodesAll table middle meanings rest

-- the bits begin with a run of n pels: make-up codes and then one terminating code (that there may
-- be any number of make-up codes, in any order, is this project's profile)
pub record IsRun (colour : Colour) (b : List Bool) (n : ℕ) (rest : List Bool) : Type 0 where
  pub make_up : List ℕ
  pub last : ℕ
  pub spelled : DecodesAll (run_table colour) b (map MakeUp make_up ++ Terminating last ∷ []) rest
  pub length : n ≡ sum make_up + last
