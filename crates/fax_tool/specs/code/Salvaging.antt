-- Steps of writing what is left of a file, line by line or as a file.
use Rattle.std.specs.Prelude.{◌≡◌, ℕ, ◌+◌, ◌≤◌, List, ◌++◌, flat_map, length, take, Some, Result}
use Rattle.std.specs.Prelude.{Ok, Err, [], slice_get, true, false, unwrap_or, Bool}
use Rattle.fax_bits.specs.declared.Memory.{Memory as NoMemory}
use Rattle.fax_tool.specs.Text.{Printed}
use Rattle.fax_tool.specs.code.Outcome.{error_of, status_of}
use Rattle.fax_tool.specs.declared.commands.salvage_file.SalvagedOutput.{SalvagedOutput}

-- the texts of lines, one after another
abbrev pub texts_of : List (List ℕ) → List ℕ
texts_of = flat_map (λ line. line)

-- these are the lines, and no others are
pub record IsOneList (are : List (List ℕ) → Type 0) : Type 0 where
  pub lines : List (List ℕ)
  pub is : are lines
  pub one : (others : List (List ℕ)) → are others → others ≡ lines

-- line number `yielded` is collected, or the lines have ended after so many; where memory was
-- refused
-- the text is as it was
abbrev pub IsLinePut : (List (List ℕ) → Type 0) → ℕ → List ℕ → Result Bool NoMemory → ℕ → List ℕ
    → Type 0
IsLinePut are given text (Ok true) new_given new_text =
    (lines : List (List ℕ)) × (line : List ℕ) × are lines × (slice_get lines given ≡ Some line)
    × (new_given ≡ given + 1) × (new_text ≡ text ++ line)
IsLinePut are given text (Ok false) new_given new_text =
    (lines : List (List ℕ)) × are lines × (given ≡ length lines) × (new_text ≡ text)
IsLinePut are given text (Err memory) new_given new_text = new_text ≡ text

-- the first of such lines
abbrev pub IsFrontOf : (List (List ℕ) → Type 0) → List ℕ → Type 0
IsFrontOf are text =
    (lines : List (List ℕ)) × are lines × (count : ℕ) × (count ≤ length lines)
    × (text ≡ texts_of (take count lines))

-- what is said of a damaged file of which this is to be written
abbrev pub said_of : SalvagedOutput → Printed
said_of salvaged = record {
  output = unwrap_or salvaged.output [];
  error = error_of salvaged.line;
  status = status_of salvaged.line;
}
