-- Bytes of a source that are held.
use Rattle.std.specs.Prelude.{◌≡◌, ℕ, ◌+◌, ◌<◌, ◌≤◌, Bool, true, false, List, ◌++◌, length, Option}
use Rattle.std.specs.Io.KnownBytes.{Consumes, IsAtEnd}
use Rattle.fax_files.specs.Directory.{max_file}

-- bytes that are held, and how many were taken in all
pub record HeldBytes : Type 0 where
  pub bytes : List ℕ
  pub taken : ℕ

-- so many bytes are held in this room, of those that were taken
pub record IsHeld (room : List ℕ) (len taken : ℕ) : Type 0 where
  pub some : 0 < length room
  pub within : len ≤ length room
  pub few : len ≤ taken
  pub limit : taken ≤ max_file

-- more bytes of a source are held, and whether it has ended
pub record HoldsMore (remaining now : Option (List ℕ)) (old new : HeldBytes)
    (ended : Bool) : Type 0 where
  pub text : List ℕ
  pub bytes_are : new.bytes ≡ old.bytes ++ text
  pub taken_is : new.taken ≡ old.taken + length text
  pub moved : Consumes remaining now text
  pub end : ended ≡ true → IsAtEnd now
  pub some : ended ≡ false → 0 < length text
