-- A part of an output, as contracts see it.
use Rattle.std.specs.Prelude.{ℕ, List, ◌++◌, replicate}
use Rattle.fax_walk.specs.declared.parts.Part.{Part}

-- the bytes of a part, with its zeros
abbrev pub part_bytes : Part → List ℕ
part_bytes part = part.held.now ++ replicate part.zeros 0
