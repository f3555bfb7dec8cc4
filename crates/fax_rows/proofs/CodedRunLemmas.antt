-- Runs that are read one after another, with their colours and their sum.
use Rattle.std.proofs.Common.{ℕ, List, [], ◌∷◌}
use Rattle.fax_bits.specs.declared.Colour.{Colour}
use Rattle.fax_rows.specs.Rows.{other}

-- the colour of the run after these runs
abbrev pub colour_after_runs : Colour → List ℕ → Colour
colour_after_runs colour [] = colour
colour_after_runs colour (n ∷ runs) = colour_after_runs (other colour) runs
