-- Bits that are appended one after another.
use Rattle.std.specs.Prelude.{◌≡◌, ℕ, ◌<◌, ◌%◌, Bool, false, List, ◌++◌, length}
use Rattle.std.specs.Prelude.{replicate, flat_map}
use Rattle.fax_bits.specs.declared.FillOrder.{FillOrder}
use Rattle.fax_bits.specs.declared.Colour.{Colour}
use Rattle.fax_bits.specs.declared.run_codes.RunCode.{RunCode}
use Rattle.fax_bits.specs.Written.{run_code_bits}

-- the bits that were put, and the order in which bytes hold them (TIFF 6.0, FillOrder)
pub record Sink : Type 0 where
  pub order : FillOrder
  pub bits : List Bool

-- the bits stand after those that were there
abbrev pub Appends : Sink → List Bool → Sink → Type 0
Appends old more new = new ≡ record { order = old.order; bits = old.bits ++ more }

-- some of the bits, from the first on, stand after those that were there
pub record AppendsPrefix (old : Sink) (more : List Bool) (new : Sink) : Type 0 where
  pub done : List Bool
  pub missing : List Bool
  pub appended : Appends old done new
  pub parts : more ≡ done ++ missing

-- the bits stand after those that were there, but for the last of them, which are left
pub record AppendsAllBut (old : Sink) (more remaining : List Bool) (new : Sink) : Type 0 where
  pub done : List Bool
  pub appended : Appends old done new
  pub parts : more ≡ done ++ remaining

-- some of the codes of a run, from the first on and each of them whole, stand after the bits that
-- were there
pub record AppendsCodes (old : Sink) (colour : Colour) (codes : List RunCode)
    (new : Sink) : Type 0 where
  pub done : List RunCode
  pub missing : List RunCode
  pub appended : Appends old (flat_map (run_code_bits colour) done) new
  pub parts : codes ≡ done ++ missing

-- fewer than eight zeros stand after the bits that were there, up to a whole byte
pub record IsPadded (old new : Sink) : Type 0 where
  pub zeros : ℕ
  pub few : zeros < 8
  pub appended : Appends old (replicate zeros false) new
  pub whole : length new.bits % 8 ≡ 0
