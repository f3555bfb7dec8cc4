-- The step that T.4 chooses, by its places and its mode.
use Rattle.std.specs.Prelude.{ℕ, ◌-◌, pos, ◌-ℤ◌, nat_abs, Bool, nat_lt, nat_le, if◌then◌else◌}
use Rattle.std.specs.Prelude.{List, [], ◌++◌, Option, Some, None, unwrap_or}
use Rattle.fax_bits.specs.declared.mode_codes.ModeCode.TheVariants.{Pass, Horizontal, Vertical}
use Rattle.fax_bits.specs.Written.{run_bits}
use Rattle.fax_rows.specs.Rows.{Colour, White, ModeCode, other, pel, next_change, b1, b2}

-- a0's colour: white just before the first pel (T.4, section 4.2.1.3.4)
abbrev pub colour_of : List Colour → Option ℕ → Colour
colour_of row None = White
colour_of row (Some a) = pel row a

-- the places a1 and a2 of the row that is written, and b1 and b2 of its reference
-- (T.4, section 4.2.1.3.1)
pub record Places : Type 0 where
  pub a1 : ℕ
  pub a2 : ℕ
  pub b1 : ℕ
  pub b2 : ℕ

abbrev pub changes : List Colour → List Colour → Option ℕ → Places
changes reference row a0 = record {
  a1 = next_change row a0;
  a2 = next_change row (Some (next_change row a0));
  b1 = b1 reference a0 (colour_of row a0);
  b2 = b2 reference a0 (colour_of row a0);
}

-- the mode that is written (T.4, section 4.2.1.3.2): pass where b2 is left of a1, else vertical
-- where a1 and b1 differ by at most 3, else horizontal
abbrev pub canonical_mode : Places → ModeCode
canonical_mode at =
    if nat_lt at.b2 at.a1 then Pass
    else (if nat_le (nat_abs (pos at.a1 -ℤ pos at.b1)) 3 then Vertical (pos at.a1 -ℤ pos at.b1)
    else Horizontal)

-- the two runs of horizontal mode, a0a1 and a1a2; other modes have none (T.4, section 4.2.1.3.2)
abbrev pub run_pair_bits : ModeCode → List Colour → Option ℕ → Places → List Bool
run_pair_bits Horizontal row a0 at =
    run_bits (colour_of row a0) (at.a1 - unwrap_or a0 0) ++ run_bits (other (colour_of row a0))
    (at.a2 - at.a1)
run_pair_bits _ row a0 at = []

-- where a0 is put after the mode (T.4, section 4.2.1.3.2)
abbrev pub next_a0 : ModeCode → Places → ℕ
next_a0 Pass at = at.b2
next_a0 (Vertical d) at = at.a1
next_a0 _ at = at.a2
