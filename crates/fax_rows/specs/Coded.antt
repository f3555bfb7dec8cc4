-- Rows as they are written: in T.4's own choice of codes (T.4, sections 4.1.1 and 4.2.1.3.3; T.6,
-- section 2.2.4), and as packed bytes, as in a raw PBM (the netpbm format, P4).
use Rattle.std.specs.Prelude.{ℕ, zero, suc, ◌+◌, ◌-◌, ◌/◌, pos, ◌-ℤ◌, nat_abs, Bool, true, false}
use Rattle.std.specs.Prelude.{nat_lt, nat_le, nat_eq, if◌then◌else◌, List, [], ◌∷◌, ◌++◌, length}
use Rattle.std.specs.Prelude.{map, take, Option, Some, None, unwrap_or}
use Rattle.fax_bits.specs.declared.FillOrder.TheVariants.{MsbFirst}
use Rattle.fax_bits.specs.declared.mode_codes.ModeCode.TheVariants.{Pass, Horizontal, Vertical}
use Rattle.fax_bits.specs.Bits.{bits, packed}
use Rattle.fax_bits.specs.Written.{run_bits, mode_bits}
use Rattle.fax_rows.specs.Rows.{Colour, White, Black, other, pel, next_change, b1, b2, runs_of}

-- the bits of runs of alternating colours (T.4, section 4.1.1)
unfoldable pub alternating_bits : Colour → List ℕ → List Bool
alternating_bits colour [] = []
alternating_bits colour (n ∷ runs) = run_bits colour n ++ alternating_bits (other colour) runs

-- a row as it is written in one-dimensional coding (T.4, section 4.1.1)
abbrev pub one_dimensional_bits : List Colour → List Bool
one_dimensional_bits row = alternating_bits White (runs_of row)

-- the step that is written from a0: its bits, and where it puts a0. Pass mode where b2 is left of
-- a1, else vertical mode where a1 and b1 differ by at most 3, else horizontal mode with the runs
-- a0a1 and a1a2; just before the first pel a0 is white (T.4, sections 4.2.1.3.1 to 4.2.1.3.4)
abbrev pub chosen_step : List Colour → List Colour → Option ℕ → List Bool × ℕ
chosen_step reference row a0 =
    let colour : Colour = elim a0 [ None ↦ White | Some a ↦ pel row a ] in
    let a1 = next_change row a0 in
    let a2 = next_change row (Some a1) in
    let d = pos a1 -ℤ pos (b1 reference a0 colour) in
    let pair = run_bits colour (a1 - unwrap_or a0 0) ++ run_bits (other colour) (a2 - a1) in
    if nat_lt (b2 reference a0 colour) a1 then (mode_bits Pass, b2 reference a0 colour)
    else (if nat_le (nat_abs d) 3 then (mode_bits (Vertical d), a1)
    else (mode_bits Horizontal ++ pair, a2))

-- the bits of the steps from a0 on, of which there are at most `limit` (T.4, section 4.2.1.3.3)
unfoldable pub step_bits : ℕ → List Colour → List Colour → Option ℕ → List Bool
step_bits zero reference row a0 = []
step_bits (suc limit) reference row a0 =
    let step = chosen_step reference row a0 in
    if nat_eq (unwrap_or a0 0) (length row) then []
    else (step.0 ++ step_bits limit reference row (Some step.1))

-- a row as it is written in two-dimensional coding over its reference; each step moves a0, so that
-- a row has at most one step more than it has pels (T.4, section 4.2.1.3.3; T.6, section 2.2.4)
abbrev pub two_dimensional_bits : List Colour → List Colour → List Bool
two_dimensional_bits reference row = step_bits (length row + 1) reference row None

-- how many bytes hold the pels of a row, eight in each
abbrev pub packed_len : ℕ → ℕ
packed_len width = (width + 7) / 8

-- the bit of a pel, 1 for black, and the pel of a bit
abbrev pub is_black : Colour → Bool
is_black White = false
is_black Black = true

abbrev pub colour_of_bit : Bool → Colour
colour_of_bit false = White
colour_of_bit true = Black

-- the bytes of a row, with zeros up to a whole byte (the zeros are this project's profile)
unfoldable pub packed_row : List Colour → List ℕ
packed_row row = packed MsbFirst (map is_black row)

-- the row of some bytes, of which the padding after the last pel is ignored
unfoldable pub unpacked_row : ℕ → List ℕ → List Colour
unpacked_row width bytes = take width (map colour_of_bit (bits MsbFirst bytes))
