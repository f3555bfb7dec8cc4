-- Rows of pels, from left to right, and how bits code them in one and in two dimensions
-- (T.4, sections 4.1.1 and 4.2.1.3.1 to 4.2.1.3.4; T.6, sections 2.2.2 to 2.2.5). The sections
-- below are those of T.4. 'Ours' is this project's profile.
use Rattle.std.specs.Prelude.{ℕ, zero, suc, ◌+◌, ◌-◌, nat_lt, ℤ, pos, negsuc}
use Rattle.std.specs.Prelude.{Bool, true, false, not, ◌&&◌, if◌then◌else◌, List}
use Rattle.std.specs.Prelude.{[], ◌∷◌, ◌++◌, length, replicate, slice_index_or, Option}
use Rattle.std.specs.Prelude.{Some, None, unwrap_or}
pub use Rattle.fax_bits.specs.declared.Colour.{Colour}
pub use Rattle.fax_bits.specs.declared.Colour.TheVariants.{White, Black}
pub use Rattle.fax_bits.specs.declared.mode_codes.ModeCode.{ModeCode}

-- the opposite colour
abbrev pub other : Colour → Colour
other White = Black
other Black = White

-- the two colours are one
abbrev pub same_colour : Colour → Colour → Bool
same_colour White White = true
same_colour Black Black = true
same_colour _ _ = false

-- the pel at place i, from the left
abbrev pub pel : List Colour → ℕ → Colour
pel row i = slice_index_or row i White

-- the pel before place i; before the first stands an imaginary white pel (section 4.2.1.3.4)
abbrev pub pel_before : List Colour → ℕ → Colour
pel_before row zero = White
pel_before row (suc i) = pel row i

-- pel i is a changing element: of another colour than the pel before it (section 4.2.1.3.1)
abbrev pub is_changing : List Colour → ℕ → Bool
is_changing row i = not (same_colour (pel row i) (pel_before row i))

-- place i is right of a place, where None is just before the first pel (section 4.2.1.3.4)
abbrev pub is_right_of : Option ℕ → ℕ → Bool
is_right_of None i = true
is_right_of (Some a) i = nat_lt a i

-- the least of the n places from i on that passes the test, or the place after them all
unfoldable pub first_index : (ℕ → Bool) → ℕ → ℕ → ℕ
first_index test i zero = i
first_index test i (suc n) = if test i then i else first_index test (i + 1) n

-- the next changing element of a row right of a place, or the width (section 4.2.1.3.1)
unfoldable pub next_change : List Colour → Option ℕ → ℕ
next_change row from = first_index (λ i. is_right_of from i && is_changing row i) 0 (length row)

-- The changing elements of a step, here a0 to a2 of the coding row and b1 and b2 of its reference
-- (section 4.2.1.3.1). A '#' is a black pel. a1 is two pels left of b1: vertical mode, VL(2).
--
--               b1    b2
--     ....######......####....  reference row
--     ...#####.....####.......  coding row
--        a0   a1   a2
--
-- b1: the first changing element of the reference row right of a0 and of the colour opposite to
-- a0's, or the width; and b2: the next one right of b1 (section 4.2.1.3.1)
unfoldable pub b1 : List Colour → Option ℕ → Colour → ℕ
b1 reference a0 colour =
    first_index (λ i. is_right_of a0 i
    && (is_changing reference i && not (same_colour (pel reference i) colour))) 0 (length reference)

abbrev pub b2 : List Colour → Option ℕ → Colour → ℕ
b2 reference a0 colour = next_change reference (Some (b1 reference a0 colour))

-- the pels of runs of alternating colours (section 4.1.1)
abbrev pub pels_of_runs : Colour → List ℕ → List Colour
pels_of_runs colour [] = []
pels_of_runs colour (n ∷ runs) = replicate n colour ++ pels_of_runs (other colour) runs

-- the longest runs of the pels, where n pels of this colour stand before them (section 4.1.1)
unfoldable pub runs_after : Colour → ℕ → List Colour → List ℕ
runs_after colour n [] = n ∷ []
runs_after colour n (first ∷ pels) =
    if same_colour first colour then runs_after colour (n + 1) pels
    else (n ∷ runs_after (other colour) 1 pels)

-- the longest runs of a row, white first: 0 where it begins black (section 4.1.1)
abbrev pub runs_of : List Colour → List ℕ
runs_of row = runs_after White 0 row

-- how far a row is read: the place a0, where None is just before the first pel, a0's colour, and
-- the pels before a0 (section 4.2.1.3.1)
pub record Position : Type 0 where
  pub a0 : Option ℕ
  pub colour : Colour
  pub pels : List Colour

-- where a row begins: on an imaginary white pel just before the first one (section 4.2.1.3.4)
abbrev pub beginning : Position
beginning = record { a0 = None; colour = White; pels = [] }

-- the first pel that a step from here may colour
abbrev pub first_pel : Position → ℕ
first_pel at = unwrap_or at.a0 0

-- a0 as a number: -1 just before the first pel
abbrev pub a0_number : Position → ℤ
a0_number at = elim at.a0 [ None ↦ negsuc 0 | Some a ↦ pos a ]

-- the position at the pel `to`, with pels of a0's colour up to it
abbrev pub coloured_up_to : Position → ℕ → Position
coloured_up_to at to =
    let pels = at.pels ++ replicate (to - first_pel at) at.colour in
    record { a0 = Some to; colour = at.colour; pels = pels }
