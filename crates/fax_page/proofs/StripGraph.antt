-- The rows of a strip that a function reads, line by line.
use Rattle.std.proofs.Common.{arith, ◌≡◌, ℕ, zero, suc, ◌+◌, ◌<◌, List, [], ◌∷◌, Bool, refl, ap, subst, Option, Some}
use Rattle.std.proofs.Common.{None}
use Rattle.fax_bits.specs.Reading.{Read, read, failed}
use Rattle.fax_bits.specs.declared.Colour.{Colour}
use Rattle.fax_page.specs.declared.StripFault.{StripFault}
use Rattle.fax_page.specs.declared.StripForm.{StripForm}
use Rattle.fax_page.specs.Lines.{read_line, white_row}
use Rattle.fax_page.specs.laws.Lines.{AreLines, LinesAreReadByAFunction}
use Rattle.fax_page.specs.Strip.{StripRead, read_lines, read_strip}
use Rattle.fax_page.specs.laws.Lines.{IsStrip}

abbrev AreRead : StripForm → ℕ → List Colour → List Bool → StripRead → Type 0
AreRead form i reference b strip = AreLines form i reference b strip.rows strip.end strip.remaining

-- rows are read as they are defined
by_line : (n : ℕ) (form : StripForm) (i : ℕ) (reference : List Colour) (b : List Bool)
    (r : Read (List Colour) StripFault)
    → i < form.rows → read_line form i reference b ≡ r
    → ((row : List Colour) (rest : List Bool) → AreRead form (i + 1) row rest (read_lines n form (i + 1) row rest))
    → AreRead form i reference b (elim r [
      | failed fault ↦ record { rows = []; end = Some fault; remaining = b }
      | read row rest ↦ let more = read_lines n form (i + 1) row rest in
          record { rows = row ∷ more.rows; end = more.end; remaining = more.remaining }
    ])
by_line n form i reference b (read row rest) upcoming line more = (rest, upcoming, line, more row rest)
by_line n form i reference b (failed fault) upcoming cause more = (refl, upcoming, cause)

pub lines_are : (n : ℕ) (form : StripForm) (i : ℕ) (reference : List Colour) (b : List Bool) → i + n ≡ form.rows
    → AreRead form i reference b (read_lines n form i reference b)
lines_are zero form i reference b upcoming = (refl, omega (arith, upcoming))
lines_are (suc n) form i reference b upcoming =
    by_line n form i reference b (read_line form i reference b) (omega (arith, upcoming))
    refl
    (λ row rest. lines_are n form (i + 1) row rest (omega (arith, upcoming)))

-- and what is defined is read
pub lines_of : (n : ℕ) (form : StripForm) (i : ℕ) (reference : List Colour) (b : List Bool)
    (rows : List (List Colour))
    (end : Option StripFault) (remaining : List Bool) → i + n ≡ form.rows
    → AreLines form i reference b rows end remaining
    → read_lines n form i reference b ≡ record { rows = rows; end = end; remaining = remaining }
lines_of zero form i reference b [] None remaining upcoming lines = cc (lines.0)
lines_of zero form i reference b [] (Some fault) remaining upcoming lines = absurd (omega (arith, upcoming, lines.1))
lines_of zero form i reference b (row ∷ rows) end remaining upcoming lines = absurd (omega (arith, upcoming, lines.1))
lines_of (suc n) form i reference b [] None remaining upcoming lines = absurd (omega (arith, upcoming, lines.1))
lines_of (suc n) form i reference b [] (Some fault) remaining upcoming lines =
    rw (lines.2, read_lines) (cc (lines.0))
lines_of (suc n) form i reference b (row ∷ rows) end remaining upcoming lines =
    rw (lines.2, read_lines)
    (let more = lines_of n form (i + 1) row lines.0 rows end remaining (omega (arith, upcoming)) lines.3 in cc (more))

pub lines_graph : LinesAreReadByAFunction
lines_graph n form i reference b rows end remaining count = (
  lines_of n form i reference b rows end remaining count,
  λ at.
      subst (λ strip. AreLines form i reference b strip.rows strip.end strip.remaining) at
      (lines_are n form i reference b count),
)

-- all rows of a strip
module _ (form : StripForm) (b : List Bool) (rows : List (List Colour)) (end : Option StripFault) where
  pub strip_of : (remaining : List Bool) → AreLines form 0 (white_row form.width) b rows end remaining
      → read_strip form b ≡ record { rows = rows; end = end; remaining = remaining }
  strip_of remaining lines =
      lines_of form.rows form 0 (white_row form.width) b rows end remaining (omega arith) lines

  pub is_strip : (remaining : List Bool) → AreLines form 0 (white_row form.width) b rows end remaining
      → IsStrip form b rows end
  is_strip remaining lines =
      let same = strip_of remaining lines in
      (ap (λ (strip : StripRead). strip.rows) same, ap (λ (strip : StripRead). strip.end) same)

  pub lines_in : IsStrip form b rows end
      → AreLines form 0 (white_row form.width) b rows end (read_strip form b).remaining
  lines_in is =
      subst (λ own. AreLines form 0 (white_row form.width) b own end (read_strip form b).remaining) is.0
      (subst (λ stop. AreLines form 0 (white_row form.width) b (read_strip form b).rows stop
      (read_strip form b).remaining) is.1
      (lines_are form.rows form 0 (white_row form.width) b (omega arith)))
