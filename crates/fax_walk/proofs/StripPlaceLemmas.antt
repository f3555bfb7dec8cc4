-- Rows of a page in their strips, and as they are returned.
use Rattle.std.proofs.Common.{◌≡◌, ℕ, zero, suc, ◌+◌, ◌*◌, ◌/◌, ◌%◌, ◌<◌, Bool, List, [], ◌∷◌, length, Option, Some}
use Rattle.std.proofs.Common.{None, arith, subst}
use Rattle.std.proofs.lemmas.Nat.{div-mul-add, mod-mul-add}
use Rattle.std.proofs.lemmas.List.{length-map}
use Rattle.fax_bits.specs.declared.Colour.{Colour}
use Rattle.fax_page.specs.declared.StripForm.{StripForm}
use Rattle.fax_page.specs.declared.StripFault.{StripFault}
use Rattle.fax_bits.specs.Reading.{Read, read, failed}
use Rattle.fax_page.specs.Lines.{read_line, white_row}
use Rattle.fax_page.specs.Strip.{StripRead, read_lines}
use Rattle.fax_page.specs.laws.Lines.{IsStrip}
use Rattle.fax_files.specs.declared.PageForm.{PageForm}
use Rattle.fax_files.specs.laws.TiffFiles.{shown}
use Rattle.fax_walk.specs.Items.{exchanged}

-- row e of a page, row k of strip s
pub in_strip : (m s k e : ℕ) → k < m → e ≡ s * m + k → (e / m ≡ s) × (e % m ≡ k)
in_strip m s k e less is = (rw is (div-mul-add s m k less), rw is (mod-mul-add s m k less))

pub shown_row : (form : PageForm) (row : List Colour) (rows : List (List Colour))
    → shown form (row ∷ rows) ≡ exchanged form row ∷ shown form rows
shown_row form row rows = grind arith

pub shown_length : (form : PageForm) (rows : List (List Colour)) → length (shown form rows) ≡ length rows
shown_length form rows = grind (arith, length-map)

-- all of so many are there, or where there is a fault fewer
abbrev pub IsCount : Option StripFault → ℕ → ℕ → Type 0
IsCount None n all = n ≡ all
IsCount (Some fault) n all = n < all

-- the row that is read, or the fault in its way, and those after it
abbrev pub with_line : ℕ → StripForm → ℕ → List Bool → Read (List Colour) StripFault → StripRead
with_line n form i b r =
    elim r [
      | failed fault ↦ record { rows = []; end = Some fault; remaining = b }
      | read row rest ↦ let more = read_lines n form (i + 1) row rest in
          record { rows = row ∷ more.rows; end = more.end; remaining = more.remaining }
    ]

counted : (n : ℕ) (form : StripForm) (i : ℕ) (reference : List Colour) (b : List Bool) → i + n ≡ form.rows
    → let strip = read_lines n form i reference b in IsCount strip.end (i + length strip.rows) form.rows
counted zero form i reference b count = omega (arith, count)
counted (suc n) form i reference b count =
    by (λ row rest. counted n form (i + 1) row rest (omega (arith, count))) (read_line form i reference b)
  where
    onward : (end : Option StripFault) (k m : ℕ) → k ≡ m → IsCount end k form.rows → IsCount end m form.rows
    onward end k m same is = rw (← same) is

    by : ((row : List Colour) (rest : List Bool) → let strip = read_lines n form (i + 1) row rest in
        IsCount strip.end (i + 1 + length strip.rows) form.rows)
        → (r : Read (List Colour) StripFault)
        → let strip = with_line n form i b r in IsCount strip.end (i + length strip.rows) form.rows
    by more (failed fault) = omega (arith, count)
    by more (read row rest) =
        let strip = read_lines n form (i + 1) row rest in
        onward strip.end (i + 1 + length strip.rows) (i + suc (length strip.rows)) (omega arith) (more row rest)

-- how many rows a strip has
pub strip_count : (form : StripForm) (b : List Bool) (rows : List (List Colour)) (end : Option StripFault)
    → IsStrip form b rows end
    → IsCount end (length rows) form.rows
strip_count form b rows end strip =
    let all = read_lines form.rows form 0 (white_row form.width) b in
    let count : 0 + length all.rows ≡ length all.rows = omega arith in
    rw (← strip.0, ← strip.1) (subst (λ n. IsCount all.end n form.rows) count
    (counted form.rows form 0 (white_row form.width) b (omega arith)))
