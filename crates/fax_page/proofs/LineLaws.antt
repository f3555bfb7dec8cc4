-- A row of a strip is read in one way, since a function reads it.
use Rattle.std.proofs.Common.{◌≡◌, ◌∙◌, ℕ, List, Bool, length, refl, inl, inr}
use Rattle.std.specs.Prelude.{◌⊎◌}
use Rattle.fax_bits.specs.Reading.{Read, read, failed}
use Rattle.fax_bits.specs.declared.Colour.{Colour}
use Rattle.fax_bits.specs.Tables.{modes}
use Rattle.fax_bits.specs.laws.Codes.{IsReadInOneWay, ReadsOneWay, ReadsRunsOneWay}
use Rattle.fax_rows.specs.laws.Rows.{RowsHaveTheirWidth}
use Rattle.fax_page.specs.declared.Dimension.{Dimension}
use Rattle.fax_page.specs.declared.Dimension.TheVariants.{OneDimensional, TwoDimensional}
use Rattle.fax_page.specs.declared.StripForm.{StripForm}
use Rattle.fax_page.specs.Lines.{read_codes, read_line}
use Rattle.fax_page.specs.laws.Strips.{ReadsLinesOneWay}
use Rattle.fax_page.proofs.FollowingLaws.{line_ends}
use Rattle.fax_page.proofs.LineParts.{parts}
use Rattle.fax_page.proofs.RestLemmas.{rest_among}

-- what a function reads is read in one way
one_way : {A F : Type 0} (f : List Bool → Read A F)
    → IsReadInOneWay (λ b answer rest. f b ≡ read answer rest) (λ b fault. f b ≡ failed fault)
one_way {A} {F} f = record {
  one_answer = λ b answer another rest remaining first second. (cc (first, second), cc (first, second));
  answer_or_fault = λ b. by b (f b) refl;
  answer_has_no_fault = λ b answer rest fault first second. absurd (cc (first, second));
  one_fault = λ b fault another first second. cc (first, second);
}
  where
    by : (b : List Bool) (r : Read A F) → f b ≡ r
        → ((answer : A) × (rest : List Bool) × (f b ≡ read answer rest)) ⊎ ((fault : F) × (f b ≡ failed fault))
    by b (read answer rest) is = inl (answer, rest, is)
    by b (failed fault) is = inr (fault, is)

module _ (widths : RowsHaveTheirWidth)
    (runs_read : (colour : Colour) → ReadsRunsOneWay colour) (modes_read : ReadsOneWay modes) where
  row_wide : (dimension : Dimension) (width : ℕ) (reference : List Colour) (b : List Bool) (row : List Colour)
      (rest : List Bool)
      → length reference ≡ width → read_codes dimension width reference b ≡ read row rest → length row ≡ width
  row_wide OneDimensional width reference b row rest wide is = widths.one_dimensional width b row rest is
  row_wide TwoDimensional width reference b row rest wide is = widths.two_dimensional reference b row rest is ∙ wide

  -- a row of a strip is read in one way
  pub line_reads_one_way : (form : StripForm) (i : ℕ) (reference : List Colour) → ReadsLinesOneWay form i reference
  line_reads_one_way form i reference = record {
    line = one_way (read_line form i reference);
    rest = rest_among form i reference (line_ends runs_read modes_read form i reference);
    width = λ b row rest wide line.
        let line = parts form i reference b row rest line in
        row_wide line.dimension form.width reference line.codes row rest wide line.coded;
  }
