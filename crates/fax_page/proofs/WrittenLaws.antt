-- A written strip is read back, where its rows are.
use Rattle.fax_page.specs.code.Starts.{IsEndOfLine}
use Rattle.fax_page.proofs.StartLaws.{IsStart}
use Rattle.std.proofs.Common.{ap}
use Rattle.std.proofs.Common.{◌≡◌, ℕ, zero, suc, ◌+◌, List, [], ◌∷◌, ◌++◌, length, Bool, refl, sym, subst, arith}
use Rattle.std.proofs.Common.{append_assoc, None, ◌∙◌}
use Rattle.std.specs.Prelude.{All}
use Rattle.std.proofs.lemmas.List.{length-replicate}
use Rattle.fax_bits.specs.declared.Colour.{Colour}
use Rattle.fax_bits.specs.declared.Colour.TheVariants.{White}
use Rattle.fax_rows.specs.laws.Rows.{OneDimensionalBitsAreRead, TwoDimensionalBitsAreRead}
use Rattle.fax_rows.specs.Coded.{one_dimensional_bits}
use Rattle.fax_page.specs.declared.Dimension.{Dimension}
use Rattle.fax_page.specs.declared.Dimension.TheVariants.{OneDimensional, TwoDimensional}
use Rattle.fax_page.specs.declared.Coding.{Coding}
use Rattle.fax_page.specs.declared.Coding.TheVariants.{Mh, Mr, Mmr}
use Rattle.fax_page.specs.declared.StripForm.{StripForm}
use Rattle.fax_bits.specs.Reading.{read}
use Rattle.fax_rows.specs.ReadRows.{read_one_dimensional}
use Rattle.fax_page.specs.Lines.{tag_bit, IsLine, read_codes, start_by, white_row}
use Rattle.fax_page.specs.views.Strip.{IsStripForm}
use Rattle.fax_page.specs.laws.Lines.{AreLines}
use Rattle.fax_page.specs.Strip.{written_dimension, row_bits, fill_zeros, start_bits, coded_line, coded_lines}
use Rattle.fax_page.specs.Strip.{coded_bits, end_bits}
use Rattle.fax_page.specs.laws.Strips.{AreRowsOf, CodedBitsAreRead}
use Rattle.fax_page.proofs.FillLemmas.{end_of_line_back}
use Rattle.fax_page.proofs.FirstCodeLemmas.{row_begins}
use Rattle.fax_page.proofs.LineParts.{line_of}
use Rattle.fax_page.proofs.StripGraph.{is_strip}

-- a written row begins as it is to
start_back : (coding : Coding) (aligned : Bool) (before k i : ℕ) (reference row : List Colour) (more : List Bool)
    → let dimension = written_dimension coding k i in
    IsStart coding i ((start_bits coding aligned before dimension ++ row_bits dimension reference row) ++ more)
    (read dimension (row_bits dimension reference row ++ more))
start_back Mh aligned before k i reference row more =
    ap (start_by Mh i _) (end_of_line_back (fill_zeros aligned before) [] (one_dimensional_bits row) more)
start_back Mr aligned before k i reference row more =
    let dimension = written_dimension Mr k i in
    tagged ((start_bits Mr aligned before dimension ++ row_bits dimension reference row) ++ more) _ dimension
    (end_of_line_back (fill_zeros aligned before) (tag_bit dimension ∷ [])
    (row_bits dimension reference row) more)
  where
    tagged : (b codes : List Bool) (dimension : Dimension) → IsEndOfLine b (tag_bit dimension ∷ codes)
        → IsStart Mr i b (read dimension codes)
    tagged b codes OneDimensional eol = ap (start_by Mr i b) eol
    tagged b codes TwoDimensional eol = ap (start_by Mr i b) eol
start_back Mmr aligned before k i reference row more = refl

module _ (one_read : OneDimensionalBitsAreRead) (two_read : TwoDimensionalBitsAreRead) (form : StripForm)
    (limits : IsStripForm form)
    (k : ℕ) where
  pub row_back : (dimension : Dimension) (reference row : List Colour) (more : List Bool)
      → length reference ≡ form.width → length row ≡ form.width
      → read_codes dimension form.width reference (row_bits dimension reference row ++ more) ≡ read row more
  row_back OneDimensional reference row more reference_width width =
      ap (λ n. read_one_dimensional n (one_dimensional_bits row ++ more)) (sym width)
      ∙ one_read row more (record {
        some = omega (arith, width, limits.some_pels);
        short = omega (
          arith,
          width,
          limits.short_rows,
        );
      })
  row_back TwoDimensional reference row more reference_width width =
      two_read reference row more
      (record { some = omega (arith, width, limits.some_pels); short = omega (arith, width, limits.short_rows) })
      (omega (arith, width, reference_width))

  line_back : (before i : ℕ) (reference row : List Colour) (more : List Bool) → length reference ≡ form.width
      → length row ≡ form.width
      → IsLine form i reference (coded_line form k before i reference row ++ more) row more
  unfolding coded_line
  line_back before i reference row more reference_width width =
      let dimension = written_dimension form.coding k i in
      let codes = row_bits dimension reference row ++ more in
      let coded = row_back dimension reference row more reference_width width in
      line_of form i reference (coded_line form k before i reference row ++ more) row more (record {
        dimension = dimension;
        codes = codes;
        start = start_back form.coding form.aligned before k i reference row more;
        first_code = row_begins dimension form.width reference codes row more limits.some_pels coded;
        coded = coded;
      })

  lines_back : (before i : ℕ) (reference : List Colour) (rows : List (List Colour)) (more : List Bool)
      → length reference ≡ form.width
      → All (λ row. length row ≡ form.width) rows → i + length rows ≡ form.rows
      → AreLines form i reference (coded_lines form k before i reference rows ++ more) rows None more
  unfolding coded_lines
  lines_back before i reference [] more reference_width widths count = (refl, omega (arith, count))
  lines_back before i reference (row ∷ rows) more reference_width widths count =
      let width : length row ≡ form.width = widths zero row (omega arith) in
      let line = coded_line form k before i reference row in
      let place = before + length line in
      let others = coded_lines form k place (i + 1) row rows in
      let after = others ++ more in (
        after,
        omega (arith, count),
        subst (λ b. IsLine form i reference b row after) (sym (append_assoc line others more))
            (line_back before i reference row after reference_width width),
        lines_back place (i + 1) row rows more width (λ j d h. widths (suc j) d (omega (arith, h)))
            (omega (arith, count)),
      )

  -- the rows of a written strip, and then its end and whatever follows it
  pub coded_lines_back : (rows : List (List Colour)) (more : List Bool) → AreRowsOf form rows
      → AreLines form 0 (white_row form.width) (coded_bits form k rows ++ more) rows None (end_bits form.coding ++ more)
  unfolding coded_bits
  coded_lines_back rows more fit =
      let after = end_bits form.coding ++ more in
      subst (λ b. AreLines form 0 (white_row form.width) b rows None after)
      (sym (append_assoc (coded_lines form k 0 0 (white_row form.width) rows) (end_bits form.coding) more))
      (lines_back 0 0 (white_row form.width) rows after (length-replicate form.width White) fit.widths
      (omega (arith, fit.count)))

-- a written strip is read back, whatever bits follow it
pub coded_bits_back : OneDimensionalBitsAreRead → TwoDimensionalBitsAreRead → CodedBitsAreRead
coded_bits_back one_read two_read form k rows more limits fit =
    is_strip form (coded_bits form k rows ++ more) rows None (end_bits form.coding ++ more)
    (coded_lines_back one_read two_read form limits k rows more fit)
