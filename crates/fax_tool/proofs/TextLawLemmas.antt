-- What a command writes of a file is one text.
use Rattle.std.proofs.Common.{arith, ◌≡◌, ℕ, List, [], Option, Some, None, Bool, false, ap, refl, subst, sym, ◌∙◌}
use Rattle.std.proofs.Common.{inl, inr, length, map}
use Rattle.fax_bits.specs.laws.Codes.{IsOne}
use Rattle.fax_walk.specs.declared.options.Options.{Options}
use Rattle.fax_walk.specs.laws.Answers.{BytesAreConvertedInOneWay, FilesHaveOneReport}
use Rattle.fax_walk.specs.laws.Salvaged.{IsSalvagedOneWay}
use Rattle.fax_walk.specs.laws.Tails.{BeginningsHaveOneTail, CursorsHaveOneFormTail, FilesHaveOneItems}
use Rattle.fax_tool.specs.SalvageText.{IsSalvageFileText, IsSalvageText, line_left}
use Rattle.fax_files.specs.Layout.{with_pages}
use Rattle.fax_walk.specs.Converted.{IsTooLarge, SourcePage, target_bytes}
use Rattle.fax_walk.specs.SalvagedFile.{IsSalvagedAs, IsSalvagedTooLarge}
use Rattle.fax_walk.specs.declared.options.Target.{Target}
use Rattle.fax_walk.specs.declared.options.Target.TheVariants.{Mh, Mmr, Mr, Pbm}
use Rattle.fax_walk.specs.laws.SalvagedFiles.{FilesAreSalvagedToOne}
use Rattle.fax_tool.specs.ReportText.{IsCheckText, IsConversionText}
use Rattle.fax_tool.specs.Run.{ArePageLines, AreRowLines, IsTextOfLines, origin_of}
use Rattle.fax_tool.specs.Text.{WalkStart, AtCursor, End, PrintedLine, Printed}
use Rattle.fax_tool.specs.declared.args.Command.TheVariants.{Check, Convert, List as Forms, Rows, Salvage}
use Rattle.fax_tool.specs.declared.args.Command.TheVariants.{SalvageFile, Version}
use Rattle.fax_tool.specs.laws.OneText.{TextsAreOne}
use Rattle.fax_tool.proofs.LineLemmas.{one_pages, one_rows}

-- of one list of lines and one end there is one text
one_of_lines : (are : List PrintedLine → End → Type 0) → IsOne are
    → (long : Bool) (max : Option ℕ) (origin : WalkStart) (printed other : Printed)
    → IsTextOfLines are long max origin printed → IsTextOfLines are long max origin other → printed ≡ other
one_of_lines are one long max origin printed other (lines, end, first, is) (lines', end', second, is') = grind arith

one_conversion : BytesAreConvertedInOneWay → (options : Options) (file : List ℕ) (printed other : Printed)
    → IsConversionText options file printed → IsConversionText options file other → printed ≡ other
one_conversion ways options file printed other (inl (output, first, is)) (inl (output', second, is')) =
    rw (is, is', (ways file options).one_output output output' first second)
one_conversion ways options file printed other (inl (output, first, is)) (inr (fault, second, is')) =
    absurd ((ways file options).output_has_no_fault output fault first second)
one_conversion ways options file printed other (inr (fault, first, is)) (inl (output, second, is')) =
    absurd ((ways file options).output_has_no_fault output fault second first)
one_conversion ways options file printed other (inr (fault, first, is)) (inr (fault', second, is')) =
    rw (is, is', (ways file options).one_fault fault fault' first second)

one_report : FilesHaveOneReport → (received : Bool) (file : List ℕ) (printed other : Printed)
    → IsCheckText received file printed → IsCheckText received file other → printed ≡ other
one_report reports received file printed other (report, first, is) (report', second, is') =
    let same = reports received file report report' first second in
    rw (is, is', same.notes, same.pages, same.rows, same.fault)

one_salvage : ((file : List ℕ) → IsSalvagedOneWay file) → FilesHaveOneItems → (file : List ℕ) (printed other : Printed)
    → IsSalvageText file printed → IsSalvageText file other → printed ≡ other
one_salvage salvages files file printed other first second =
    let way = salvages file in
    let lines = first.are.2 ∙ ap (map line_left) (way.one first.are.0 first.are.1
    ∙ sym (way.one second.are.0 second.are.1)) ∙ sym second.are.2 in
    let end = ((files file).one first.rows first.end first.ended).1
    ∙ sym ((files file).one second.rows second.end second.ended).1 in
    rw (first.is, second.is, lines, end)

-- of no page there is nothing that is too large
none_too_large : (target : Target) (options : Options) → IsTooLarge target [] (target_bytes target options []) → ⊥
unfolding with_pages
none_too_large Pbm options large = grind arith
none_too_large Mh options large = grind arith
none_too_large Mr options large = grind arith
none_too_large Mmr options large = grind arith

module _ (salvages : FilesAreSalvagedToOne) (options : Options) (file : List ℕ) where
  one_answer : (answer other : Option (List ℕ)) → IsSalvagedAs file options answer → IsSalvagedAs file options other
      → answer ≡ other
  one_answer None None first second = refl
  one_answer None (Some output) first second =
      let same = salvages file [] second.pages first second.source in
      absurd (omega (arith, second.some, ap (λ (l : List SourcePage). length l) same))
  one_answer (Some output) None first second =
      let same = salvages file [] first.pages second first.source in
      absurd (omega (arith, first.some, ap (λ (l : List SourcePage). length l) same))
  one_answer (Some output) (Some output') first second =
      let same = salvages file first.pages second.pages first.source second.source in
      ap Some (first.output_is ∙ ap (target_bytes options.target options) same ∙ sym second.output_is)

  answer_or_too_large : (answer : Option (List ℕ)) → IsSalvagedAs file options answer
      → IsSalvagedTooLarge file options → ⊥
  answer_or_too_large None is (pages, source, large) =
      let same = salvages file pages [] source is in
      none_too_large options.target options
      (subst (λ (l : List SourcePage). IsTooLarge options.target l (target_bytes options.target options l)) same large)
  answer_or_too_large (Some output) is (pages, source, large) =
      let same = salvages file pages is.pages source is.source in
      let bytes = sym is.output_is in
      is.fits (subst (λ (l : List ℕ). IsTooLarge options.target is.pages l) bytes
      (subst (λ (l : List SourcePage). IsTooLarge options.target l (target_bytes options.target options l)) same
      large))

one_salvage_file : FilesAreSalvagedToOne → FilesHaveOneItems → (options : Options) (file : List ℕ)
    (printed other : Printed)
    → IsSalvageFileText options file printed → IsSalvageFileText options file other → printed ≡ other
one_salvage_file salvages files options file printed other (inl first) (inl second) =
    let answer = one_answer salvages options file first.answer second.answer first.salvaged second.salvaged in
    let end = ((files file).one first.rows first.end first.ended).1
    ∙ sym ((files file).one second.rows second.end second.ended).1 in
    rw (first.is, second.is, answer, end)
one_salvage_file salvages files options file printed other (inl first) (inr (large, is)) =
    absurd (answer_or_too_large salvages options file first.answer first.salvaged large)
one_salvage_file salvages files options file printed other (inr (large, is)) (inl second) =
    absurd (answer_or_too_large salvages options file second.answer second.salvaged large)
one_salvage_file salvages files options file printed other (inr (large, is)) (inr (large', is')) = is ∙ sym is'

pub texts_are_one : BeginningsHaveOneTail → CursorsHaveOneFormTail → BytesAreConvertedInOneWay
    → FilesHaveOneReport → ((file : List ℕ) → IsSalvagedOneWay file) → FilesAreSalvagedToOne → FilesHaveOneItems
    → TextsAreOne
texts_are_one tails forms ways reports salvages salvaged files (Forms part) file printed other first second =
    one_of_lines (ArePageLines file part.cursor) (one_pages file forms part.cursor) false part.max (AtCursor
    part.cursor)
    printed other first second
texts_are_one tails forms ways reports salvages salvaged files (Rows part) file printed other first second =
    one_of_lines (AreRowLines file (origin_of part)) (one_rows file tails (origin_of part)) part.long part.max
    (origin_of part) printed other first second
texts_are_one tails forms ways reports salvages salvaged files (Convert options) file printed other first second =
    one_conversion ways options file printed other first second
texts_are_one tails forms ways reports salvages salvaged files (Check received) file printed other first second =
    one_report reports received file printed other first second
texts_are_one tails forms ways reports salvages salvaged files Salvage file printed other first second =
    one_salvage salvages files file printed other first second
texts_are_one tails forms ways reports salvages salvaged files (SalvageFile options) file printed other first second =
    one_salvage_file salvaged files options file printed other first second
texts_are_one tails forms ways reports salvages salvaged files Version file printed other first second = first
    ∙ sym second
