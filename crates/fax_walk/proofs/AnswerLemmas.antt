-- What is converted has one output or one fault, and what is checked has one report.
use Rattle.std.proofs.lemmas.Grind.{common_steps}
use Rattle.std.proofs.Common.{arith, ◌≡◌, Bool, ℕ, List, length, Option, None, Err, refl, ap, sym}
use Rattle.std.proofs.Common.{◌∙◌, subst}
use Rattle.std.proofs.Common.{inl, inr, codes}
use Rattle.std.specs.Prelude.{flat_map}
use Rattle.fax_bits.specs.Bits.{StartsWith}
use Rattle.fax_files.specs.declared.Cause.{Cause}
use Rattle.fax_files.specs.laws.Pbm.{ImagesAreReadInOneWay}
use Rattle.fax_walk.specs.declared.checking.Note.{Note}
use Rattle.fax_walk.specs.declared.end.End.{End}
use Rattle.fax_walk.specs.declared.end.End.TheVariants.{Fault, Outside, EndOfPages}
use Rattle.fax_walk.specs.declared.options.ConvertFault.{ConvertFault}
use Rattle.fax_walk.specs.declared.options.ConvertFault.TheVariants as Refused
use Rattle.fax_walk.specs.declared.options.Options.{Options}
use Rattle.fax_walk.specs.declared.walk.Place.{Place}
use Rattle.fax_walk.specs.Converted.{IsConverted, IsNotConverted, IsSource, IsTiff, IsTooLarge, SourcePage, pages_of}
use Rattle.fax_walk.specs.Converted.{target_bytes}
use Rattle.fax_walk.specs.Pages.{AreFrom, NextItem, read_page, ends_as}
use Rattle.fax_walk.specs.Report.{IsNoted, IsReportedEnd, noted_on}
use Rattle.fax_walk.specs.Items.{AreItems, RowItem}
use Rattle.fax_walk.specs.laws.Answers.{BytesAreConvertedInOneWay, FilesHaveOneReport}
use Rattle.fax_walk.specs.laws.Tails.{FilesHaveOneForms, FilesHaveOneItems}
use Rattle.fax_walk.proofs.InOrderLemmas.{IsSingle, single_from, two_of}
use Rattle.fax_walk.proofs.PageLawLemmas.{proper_after, single_on_page}
use Rattle.fax_walk.proofs.ReadBackLemmas.{not_both}

-- the fault of a source whose rows end so
abbrev source_fault : End → ConvertFault
source_fault (Fault p r cause) = Refused.Source p r cause
source_fault EndOfPages = Refused.UnknownInput
source_fault Outside = Refused.UnknownInput

module _ (images_once : ImagesAreReadInOneWay) (one_forms : FilesHaveOneForms) (one_items : FilesHaveOneItems) where
  -- a source has one list of pages
  one_source : (bytes : List ℕ) (pages others : List SourcePage) → IsSource bytes pages → IsSource bytes others
      → pages ≡ others
  one_source bytes pages others (inl (begins, images, are, is)) (inl (begins', images', are', is')) = grind arith
  one_source bytes pages others (inl (begins, images, are, is)) (inr (tiff, forms, items, forms_are, items_are, is')) =
      absurd (not_both bytes begins tiff)
  one_source bytes pages others (inr (tiff, forms, items, forms_are, items_are, is')) (inl (begins, images, are, is)) =
      absurd (not_both bytes begins tiff)
  one_source bytes pages others (inr (tiff, forms, items, forms_are, items_are, is))
      (inr (tiff', forms', items', forms_are', items_are', is')) =
      let same_forms = two_of (one_forms bytes) forms forms' EndOfPages EndOfPages forms_are forms_are' in
      let same_items = two_of (one_items bytes) items items' EndOfPages EndOfPages items_are items_are' in
      is ∙ ap (λ l. pages_of l items) same_forms.0 ∙ ap (pages_of forms') same_items.0 ∙ sym is'

  no_tiff_source : (bytes : List ℕ) (items : List RowItem) (p r : ℕ) (cause : Cause) (pages : List SourcePage)
      → IsTiff bytes
      → AreItems bytes items (Fault p r cause) → IsSource bytes pages → ⊥
  no_tiff_source bytes items p r cause pages tiff are (inl (begins, images, are', is)) = not_both bytes begins tiff
  no_tiff_source bytes items p r cause pages tiff are (inr (tiff', forms', items', forms_are', items_are', is')) =
      let same = two_of (one_items bytes) items items' (Fault p r cause) EndOfPages are items_are' in cc (same.1)

  no_source : (bytes : List ℕ) (pages : List SourcePage) → (StartsWith bytes (codes "P4") → ⊥) → (IsTiff bytes → ⊥)
      → IsSource bytes pages → ⊥
  no_source bytes pages no_pbm no_tiff is = grind arith

  one_output : (bytes : List ℕ) (options : Options) (output other : List ℕ) → IsConverted bytes options output
      → IsConverted bytes options other → output ≡ other
  one_output bytes options output other first second =
      first.output_is
      ∙ ap (target_bytes options.target options) (one_source bytes first.pages second.pages first.source second.source)
      ∙ sym second.output_is

  output_has_no_fault : (bytes : List ℕ) (options : Options) (output : List ℕ) (fault : ConvertFault)
      → IsConverted bytes options output
      → IsNotConverted bytes options fault → ⊥
  output_has_no_fault bytes options output Refused.UnknownInput is none = grind (arith, no_source)
  output_has_no_fault bytes options output (Refused.Pbm image fault) is none = grind arith
  output_has_no_fault bytes options output (Refused.Source p r cause) is none =
      no_tiff_source bytes none.1 p r cause is.pages none.0 none.2 is.source
  output_has_no_fault bytes options output Refused.OutputTooLarge is none =
      let same = one_source bytes none.0 is.pages none.1 is.source in
      is.fits (subst (λ l. IsTooLarge options.target is.pages l) (sym is.output_is)
      (subst (λ l. IsTooLarge options.target l (target_bytes options.target options l)) same none.2))
  output_has_no_fault bytes options output Refused.Memory is none = none

  one_fault : (bytes : List ℕ) (options : Options) (fault other : ConvertFault) → IsNotConverted bytes options fault
      → IsNotConverted bytes options other → fault ≡ other
  one_fault bytes options fault Refused.Memory first second = absurd second
  one_fault bytes options Refused.Memory other first second = absurd first
  one_fault bytes options Refused.UnknownInput Refused.UnknownInput first second = refl
  one_fault bytes options Refused.UnknownInput (Refused.Pbm image fault) first second = absurd (first.0 second.0)
  one_fault bytes options Refused.UnknownInput (Refused.Source p r cause) first second = absurd (first.1 second.0)
  one_fault bytes options Refused.UnknownInput Refused.OutputTooLarge first second = grind arith
  one_fault bytes options (Refused.Pbm image fault) Refused.UnknownInput first second = absurd (second.0 first.0)
  one_fault bytes options (Refused.Pbm image fault) (Refused.Pbm image' fault') first second = grind arith
  one_fault bytes options (Refused.Pbm image fault) (Refused.Source p r cause) first second = grind arith
  one_fault bytes options (Refused.Pbm image fault) Refused.OutputTooLarge first second = grind arith
  one_fault bytes options (Refused.Source p r cause) Refused.UnknownInput first second = absurd (second.1 first.0)
  one_fault bytes options (Refused.Source p r cause) (Refused.Pbm image fault) first second = grind arith
  one_fault bytes options (Refused.Source p r cause) (Refused.Source p' r' cause') first second =
      let same = (two_of (one_items bytes) first.1 second.1 (Fault p r cause) (Fault p' r' cause') first.2 second.2).1
      in
      ap source_fault same
  one_fault bytes options (Refused.Source p r cause) Refused.OutputTooLarge first second =
      absurd (no_tiff_source bytes first.1 p r cause second.0 first.0 first.2 second.1)
  one_fault bytes options Refused.OutputTooLarge Refused.UnknownInput first second = grind arith
  one_fault bytes options Refused.OutputTooLarge (Refused.Pbm image fault) first second = grind (arith, common_steps)
  one_fault bytes options Refused.OutputTooLarge (Refused.Source p r cause) first second =
      absurd (no_tiff_source bytes second.1 p r cause first.0 second.0 second.2 first.1)
  one_fault bytes options Refused.OutputTooLarge Refused.OutputTooLarge first second = refl

  pub bytes_are_converted_in_one_way : BytesAreConvertedInOneWay
  bytes_are_converted_in_one_way bytes options = record {
    one_output = one_output bytes options;
    output_has_no_fault = output_has_no_fault bytes options;
    one_fault = one_fault bytes options;
  }

module _ (file : List ℕ) where
  proper_once : (n m : ℕ) → read_page file (record { page = n; row = 0 }) ≡ Err EndOfPages
      → read_page file (record { page = m; row = 0 }) ≡ Err EndOfPages → n ≡ m
  proper_once n m first second = grind (arith, proper_after)

  one_end : (end : End) (pages others : ℕ) (fault other : Option (Place × Cause)) → IsReportedEnd file end pages fault
      → IsReportedEnd file end others other → (pages ≡ others) × (fault ≡ other)
  one_end end pages others fault other first second = grind (arith, proper_once)

single_noted : (with_received : Bool) (file : List ℕ) (at : ℕ × Option ℕ) → IsSingle (IsNoted with_received file at)
single_noted with_received file (p, strip) =
    single_on_page (read_page file (record { page = p; row = 0 }))
    (λ here (step : NextItem (List Note) (ℕ × Option ℕ)). step ≡ noted_on with_received file p strip here) ends_as
    (λ here x y first second. first ∙ sym second)

pub files_have_one_report : FilesHaveOneItems → FilesHaveOneReport
files_have_one_report one_items with_received file report other first second =
    let rows = two_of (one_items file) first.items second.items first.end second.end first.read second.read in
    let end_is = subst (λ (e : End). IsReportedEnd file e other.pages other.fault) (sym rows.1) second.end_is in
    let ends = one_end file first.end report.pages other.pages report.fault other.fault first.end_is end_is in
    let noted = subst (λ (e : End). AreFrom (IsNoted with_received file) (0, None) second.notes e) (sym rows.1)
    second.noted in
    let notes = single_from (IsNoted with_received file) (single_noted with_received file) (0, None) first.notes
    second.notes first.end
    first.end first.noted noted in
    record {
      notes = first.notes_are ∙ ap (λ l. flat_map (λ own. own) l) notes.0 ∙ sym second.notes_are;
      pages = ends.0;
      rows = first.rows_are ∙ ap (λ l. length l) rows.0 ∙ sym second.rows_are;
      fault = ends.1;
    }
