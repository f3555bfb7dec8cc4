-- The form of a page that is not refused.
use Rattle.std.proofs.Common.{arith, ◌≡◌, ℕ, List, Ok, subst}
use Rattle.std.specs.Prelude.{IfOk}
use Rattle.std.proofs.lemmas.Grind.{div_ceil_times}
use Rattle.fax_files.specs.declared.PageForm.{PageForm}
use Rattle.fax_files.specs.Directory.{Endian, Entry}
use Rattle.fax_files.specs.Page.{form_in}
use Rattle.fax_files.specs.code.Steps.{IsFormOf, IsGoodResolution, resolution_in}
use Rattle.fax_files.specs.views.Page.{IsPageForm}
use Rattle.fax_files.specs.laws.TiffFiles.{FormsAreWhole}
use Rattle.fax_files.proofs.PageLemmas.{strip_begins_before}
use Rattle.fax_files.proofs.PageFormLemmas.{form_of_fields, form_within}

-- a form of good numbers
pub within : (endian : Endian) (file : List ℕ) (fields : List Entry) (form : PageForm)
    → IsFormOf endian file fields form
    → IsGoodResolution (resolution_in endian file fields) → IsPageForm form
within endian file fields form is good = grind arith

-- the form that fields say
pub limits : (endian : Endian) (file : List ℕ) (fields : List Entry) (form : PageForm)
    → form_in endian file fields ≡ Ok form
    → IsGoodResolution (resolution_in endian file fields) → IsPageForm form
limits endian file fields form is good =
    within endian file fields form (subst (λ r. IfOk r (IsFormOf endian file fields)) is
    (form_within endian file fields)) good

-- a form within the limits
pub forms_are_whole : FormsAreWhole
forms_are_whole endian file q form page_is =
    let is = form_of_fields endian file q form page_is in
    let all_rows = div_ceil_times form.rows form.rows_per_strip is.some_in_strip in
    record {
      some_width = is.some_width;
      width = is.width;
      some_rows = is.some_rows;
      rows = is.rows;
      some_in_strip = is.some_in_strip;
      enough = rw is.strips all_rows.0;
      needed = λ s below. strip_begins_before form.rows form.rows_per_strip s is.some_in_strip (rw is.strips at below);
    }
