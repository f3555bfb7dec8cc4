use Rattle.std.proofs.Common.{◌≡◌, ℕ, List, refl, subst}
use Rattle.std.specs.Prelude.{OnOk}
use Rattle.fax_files.specs.code.PageParts.{long_field}
use Rattle.fax_files.specs.declared.tags.TheConstants as Tags
use Rattle.fax_files.proofs.WritingLemmas.{directory_put}
use Rattle.fax_files.proofs.WrittenPageLemmas.{fields_counted}
use Rattle.fax_files.proofs.written.put_directory.Goals as goal

pub returns : goal.returns
returns c =
    let at = c.args.at.now in
    let count = fields_counted at.directory at.total at.number c.args.form.now at.bad
    (long_field Tags.STRIP_OFFSETS at.strips at.offsets) (long_field Tags.STRIP_BYTE_COUNTS at.strips at.byte_counts) in
    let put = rw c.field_count.ensures at c.in_ok-push_u16.ensures in
    let all = directory_put _ _ _ _ _ _ _ _ _ c.form_fields.ensures count put c.in_ok-put_fields.ensures
    c.in_ok-put_bad_fields.ensures refl in
    subst (λ (l : List ℕ). OnOk c.push_u32.result (c.push_u32.new.out.items ≡ l)) all c.push_u32.ensures
