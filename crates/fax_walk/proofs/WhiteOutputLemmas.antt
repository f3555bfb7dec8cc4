-- White rows of an output that is written page by page.
use Rattle.std.proofs.Common.{◌≡◌, ℕ, ◌+◌, ◌-◌, ◌*◌, ◌≤◌, List, ◌++◌, length, map, replicate, sym, ap, ◌∙◌, subst}
use Rattle.std.proofs.Common.{arith, append_assoc, length-append}
use Rattle.std.specs.Prelude.{flat_map}
use Rattle.std.proofs.lemmas.List.{length-replicate}
use Rattle.std.proofs.lemmas.List.Concat.{flat_map-append}
use Rattle.fax_rows.specs.laws.Packed.{PackingUndoesUnpacking}
use Rattle.fax_rows.specs.Coded.{packed_len, packed_row}
use Rattle.fax_page.specs.Lines.{white_row}
use Rattle.fax_files.specs.Pbm.{pbm_of}
use Rattle.fax_files.specs.views.Pbm.{head_bytes}
use Rattle.fax_files.specs.laws.Pbm.{AreOfWidth}
use Rattle.fax_walk.specs.code.Output.{HasImageRows, Part, with_rows}
use Rattle.fax_walk.proofs.OnPaperLemmas.{widths_both, widths_white}
use Rattle.fax_walk.proofs.OutputLemmas.{rows_length}

-- rows of a page, and white ones after them
pub white_widths : (part : Part) (width n : ℕ) → AreOfWidth part.sheet.width part.rows → width ≡ part.sheet.width
    → AreOfWidth part.sheet.width (part.rows ++ replicate n (white_row width))
white_widths part width n are wide =
    widths_both part.sheet.width part.rows (replicate n (white_row width)) are
    (subst (λ w. AreOfWidth part.sheet.width (replicate n (white_row w))) (sym wide)
    (widths_white part.sheet.width n))

split_product : (rest count size : ℕ) → (rest + count) * size ≡ rest * size + count * size
split_product rest count size = omega arith

-- white rows are put after the others of their image
pub image_white : PackingUndoesUnpacking → (part : Part) (width count : ℕ) (old new : List ℕ) → HasImageRows old part
    → length part.rows + count ≤ part.sheet.rows → width ≡ part.sheet.width
    → new ≡ old ++ flat_map packed_row (replicate count (white_row width))
    → HasImageRows new (with_rows part (replicate count (white_row width)))
image_white packs part width count old new has room wide new_is =
    let white = replicate count (white_row width) in
    let before = pbm_of (map (λ page. page.image) part.at.pages) in
    let head = head_bytes part.sheet.width part.sheet.rows in
    let rows = flat_map packed_row part.rows in
    let size = packed_len part.sheet.width in
    let rest = has.remaining - count in
    let parts : has.remaining ≡ rest + count = omega (arith, has.left_is, room) in
    let both : has.remaining * size ≡ rest * size + count * size =
    ap (λ n. n * size) parts ∙ split_product rest count size in
    let many : length white ≡ count = length-replicate count (white_row width) in
    let len : length (flat_map packed_row white) ≡ count * size =
    rows_length packs width white (widths_white width count)
    ∙ ap (λ n. n * packed_len width) many
    ∙ ap (λ w. count * packed_len w) wide in
    let long : length new ≡ length old + count * size =
    ap length new_is ∙ length-append old (flat_map packed_row white) ∙ ap (λ n. length old + n) len in
    record {
      target = has.target;
      bytes_are =
          new_is
          ∙ ap (λ (l : List ℕ). l ++ flat_map packed_row white) has.bytes_are
          ∙ append_assoc before (head ++ rows) (flat_map packed_row white)
          ∙ ap (λ (l : List ℕ). before ++ l) (append_assoc head rows (flat_map packed_row white)
          ∙ ap (λ (l : List ℕ). head ++ l) (sym (flat_map-append packed_row part.rows white)));
      remaining = rest;
      left_is = omega (arith, has.left_is, parts, many, length-append part.rows white);
      fits = omega (arith, has.fits, long, both);
    }
