-- Cursors after items have numbers of 32 bits.
use Rattle.std.proofs.lemmas.Grind.{common_steps}
use Rattle.std.proofs.Common.{◌≡◌, ℕ, ◌+◌, ◌^◌, ◌<◌, List, [], ◌∷◌, length, drop, sym, ap, ◌∙◌, subst, arith}
use Rattle.std.specs.List.{All}
use Rattle.std.proofs.lemmas.Bool.Decides.{nat_tests}
use Rattle.std.proofs.lemmas.List.Elements.{All-cons, All-nil}
use Rattle.fax_bits.specs.declared.Colour.{Colour}
use Rattle.fax_bits.specs.declared.Colour.TheVariants.{White}
use Rattle.fax_rows.specs.Rows.{other, runs_after, runs_of}
use Rattle.fax_files.specs.laws.TiffFiles.{FilesHaveOneChain, FormsAreWhole}
use Rattle.fax_walk.specs.Pages.{IsLongCursor}
use Rattle.fax_walk.specs.Items.{exchanged}
use Rattle.fax_walk.specs.laws.Cursors.{CursorsAreShort, PlacesAreShort}
use Rattle.fax_walk.proofs.PageLawLemmas.{page_few}
use Rattle.fax_walk.proofs.RowLawLemmas.{whole_page, LinesAreRead}
use Rattle.fax_walk.proofs.TailLawLemmas.{facts, here_from, inner, long_of, pels_are, read, split_at_number, this}

-- the longest runs of pels are no longer than all of them
runs_short : (colour : Colour) (n most : ℕ) (pels : List Colour) → n + length pels < most
    → All (λ run. run < most) (runs_after colour n pels)
unfolding runs_after
runs_short colour n most [] within = All-cons (λ run. run < most) n [] (omega arith) (All-nil (λ run. run < most))
runs_short colour n most (first ∷ pels) within =
    grind (
      arith,
      common_steps,
      runs_short colour (n + 1) most pels (omega arith),
      runs_short (other colour) 1 most pels
          (omega arith),
    )

-- there is one at least
pub some_run : (colour : Colour) (n : ℕ) (pels : List Colour) → 0 < length (runs_after colour n pels)
unfolding runs_after
some_run colour n [] = omega arith
some_run colour n (first ∷ pels) = grind (arith, common_steps, some_run colour (n + 1) pels)

pub cursors_are_short : FormsAreWhole → FilesHaveOneChain → CursorsAreShort
cursors_are_short forms chains file origin all end n item short reached tail there =
    let split = split_at_number file origin all end n item tail there in
    let row = read forms file origin reached item (drop (n + 1) all) end split in
    let from = here_from forms file origin reached item (drop (n + 1) all) end split row.here row.page in
    let whole = whole_page file forms (record { page = split.row.at.page; row = split.row.at.row }) row.here row.page in
    let few = page_few chains file (record { page = split.row.at.page; row = split.row.at.row }) row.here row.page in
    record {
      page = omega (arith, few, short, row.is.0);
      row = omega (arith, from.row, whole.rows, row.is.1);
    }

pub places_are_short : LinesAreRead → FormsAreWhole → FilesHaveOneChain → PlacesAreShort
places_are_short lines_read forms chains file origin all end n item place short tail there long =
    let after = drop (n + 1) all in
    let split = split_at_number file origin all end n item tail there in
    let row = this forms file lines_read origin item after end split place long in
    let fact = facts forms file lines_read origin item after end split place long in
    let whole = whole_page file forms (record { page = split.row.at.page; row = split.row.at.row }) row.here row.page in
    let few = page_few chains file (record { page = split.row.at.page; row = split.row.at.row }) row.here row.page in
    let wide : length (exchanged row.here.form item.pels) ≡ row.here.form.width =
    ap (λ (l : List Colour). length l) (sym (pels_are forms file lines_read origin item after end split place
    long))
    ∙ (inner forms file lines_read origin item after end split place long).1 in
    let runs : All (λ run. run < 2 ^ 32) (runs_of (exchanged row.here.form item.pels)) =
    runs_short White 0 (2 ^ 32) (exchanged row.here.form item.pels) (omega (arith, wide, whole.width)) in
    let bits : item.bits < 2 ^ 32 = grind (arith, nat_tests, fact.bits) in
    let found : IsLongCursor (long_of forms file row.here.form item) = record {
      cursor = record { page = omega (arith, few, short, row.is.0); row = omega (arith, fact.within, whole.rows) };
      bits = bits;
      runs = runs;
      some = some_run White 0 (exchanged row.here.form item.pels);
    } in
    subst IsLongCursor fact.is found
