use Rattle.std.proofs.Common.{◌≡◌, ◌+◌, ℕ, List, None, [], ◌∷◌, ◌++◌, length, sym, ap, ◌∙◌, arith}
use Rattle.std.proofs.lemmas.List.{length_push}
use Rattle.fax_bits.specs.declared.Colour.{Colour}
use Rattle.fax_walk.specs.declared.options.Options.{Options}
use Rattle.fax_walk.specs.declared.output.Output.{Output}
use Rattle.fax_walk.specs.declared.page_size.PageSize.{PageSize}
use Rattle.fax_walk.specs.code.Output.{Part, with_row, after, IsPartWritten, IsPutTo, IsUpcomingRow, IsWrittenTo}
use Rattle.fax_walk.proofs.conversion.put_lent.Goals as goal

module _ (options : Options) (output : Output) (r : ℕ) (row : List Colour) (part : Part)
    (upcoming : IsUpcomingRow options output r row part) where
  more : length (part.rows ++ row ∷ []) ≡ r + 1
  more = length_push part.rows row ∙ ap (λ (n : ℕ). n + 1) upcoming.count

  put_last : (new : Output) → r + 1 ≡ part.sheet.rows → IsWrittenTo new (after (with_row part row) None)
      → IsPutTo new (with_row part row)
  put_last new last written = record {
    none = λ empty. absurd (omega (arith, empty, more));
    some = λ some fewer. absurd (omega (arith, fewer, more, last));
    all = λ all. written;
  }

  put_before : (new : Output) → (r + 1 ≡ part.sheet.rows → ⊥) → IsPartWritten new (with_row part row)
      → IsPutTo new (with_row part row)
  put_before new not_last written = record {
    none = λ empty. absurd (omega (arith, empty, more));
    some = λ some fewer. written;
    all = λ all. absurd (not_last (omega (arith, all, more)));
  }

pub overflow_add-last : goal.overflow_add-last
overflow_add-last c =
    let (part, lent) = c.requires.upcoming in
    let less = lent.upcoming.upcoming in
    omega (arith, less, c.requires.limits.rows, ap (λ (s : PageSize). s.rows) lent.sheet_is)

pub put_row-requires : goal.put_row-requires
put_row-requires c =
    let (part, lent) = c.requires.upcoming in
    let upcoming = lent.upcoming in
    record {
      part = part;
      written = c.in_ok-begin_page.ensures part lent;
      upcoming = omega (arith, upcoming.count, upcoming.upcoming);
      width = upcoming.width;
    }

pub end-requires : goal.end-requires
end-requires c =
    let (part, lent) = c.requires.upcoming in
    let upcoming = lent.upcoming in
    record {
      part = with_row part c.args.last.now.row.now;
      written = c.in_ok-put_row.ensures part (c.in_ok-begin_page.ensures part lent) (omega (
        arith,
        upcoming.count,
        upcoming.upcoming,
      ))
          upcoming.width;
      all = more _ _ _ _ part upcoming ∙ c.if-last.true ∙ ap (λ (s : PageSize). s.rows) (sym lent.sheet_is);
    }

pub returns-in_ok-end : goal.returns-in_ok-end
returns-in_ok-end c = λ part lent.
    let upcoming = lent.upcoming in
    let last = c.if-last.true ∙ ap (λ (s : PageSize). s.rows) (sym lent.sheet_is) in
    let written =
    c.in_ok-put_row.ensures part (c.in_ok-begin_page.ensures part lent) (omega (
      arith,
      upcoming.count,
      upcoming.upcoming,
    )) upcoming.width in
    put_last _ _ _ _ part upcoming c.end.new.self last
    (c.in_ok-end.ensures (with_row part c.args.last.now.row.now) written (more _ _ _ _ part upcoming ∙ last))

pub returns-else-last : goal.returns-else-last
returns-else-last c = λ part lent.
    let upcoming = lent.upcoming in
    put_before _ _ _ _ part upcoming c.put_row.new.self (λ last. c.if-last.false
    (last ∙ ap (λ (s : PageSize). s.rows) lent.sheet_is))
    (c.in_ok-put_row.ensures part (c.in_ok-begin_page.ensures part lent) (omega (
      arith,
      upcoming.count,
      upcoming.upcoming,
    )) upcoming.width)
