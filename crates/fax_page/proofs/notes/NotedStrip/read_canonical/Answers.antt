use Rattle.std.proofs.Common.{◌≡◌, ◌++◌, ◌↔◌, length, IsTrue, refl, subst, ◌∙◌, ap, sym, arith, rules}
use Prim.{search}
use Rattle.fax_bits.specs.views.Sink.{Sink}
use Rattle.fax_bits.specs.views.Source.{Source}
use Rattle.fax_bits.specs.Bits.{StartsWith}
use Rattle.fax_rows.specs.laws.Rows.{HasWidth}
use Rattle.fax_page.specs.Lines.{read_codes}
use Rattle.fax_page.specs.Strip.{row_bits}
use Rattle.fax_page.proofs.NotesLemmas.{codes_read}
use Rattle.fax_page.proofs.notes.NotedStrip.read_canonical.Goals as goal

pub returns-clause-ok : goal.returns-clause-ok
returns-clause-ok c =
    let form = c.args.self.now.form in
    let dimension = c.args.dimension in
    let reference = c.args.rows.now.reference in
    let codes = c.args.self.now.source.remaining in
    let row = c.read_seen.new.row in
    let width : length row ≡ form.width = c.in-Ok-false.ensures.same_width ∙ c.requires.widths.row_width in
    let fits : HasWidth row =
    record {
      some = omega (arith, width, c.requires.limits.some_pels);
      short =
          omega (arith, width, c.requires.limits.short_rows);
    } in
    let put : c.put_codes.new.sink.bits ≡ row_bits dimension reference row =
    ap (λ (s : Sink). s.bits) c.in_ok-put_codes.ensures.ok
    ∙ ap (λ (s : Sink). s.bits ++ row_bits dimension reference row) c.clear.ensures in
    let begins : IsTrue c.starts_with.result ↔ StartsWith codes c.put_codes.new.sink.bits =
    subst (λ (s : Source). IsTrue c.starts_with.result ↔ StartsWith s.remaining c.put_codes.new.sink.bits)
    c.fork-codes.ensures
    c.starts_with.ensures in
    let coded = ap (λ n. read_codes dimension n reference codes) (sym c.requires.widths.row_width)
    ∙ c.in-Ok-false.ensures.read in
    codes_read c.one_dimensional_rows_are_read_back.ensures
    c.two_dimensional_rows_are_read_back.ensures
    form reference row codes _ _ dimension _ fits width c.requires.widths.reference_width coded put begins

pub returns-in-Ok-true-clause-ok : goal.returns-in-Ok-true-clause-ok
returns-in-Ok-true-clause-ok c =
    let dimension = c.args.dimension in
    let reference = c.args.rows.now.reference in
    let codes = c.args.self.now.source.remaining in
    record {
      coded = ap (λ n. read_codes dimension n reference codes) (sym c.requires.widths.row_width)
          ∙ c.in-Ok-true.ensures.read;
      choice = (λ _. c.in-Ok-true.ensures.chosen (search rules), λ _. refl);
    }

pub returns-in-Err-clause-err : goal.returns-in-Err-clause-err
returns-in-Err-clause-err c =
    let cause = c.in-Err.cause in (
      refl,
      cause,
      ap (λ n. read_codes c.args.dimension n c.args.rows.now.reference c.args.self.now.source.remaining)
          (sym c.requires.widths.row_width)
          ∙ c.in-Err.ensures.read,
      rw c.fork-codes.ensures at c.stop-fault.ensures,
    )
