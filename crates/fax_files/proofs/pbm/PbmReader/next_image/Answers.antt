use Rattle.std.proofs.Common.{length, refl, sym, ap, ◌∙◌}
use Rattle.std.specs.Prelude.{◌==◌}
use Rattle.std.proofs.lemmas.Bool.{false≢true}
use Rattle.fax_files.proofs.pbm.PbmReader.next_image.Goals as goal

pub returns-in-Err-clause-fault : goal.returns-in-Err-clause-fault
returns-in-Err-clause-fault c = rw (← c.self.view_is) (record {
  again = λ yielded is. absurd (c.in_default.not-Some yielded is);
  first =
      λ none. (
        λ empty. false≢true (sym c.if-is_empty.false ∙ c.is_empty.ensures ∙ ap (λ l. length l == 0) empty),
        c.in-Err.ensures.err,
      );
  kept = refl;
})
