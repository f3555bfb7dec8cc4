use Rattle.std.proofs.Common.{◌≡◌, Some, refl, rules, subst}
use Rattle.fax_page.specs.views.Writer.{FinishesAs, WriterState}
use Rattle.fax_walk.proofs.open_strips.StripsWriter.end_strip.Goals as goal

pub returns : goal.returns
returns c =
    let bytes = c.in_ok-finish.field-0 in
    let is_open : c.args.self.now.writer ≡ Some c.in-Some.writer = cc (c.take.ensures.value, c.in-Some.is) in
    record {
      bytes = bytes;
      done = search rules;
      same = rw c.take.ensures.after refl;
      finishes = λ writer is.
          let same : c.in-Some.writer ≡ writer = cc (is_open, is) in
          subst (λ (w : WriterState). FinishesAs w bytes.items) same c.in_ok-finish.ensures;
    }
