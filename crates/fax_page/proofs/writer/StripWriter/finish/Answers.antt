use Rattle.std.proofs.Common.{rules, ℕ, ◌<◌, List, subst}
use Rattle.std.specs.Prelude.{All}
use Rattle.fax_page.specs.Strip.{end_bits}
use Rattle.fax_page.proofs.WriterLemmas.{finished}
use Rattle.fax_page.proofs.writer.StripWriter.finish.Goals as goal

pub returns : goal.returns
returns c =
    let w = c.self.inside in
    let fit = subst (λ (bytes : List ℕ). All (λ byte. byte < 256) bytes) c.deref.ensures.value c.are_bytes.ensures in
    rw (← c.self.view_is)
    (record {
      not_refused = search rules;
      bytes_are =
          finished w.form.order w.sink c.put_end.new.sink c.pad.new.self (end_bits w.form.coding)
          c.into_bytes-bytes.result.items
          c.bits_are_packed_in_one_way.ensures c.self.invariant.same_order c.in_ok-put_end.ensures.ok c.pad.ensures fit
          c.into_bytes-bytes.ensures;
    })
