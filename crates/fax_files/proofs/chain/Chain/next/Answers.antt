use Rattle.std.proofs.Common.{arith}
use Rattle.fax_files.proofs.ChainReadingLemmas.{one_more_fits, one_more}
use Rattle.fax_files.proofs.chain.Chain.next.Goals as goal

pub advance_search-self-inside-requires-clause-next_at : goal.advance_search-self-inside-requires-clause-next_at
advance_search-self-inside-requires-clause-next_at c =
    let next_at = rw (← c.self.view_is, c.in-Some.is) at c.in_ok-answer.ensures.answer in
    (one_more c.self.inside.tiff _ _ c.self.invariant.offset c.in-Some.directory next_at _
    c.next_offset-next_at.ensures).upcoming_is

pub advance_search-self-inside-requires-clause-few : goal.advance_search-self-inside-requires-clause-few
advance_search-self-inside-requires-clause-few c =
    let next_at = rw (← c.self.view_is, c.in-Some.is) at c.in_ok-answer.ensures.answer in
    one_more_fits c.self.inside.tiff _ _ c.self.invariant.offset c.in-Some.directory next_at

pub overflow_add-self : goal.overflow_add-self
overflow_add-self c =
    let next_at = rw (← c.self.view_is, c.in-Some.is) at c.in_ok-answer.ensures.answer in
    let fits = one_more_fits c.self.inside.tiff _ _ c.self.invariant.offset c.in-Some.directory next_at in
    omega (arith, fits)

pub invariant_of-self : goal.invariant_of-self
invariant_of-self c =
    let next_at = rw (← c.self.view_is, c.in-Some.is) at c.in_ok-answer.ensures.answer in
    record {
      offset = one_more c.self.inside.tiff _ _ c.self.invariant.offset c.in-Some.directory next_at _
          c.next_offset-next_at.ensures;
      search_is = c.advance_search-self-inside.ensures;
    }
