use Rattle.std.proofs.Common.{sym, ap, subst, arith}
use Rattle.fax_bits.specs.Bits.{code_bits}
use Rattle.fax_bits.specs.views.Source.{IsTaken, Source}
use Rattle.fax_page.proofs.EndGraph.{is_may, may_of}
use Rattle.fax_page.proofs.EndLemmas.{not_mmr}
use Rattle.fax_page.proofs.MarkLemmas.{front_fits, may_have_mark, may_have_return}
use Rattle.fax_page.proofs.MarkLemmas.{block_found, block_missing, front}
use Rattle.fax_page.proofs.uncounted.may_be_end_mark.Goals as goal

pub take-requires-clause-fits : goal.take-requires-clause-fits
take-requires-clause-fits c = front_fits c.min-bits.result (omega arith)

pub returns-in-Mh : goal.returns-in-Mh
returns-in-Mh c =
    let other = not_mmr c.args.coding c.in-Mh.is in
    record {
      may = λ is. may_of c.args.coding _
          (may_have_mark c.args.coding _ other (c.may_be_return_to_control.ensures.may is));
      never = λ is may. c.may_be_return_to_control.ensures.never is
          (may_have_return c.args.coding _ other (is_may c.args.coding _ may));
    }

pub returns-in-Mmr-clause-may : goal.returns-in-Mmr-clause-may
returns-in-Mmr-clause-may c = λ is.
    let same = ap (λ (s : Source). s.remaining) (sym c.fork.ensures) in
    let taken = subst (λ t. IsTaken (code_bits c.min-bits.result (front c.min-bits.result)) c.fork.result.remaining t
    c.take.new.self.remaining) is c.take.ensures.taken in
    may_of c.args.coding _
    (block_found c.args.coding c.args.source.now.remaining _ c.take.new.self.remaining c.min-bits.result c.in-Mmr.is
    same (omega arith) taken)

pub returns-in-Mmr-clause-never : goal.returns-in-Mmr-clause-never
returns-in-Mmr-clause-never c = λ is may.
    let same = ap (λ (s : Source). s.remaining) (sym c.fork.ensures) in
    let taken = subst (λ t. IsTaken (code_bits c.min-bits.result (front c.min-bits.result)) c.fork.result.remaining t
    c.take.new.self.remaining) is c.take.ensures.taken in
    block_missing c.args.coding c.args.source.now.remaining _ c.take.new.self.remaining c.min-bits.result c.in-Mmr.is
    same
    (omega arith) taken (is_may c.args.coding _ may)
