use Rattle.std.proofs.Common.{sym, ◌∙◌}
use Rattle.fax_files.proofs.ChainSearchLemmas.{stopped_first, stopped, next_is, on_two, still_running}
use Rattle.fax_files.proofs.chain.advance_search.Goals as goal

pub returns-in_default-next_of : goal.returns-in_default-next_of
returns-in_default-next_of c =
    let search = rw c.in-Running.is at c.requires.search in
    stopped_first c.args.tiff.now c.args.yielded c.in-Running.fast search (sym c.in_default-next_of.ensures)

pub returns-in_default-next_of-2 : goal.returns-in_default-next_of-2
returns-in_default-next_of-2 c =
    let search = rw c.in-Running.is at c.requires.search in
    stopped c.args.tiff.now c.args.yielded c.in-Running.fast c.in-Some.between search (sym c.in-Some.ensures)
    (sym c.in_default-next_of-2.ensures)

pub cycle_start_from-turn-requires-clause-back : goal.cycle_start_from-turn-requires-clause-back
cycle_start_from-turn-requires-clause-back c =
    let search = rw c.in-Running.is at c.requires.search in
    sym (next_is c.args.tiff.now c.args.yielded c.in-Running.fast c.in-Some.between search (sym c.in-Some.ensures)
    c.in-Some-next_of.fast
    (sym c.in-Some-next_of.ensures))
    ∙ c.if-fast-next_at.true ∙ c.requires.next_at

pub cycle_start_from-turn-requires-clause-on : goal.cycle_start_from-turn-requires-clause-on
cycle_start_from-turn-requires-clause-on c =
    let search = rw c.in-Running.is at c.requires.search in
    on_two c.args.tiff.now c.args.yielded c.in-Running.fast c.in-Some.between search (sym c.in-Some.ensures)
    c.in-Some-next_of.fast
    (sym c.in-Some-next_of.ensures)

pub returns : goal.returns
returns c =
    let search = rw c.in-Running.is at c.requires.search in
    still_running c.args.tiff.now c.args.yielded c.in-Running.fast c.in-Some.between search (sym c.in-Some.ensures)
    c.in-Some-next_of.fast
    (sym c.in-Some-next_of.ensures)
    (λ e. c.if-fast-next_at.false (e ∙ sym c.requires.next_at))
