use Rattle.fax_tool.proofs.CutRunLemmas.{cut_runs_are_read_on, runs_go_on as all_go_on}
use Rattle.fax_tool.proofs.laws.runs_go_on.Goals as goal

pub returns-clause-runs : goal.returns-clause-runs
returns-clause-runs c =
    all_go_on c.beginnings_have_one_tail.ensures c.tails_go_on.ensures.cursors c.tails_go_on.ensures.places
    c.tails_go_on.ensures.reached c.cursors_are_named.ensures.cursors c.cursors_are_named.ensures.places
    c.cursors_are_named.ensures.one

pub returns-clause-read : goal.returns-clause-read
returns-clause-read c =
    cut_runs_are_read_on c.beginnings_have_one_tail.ensures c.tails_go_on.ensures.cursors
    c.tails_go_on.ensures.places c.tails_go_on.ensures.reached c.cursors_are_named.ensures.cursors
    c.cursors_are_named.ensures.places
    c.cursors_are_named.ensures.one
