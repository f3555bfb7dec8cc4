use Rattle.std.proofs.Common.{◌≡◌, ◌+◌, take, refl, ap, ◌∙◌, subst, arith}
use Rattle.std.proofs.Math.Seq.{take-length}
use Rattle.fax_rows.proofs.GivenRunLemmas.{ArePutRuns, put_none, put_next_run, put_all_runs, part_within}
use Rattle.fax_rows.proofs.PlacedReadLemmas.{more_room, put_on}
use Rattle.fax_rows.proofs.longest_runs.put_runs.Goals as goal

pub loop-n-init : goal.loop-n-init
loop-n-init c = grind (arith, put_none)

pub toggle_change-end-requires-clause-room : goal.toggle_change-end-requires-clause-room
toggle_change-end-requires-clause-room c = omega (arith, more_room c.loop-n.invariant.put)

pub loop-n-preserved : goal.loop-n-preserved
loop-n-preserved c =
    let runs = put_next_run c.args.runs.now c.loop-n.n-index c.loop-n.total _ (take c.loop-n.end c.loop-n.changes)
    (take c.toggle_change-end.result c.toggle_change-end.new.changes) c.loop-n-test.true refl c.loop-n.invariant.runs
    c.toggle_change-end.ensures.toggled in
    record {
      runs = runs;
      put = put_on c.loop-n.invariant.put c.toggle_change-end.ensures
          (omega (arith, runs.sum_is, part_within c.args.runs.now (c.loop-n.n-index + 1), c.requires.whole));
    }

pub returns-clause-pels : goal.returns-clause-pels
returns-clause-pels c =
    put_all_runs (subst (λ runs. ArePutRuns runs c.loop-n.total (take c.loop-n.end c.loop-n.changes)) whole
    c.loop-n.invariant.runs)
    c.requires.whole
  where
    whole : take c.loop-n.n-index c.args.runs.now ≡ c.args.runs.now
    whole = ap (λ n. take n c.args.runs.now) (omega arith) ∙ take-length c.args.runs.now
