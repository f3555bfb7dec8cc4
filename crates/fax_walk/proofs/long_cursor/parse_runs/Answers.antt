use Rattle.std.proofs.Common.{arith, ◌<◌, ◌^◌, rules}
use Rattle.std.proofs.lemmas.List.Elements.{All-push}
use Rattle.std.proofs.lemmas.Result.{err_from_is_err_and}
use Rattle.fax_walk.proofs.LongCursorLemmas.{run_cut, runs_text-push, run_before, run_left}
use Rattle.fax_walk.proofs.long_cursor.parse_runs.Goals as goal

pub loop-run-preserved : goal.loop-run-preserved
loop-run-preserved c =
    let pushed = c.in_ok-push_run.ensures.ok in
    let cut = rw c.in-Some.is at c.split_once.ensures.cases in
    record {
      cut = rw pushed.2
          (run_cut c.args.text.now c.loop-run.runs.items c.loop-run.rest.now c.in-Some.run' c.in-Some.after pushed.0
          c.loop-run.invariant.cut cut pushed.1);
      utf8 = search rules;
      short = rw pushed.2 (All-push (λ run. run < 2 ^ 32) c.loop-run.runs.items pushed.0 c.loop-run.invariant.short
          pushed.3);
    }

pub returns-clause-ok : goal.returns-clause-ok
returns-clause-ok c = grind (arith, runs_text-push)

pub returns-in_err-push_run-clause-err : goal.returns-in_err-push_run-clause-err
returns-in_err-push_run-clause-err c =
    let p = err_from_is_err_and c.from_residual.result c.from_residual.ensures.1 in
    let cut = rw c.in-Some.is at c.split_once.ensures.cases in
    rw (p.1, p.2)
    (λ final_end runs short some is.
    let rest = c.loop-run.invariant.cut.others (record { runs = runs; short = short; some = some; text_is = is }) in
    let run = (run_before c.loop-run.rest.now c.in-Some.run' c.in-Some.after cut rest).0 in
    c.in_err-push_run.ensures.err final_end run.run run.short run.text_is)

pub returns-in_err-push_run-2-clause-err : goal.returns-in_err-push_run-2-clause-err
returns-in_err-push_run-2-clause-err c =
    let p = err_from_is_err_and c.from_residual-in_err-push_run-2.result c.from_residual-in_err-push_run-2.ensures.1 in
    let cut = rw c.in_default.is at c.split_once.ensures.cases in
    rw (p.1, p.2)
    (λ final_end runs short some is.
    let rest = c.loop-run.invariant.cut.others (record { runs = runs; short = short; some = some; text_is = is }) in
    let run = run_left c.loop-run.rest.now cut rest in
    c.in_err-push_run-2.ensures.err final_end run.run run.short run.text_is)
