use Rattle.fax_walk.specs.code.Sources.{IsFile}
use Rattle.fax_walk.proofs.ConversionLemmas.{converted, if_err, if_ok, refused}
use Rattle.fax_walk.proofs.FileLemmas.{all_written, its_file, none_put, one_put, part, upcoming_row, source, final_end}
use Rattle.fax_walk.proofs.conversion.convert_file.Goals as goal

pub loop-walk-init : goal.loop-walk-init
loop-walk-init c =
    let its : IsFile c.args.file.now =
    its_file c.form_tails_are_one.ensures.all c.tails_go_on.ensures.files c.tails_go_on.ensures.start
    c.args.file.now in
    record {
      its = its;
      so_far = rw c.start-walk.ensures
          (none_put c.files_are_paged.ensures c.args.file.now its c.args.options.now c.in_ok-output.output
          c.in_ok-output.ensures);
    }

pub put_last_row-requires-clause-upcoming : goal.put_last_row-requires-clause-upcoming
put_last_row-requires-clause-upcoming c =
    let so_far = c.loop-walk.invariant.so_far in
    let next = rw (c.in-Ok-Some.is, c.in-Ok-Some.field-0-is) at c.next_row.follows.holds-at-none in
    (next.0, part _ _ _ _ _ so_far _ next.0 next.1, upcoming_row _ _ _ _ _ so_far _ next.0 next.1)

pub loop-walk-preserved : goal.loop-walk-preserved
loop-walk-preserved c =
    let so_far = c.loop-walk.invariant.so_far in
    let next = rw (c.in-Ok-Some.is, c.in-Ok-Some.field-0-is) at c.next_row.follows.holds-at-none in
    record {
      its = c.loop-walk.invariant.its;
      so_far = one_put _ _ _ _ _ so_far _ next.0 next.1 _
          (c.in_ok-put_last_row-in-Ok-Some.ensures next.0 _ (upcoming_row _ _ _ _ _ so_far _ next.0 next.1));
    }

pub returns-in-Ok-None-clause-ok : goal.returns-in-Ok-None-clause-ok
returns-in-Ok-None-clause-ok c =
    let so_far = c.loop-walk.invariant.so_far in
    let next = rw (c.in-Ok-None.is, c.in-Ok-None.field-0-is) at c.next_row.follows.holds-at-none in
    let written = all_written _ _ _ _ _ so_far c.requires next.0 in
    if_ok c.finish.result (converted _ _ _ (source _ _ _ _ _ so_far c.requires next.0) written) c.finish.ensures.ok

pub returns-in-Ok-None-clause-err : goal.returns-in-Ok-None-clause-err
returns-in-Ok-None-clause-err c =
    let so_far = c.loop-walk.invariant.so_far in
    let next = rw (c.in-Ok-None.is, c.in-Ok-None.field-0-is) at c.next_row.follows.holds-at-none in
    let written = all_written _ _ _ _ _ so_far c.requires next.0 in
    if_err c.finish.result (λ fault large other. refused _ _ _ (source _ _ _ _ _ so_far c.requires next.0) written
    fault large) c.finish.ensures.err

pub returns-in-Err-clause-err : goal.returns-in-Err-clause-err
returns-in-Err-clause-err c =
    let next = rw c.in-Err.is at c.next_row.follows.holds-at-none in
    rw c.source_fault.ensures (final_end _ _ _ _ _ c.loop-walk.invariant.so_far _ c.in-Err.fault c.requires next)
