use Rattle.fax_walk.proofs.ConversionLemmas.{converted, if_err, if_ok, refused}
use Rattle.fax_walk.proofs.ImageLemmas.{all_taken, at, source, stopped}
use Rattle.fax_walk.proofs.image_conversion.ImageConversion.finish.Goals as goal

pub returns-in_default-None-clause-ok : goal.returns-in_default-None-clause-ok
returns-in_default-None-clause-ok c = if_ok c.finish.result (λ new finishes before is begins.
    let final_end = c.in_ok-take_whole.ensures in
    let remaining = rw c.in_default-None.is-1 at final_end.fault.remaining in
    let so_far = all_taken before c.args.rest.now _ _ _ _ (final_end.so_far before is) remaining in
    rw (← final_end.options) (converted _ (at _ _ _ _ so_far) _ (source _ _ _ _ so_far begins) so_far.written new
    finishes))
    c.finish.ensures.ok

pub returns-in_default-None-clause-err : goal.returns-in_default-None-clause-err
returns-in_default-None-clause-err c = if_err c.finish.result (λ fault large other before is begins.
    let final_end = c.in_ok-take_whole.ensures in
    let remaining = rw c.in_default-None.is-1 at final_end.fault.remaining in
    let so_far = all_taken before c.args.rest.now _ _ _ _ (final_end.so_far before is) remaining in
    rw (← final_end.options) (refused _ (at _ _ _ _ so_far) _ (source _ _ _ _ so_far begins) so_far.written fault
    large))
    c.finish.ensures.err

pub returns-in_default-Some-clause-err : goal.returns-in_default-Some-clause-err
returns-in_default-Some-clause-err c = λ other before is begins.
    let final_end = c.in_ok-take_whole.ensures in
    let remaining = rw c.in_default-Some.is-1 at final_end.fault.remaining in
    stopped before c.args.rest.now _ _ _ _ (final_end.so_far before is) _ remaining.0 remaining.1 begins
