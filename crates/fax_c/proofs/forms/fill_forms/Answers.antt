use Rattle.std.proofs.Common.{arith}
use Rattle.fax_c.proofs.FormsWrittenLemmas.{all_asked, ended, none_written, one_more}
use Rattle.fax_c.proofs.forms.fill_forms.Goals as goal

pub loop-count-init : goal.loop-count-init
loop-count-init c = record {
  law = c.form_tails_are_one.ensures.one;
  so_far = none_written c.args.pages.now c.args.forms.now c.form_tails_are_one.ensures.one c.requires;
}

pub loop-count-preserved : goal.loop-count-preserved
loop-count-preserved c =
    let item = c.in-Ok.ensures.0 in
    record {
      law = c.loop-count.invariant.law;
      so_far = rw (c.of.ensures, c.in-Ok.ensures.2) (one_more c.loop-count.invariant.law c.loop-count.invariant.so_far
          c.next_form.new.pages item (omega (arith, c.loop-count-test.true)) c.in-Ok.ensures.1);
    }

pub returns-in-Err : goal.returns-in-Err
returns-in-Err c =
    ended c.loop-count.invariant.law c.loop-count.invariant.so_far c.in-Err.end c.next_form.new.pages
    c.cursor-cursor.result (omega (arith, c.loop-count-test.true)) c.in-Err.ensures c.cursor-cursor.ensures

pub returns : goal.returns
returns c =
    all_asked c.loop-count.invariant.law c.loop-count.invariant.so_far c.cursor.result
    (omega (arith, c.loop-count-test.false)) c.cursor.ensures
