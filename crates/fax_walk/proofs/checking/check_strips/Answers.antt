use Rattle.std.proofs.Common.{◌≡◌, ◌∙◌, arith, subst, Ok}
use Rattle.fax_bits.specs.Bits.{bits}
use Rattle.fax_page.specs.declared.StripForm.{StripForm}
use Rattle.fax_page.specs.Strip.{noted}
use Rattle.std.proofs.lemmas.Result.{IfOk-weaker}
use Rattle.fax_walk.specs.declared.checking.PageRead.{PageRead}
use Rattle.fax_walk.proofs.StripCheckLemmas.{none_before, strip_after, all_read, strip_outside, row_inside, strip_fault}
use Rattle.fax_walk.proofs.checking.check_strips.Goals as goal

pub loop-s-init : goal.loop-s-init
loop-s-init c = record {
  on = record {
    by_place = c.bits_stand_by_index.ensures;
    lines_read = c.lines_are_read_in_one_way.ensures;
    limits = c.requires.limits;
    form_is = c.requires.form;
    here = c.requires.here;
  };
  checked = λ with_received. none_before with_received c.args.strips.now.directory c.args.form.now c.args.page
      c.args.notes.now.items;
  same_width = c.in_ok-reader.ensures;
}

pub returns-in-Err : goal.returns-in-Err
returns-in-Err c =
    rw c.in-Err.ensures.fault (λ with_received.
    strip_outside _ _ _ c.loop-s.invariant.on with_received _ _ _ c.loop-s-test.true
    (c.loop-s.invariant.checked with_received) c.in-Err.ensures.outside)

pub read_to-requires : goal.read_to-requires
read_to-requires c =
    row_inside _ _ _ c.loop-s.invariant.on c.loop-s.s c.in-Ok.bytes.now _ c.loop-s-test.true
    (rw c.strip_form.ensures.exact at c.in-Err-notes.ensures.err)

pub returns-in-Err-notes : goal.returns-in-Err-notes
returns-in-Err-notes c =
    IfOk-weaker c.read_to.result _ _
    (λ (read : PageRead) is with_received.
    strip_fault _ _ _ c.loop-s.invariant.on with_received _ _ _ _ _ read c.loop-s-test.true
    (c.loop-s.invariant.checked with_received) c.in-Ok.ensures.bytes
    (rw c.strip_form.ensures.exact at c.in-Err-notes.ensures.err) is)
    c.read_to.ensures

pub loop-s-preserved : goal.loop-s-preserved
loop-s-preserved c =
    let b = c.in-Ok.bytes.now in
    let found = c.in-Ok-notes.found in
    let noted_so = subst (λ (f : StripForm). noted f (bits f.order b) ≡ Ok found) c.strip_form.ensures.exact
    c.in-Ok-notes.ensures.ok in
    record {
      on = c.loop-s.invariant.on;
      checked = λ with_received.
          strip_after _ _ _ c.loop-s.invariant.on with_received _ _ _ _ c.in-Ok.bytes.now c.in-Ok-notes.found
          c.loop-s-test.true (c.loop-s.invariant.checked with_received) c.in-Ok.ensures.bytes noted_so
          c.in_ok-note_strip-in-Ok-notes.ensures;
      same_width = c.in-Ok-notes.ensures.same_width ∙ c.loop-s.invariant.same_width;
    }

pub returns : goal.returns
returns c = λ with_received.
    all_read _ _ _ c.loop-s.invariant.on with_received _ _ _ (omega arith) (c.loop-s.invariant.checked with_received)
