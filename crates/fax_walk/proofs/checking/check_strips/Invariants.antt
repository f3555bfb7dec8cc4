use Rattle.std.proofs.Common.{◌≡◌, Bool}
use Rattle.fax_walk.specs.code.Check.{AreStripsChecked}
use Rattle.fax_walk.proofs.StripCheckLemmas.{IsPageToCheck}
use Rattle.fax_walk.proofs.checking.check_strips.Given as goal

abbrev pub invariant-loop-s : goal.invariant-loop-s
invariant-loop-s l = record {
  on : IsPageToCheck l.strips.directory l.form l.page;
  checked : (with_received : Bool) → AreStripsChecked with_received l.strips.directory l.form l.page l.s
      l.fn.notes.items l.notes.items;
  same_width : l.reader ≡ l.form.width;
}
