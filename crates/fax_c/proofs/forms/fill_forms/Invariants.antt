use Rattle.std.proofs.Common.{◌-◌, length}
use Rattle.fax_walk.specs.laws.Tails.{CursorsHaveOneFormTail}
use Rattle.fax_c.proofs.FormsWrittenLemmas.{AreFormsWritten}
use Rattle.fax_c.proofs.forms.fill_forms.Given as goal

abbrev pub invariant-loop-count : goal.invariant-loop-count
invariant-loop-count l = record {
  law : CursorsHaveOneFormTail;
  so_far : AreFormsWritten l.initial.pages.file l.initial.pages.origin l.pages l.count l.initial.forms l.forms;
}

abbrev pub decreases-loop-count : goal.decreases-loop-count
decreases-loop-count l = length l.initial.forms - l.count
