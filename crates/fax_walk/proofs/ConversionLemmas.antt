-- What the output of all pages of a source is.
use Rattle.std.proofs.Common.{List, ℕ, arith, Result, Ok, Err}
use Rattle.std.specs.Prelude.{IfErr, IfOk}
use Rattle.fax_walk.specs.declared.options.ConvertFault.{ConvertFault}
use Rattle.fax_walk.specs.declared.output.Output.{Output}
use Rattle.fax_walk.specs.Converted.{IsConverted, IsNotConverted, IsSource}
use Rattle.fax_walk.specs.code.Output.{FinishesAs, IsRefusedAs}
use Rattle.fax_walk.specs.views.Converting.{IsWrittenTo, Progress}

-- what follows from an answer
pub if_ok : {A E : Type 0} {P Q : A → Type 0} (result : Result A E) → ((x : A) → P x → Q x) → IfOk result P
    → IfOk result Q
if_ok (Ok x) follows holds = follows x holds
if_ok (Err e) follows holds = holds

pub if_err : {A E : Type 0} {P Q : E → Type 0} (result : Result A E) → ((e : E) → P e → Q e) → IfErr result P
    → IfErr result Q
if_err (Ok x) follows holds = holds
if_err (Err e) follows holds = follows e holds

module _ (bytes : List ℕ) (at : Progress) (output : Output) (source : IsSource bytes at.pages)
    (written : IsWrittenTo output at) where
  pub converted : (new : List ℕ) → FinishesAs output new → IsConverted bytes at.options new
  converted new finishes = grind arith

  pub refused : (fault : ConvertFault) → IsRefusedAs output fault → IsNotConverted bytes at.options fault
  refused fault large = grind arith
