use Rattle.std.proofs.Common.{◌≡◌, ◌∙◌, codes, inr, refl, sym, true, false, Option, Some, None, is_some}
use Rattle.clap.specs.Matches.{found_of}
use Rattle.fax_tool.proofs.GetterLemmas.{none_given, text_given}
use Rattle.fax_tool.proofs.args.salvage_of.Goals as goal
use Rattle.fax_tool.proofs.args.salvage_of.Goals.{else-is_none-via-then-is_none+else-not-have_options}
use Rattle.fax_tool.proofs.args.salvage_of.Goals.{else-is_none-via-else-is_none}

unset : {A : Type 0} (o : Option A) → is_some o ≡ false → o ≡ None
unset None is = refl
unset (Some value) is = cc

set : {A : Type 0} (o : Option A) → is_some o ≡ true → (value : A) × (o ≡ Some value)
set None is = cc
set (Some value) is = (value, refl)

pub returns-then-not-have_options-clause-some : goal.returns-then-not-have_options-clause-some
returns-then-not-have_options-clause-some c =
    let none = none_given (found_of c.args.matches.now) (codes "o") _ c.get_str.ensures
    (unset c.get_str.result (rw (c.is_none.ensures, c.if-is_none.true) refl)) in
    (refl, (none, sym c.have_options.ensures ∙ c.if-not-have_options.true))

pub returns-in_err-options_of-clause-none : goal.returns-in_err-options_of-clause-none
returns-in_err-options_of-clause-none c = λ is.
    inr (
      refl,
      c.options_of.ensures.none c.in_err-options_of.was,
      λ nothing. elim c.else-is_none.branch [
        | else-is_none-via-then-is_none+else-not-have_options w ↦
            let both = sym w.if-not-have_options.false ∙ w.have_options.ensures ∙ nothing.1 in cc
        | else-is_none-via-else-is_none w ↦
            let text = set c.get_str.result (rw (c.is_none.ensures, w.if-is_none.false) refl) in
            let given = text_given (found_of c.args.matches.now) (codes "o") _ text.0 c.get_str.ensures text.1 in
            let both = sym nothing.0 ∙ given in cc
      ],
    )
