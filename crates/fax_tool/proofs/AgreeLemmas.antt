-- What the entries of a parse give is what the uses give that the words make.
use Rattle.std.proofs.Common.{arith, ◌≡◌, ◌∙◌, ap, inl, inr, refl, sym, List}
use Rattle.std.specs.Prelude.{option_and_then}
use Rattle.clap.specs.Walk.{Row}
use Rattle.fax_tool.specs.Grammar.{Text, Use, text_in}
use Rattle.fax_tool.specs.Job.{HasNoTarget, IsCommand, IsNoUse, says_how, target_in, target_of}
use Rattle.fax_tool.specs.code.CommandEntries.{given_by}
use Rattle.fax_tool.specs.declared.args.Command.{Command}
use Rattle.fax_tool.proofs.WordReadLemmas.{Agrees}

module _ (entries : List Row) (uses : List Use) (agrees : Agrees entries uses) where
  pub command_agrees : (name : Text) (command : Command) → IsCommand name (given_by entries) command
      → IsCommand name (text_in uses) command
  command_agrees name command is = grind arith

-- words that are no use of a command by their entries are none by their uses
pub no_use_agrees : (entries : List Row) (uses : List Use) → Agrees entries uses → (name : Text)
    → IsNoUse name (given_by entries) → IsNoUse name (text_in uses)
no_use_agrees entries uses agrees name is =
    elim is [
      | inl (named, none) ↦ inl (named, no_target none)
      | inr (named, none, some) ↦ inr (
        named,
        no_target none,
        λ nothing.
            some (agrees.target ∙ nothing.0, says ∙ nothing.1),
      )
    ]
  where
    target : target_in (given_by entries) ≡ target_in (text_in uses)
    target = ap (option_and_then target_of) agrees.target

    says : says_how (given_by entries) ≡ says_how (text_in uses)
    says = rw (agrees.order, agrees.k, agrees.strip, agrees.align) refl

    no_target : HasNoTarget (given_by entries) → HasNoTarget (text_in uses)
    no_target (inl none) = inl (sym target ∙ none)
    no_target (inr (aligned, inl pbm)) = inr (sym agrees.align ∙ aligned, inl (sym target ∙ pbm))
    no_target (inr (aligned, inr mmr)) = inr (sym agrees.align ∙ aligned, inr (sym target ∙ mmr))
