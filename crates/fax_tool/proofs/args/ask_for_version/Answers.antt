use Rattle.std.proofs.Common.{◌≡◌, ◌∙◌, ◌<◌, ◌≤◌, ap, arith, codes, get_or, length, sym, true, List, [], ◌∷◌}
use Rattle.std.specs.Borrow.{Bor}
use Rattle.std.specs.Str.{bytes_eq}
use Rattle.std.proofs.lemmas.Slice.Eq.{bytes_eq-Decides}
use Rattle.fax_tool.specs.Grammar.{AskForVersion, Text, texts}
use Rattle.fax_tool.proofs.args.ask_for_version.Goals as goal

-- two words, of which the second is this
asked : (words : List (Bor Text)) (none : Bor Text) → 2 ≤ length words → length words < 3
    → bytes_eq (get_or words 1 none).now (codes "--version") ≡ true → AskForVersion (texts words)
asked [] none some few is = absurd (omega (arith, some))
asked (a ∷ []) none some few is = absurd (omega (arith, some))
asked (a ∷ b ∷ []) none some few is =
    (a.now, ap (λ (word : Text). a.now ∷ word ∷ []) ((bytes_eq-Decides b.now (codes "--version")).0 is))
asked (a ∷ b ∷ c ∷ words) none some few is = absurd (omega (arith, few))

pub returns-in-len2-clause-some : goal.returns-in-len2-clause-some
returns-in-len2-clause-some c = λ yes.
    asked c.args.words.now _ c.in-len2.len_at_least c.in-len2.len_below (sym c.eq.ensures ∙ yes)
