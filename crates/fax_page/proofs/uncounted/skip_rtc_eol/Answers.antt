use Rattle.std.proofs.Common.{rules, ◌++◌, length, sym, ◌∙◌, ap}
use denote.Enum.Bare.{same_false, same_true}
use Rattle.fax_page.specs.contracts.StripFault.{the_type}
use Rattle.fax_page.proofs.EndLemmas.{one_bit}
use Rattle.fax_page.proofs.MarkLemmas.{cut_before, cut_tag, no_bits, other_before, other_tag, whole_tag}
use Rattle.fax_page.proofs.uncounted.skip_rtc_eol.Goals as goal

pub returns-then-eq : goal.returns-then-eq
returns-then-eq c =
    cut_before _ _ c.read_eol.new.source.remaining _ c.requires.with_eols c.in-Err.ensures.err
    (same_true the_type (search rules) _ _ (sym c.if-eq.ensures))

pub returns-else-eq : goal.returns-else-eq
returns-else-eq c =
    other_before _ _ c.read_eol.new.source.remaining _ c.in-Err.ensures.err (same_false the_type _ _ (sym
    c.if-eq.ensures))

pub returns-in-Mr : goal.returns-in-Mr
returns-in-Mr c =
    whole_tag _ _ _ _ c.in-Mr.is c.in_default.ensures.ok
    (c.if-take.ensures.taken ∙ ap (λ b. b ++ c.take.new.self.remaining) one_bit)

pub returns-in-Mr-2 : goal.returns-in-Mr-2
returns-in-Mr-2 c =
    let none = no_bits c.take.new.self.remaining (sym c.remaining.ensures ∙ c.if-remaining-eq0.true) in
    cut_tag _ _ _ c.take.new.self.remaining c.in-Mr.is c.in_default.ensures.ok (sym c.if-take.ensures.taken.0 ∙ none)

pub returns-in-Mr-3 : goal.returns-in-Mr-3
returns-in-Mr-3 c =
    let same = c.if-take.ensures.taken.0 in
    other_tag _ _ _ c.take.new.self.remaining c.in-Mr.is c.in_default.ensures.ok
    (λ none. c.if-remaining-eq0.false (c.remaining.ensures ∙ ap (λ b. length b) (same ∙ none)))
    (λ more is. c.if-take.ensures.taken.1 (more, is ∙ ap (λ b. b ++ more) (sym one_bit)))
