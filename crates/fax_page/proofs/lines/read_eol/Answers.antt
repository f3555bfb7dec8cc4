use Rattle.std.proofs.Common.{◌+◌, Bool, List, drop, refl, ap, ◌∙◌, subst, inl, inr, sym}
use Rattle.fax_bits.specs.views.Source.{Source, HasLeadingZeros}
use Rattle.fax_bits.specs.Bits.{IsAllZeros}
use Rattle.fax_page.proofs.StartLaws.{code_at, eol_at, none_at}
use Rattle.fax_page.proofs.StartLemmas.{eol_before}
use Rattle.fax_page.proofs.lines.read_eol.Goals as goal

pub returns-in-Some-clause-ok : goal.returns-in-Some-clause-ok
returns-in-Some-clause-ok c =
    let zeros = c.in-Some.zeros in
    let same = c.if-skip_zeros_and_one.ensures.unchanged refl in
    inl
    (eol_before c.args.source.now.remaining c.skip.new.self.remaining zeros c.if-zeros-ge-EOL_ZEROS.true
    (subst (λ (b : List Bool). HasLeadingZeros b zeros) same c.in-Some.ensures)
    (ap (λ (s : Source). s.remaining) c.skip.ensures ∙ ap (λ (b : List Bool). drop (zeros + 1) b) same))

pub returns-then-skip_zeros_and_one-clause-ok : goal.returns-then-skip_zeros_and_one-clause-ok
returns-then-skip_zeros_and_one-clause-ok c =
    let past = c.if-skip_zeros_and_one.ensures.past refl in inl (eol_at _ _ past.0 past.1 past.2)

pub returns-in-None-clause-err : goal.returns-in-None-clause-err
returns-in-None-clause-err c =
    let same = c.if-skip_zeros_and_one.ensures.unchanged refl in
    inl (none_at _ (subst IsAllZeros same c.in-None.ensures), refl)

pub returns-in-Some-2-clause-ok : goal.returns-in-Some-2-clause-ok
returns-in-Some-2-clause-ok c =
    let same = c.if-skip_zeros_and_one.ensures.unchanged refl in
    let ahead = c.in-Some.ensures in
    inr (c.if-may_lack.true, code_at _ ahead.0 _ c.if-zeros-ge-EOL_ZEROS.false (sym same ∙ ahead.1), sym same)

pub returns-in-Some-3-clause-err : goal.returns-in-Some-3-clause-err
returns-in-Some-3-clause-err c =
    let same = c.if-skip_zeros_and_one.ensures.unchanged refl in
    let ahead = c.in-Some.ensures in
    inr (c.if-may_lack.false, code_at _ ahead.0 _ c.if-zeros-ge-EOL_ZEROS.false (sym same ∙ ahead.1), refl)
