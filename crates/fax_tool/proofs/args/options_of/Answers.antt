use Rattle.std.proofs.Common.{◌≡◌, ◌∙◌, ◌<◌, ⊎_elim, ap, codes, inl, inr, lit<, lit≤, sym, true}
use Rattle.std.specs.Prelude.{Some, unwrap_or}
use Rattle.clap.specs.Matches.{found_of}
use Rattle.fax_walk.specs.declared.options.Target.TheVariants.{Mmr, Pbm}
use Rattle.fax_tool.specs.code.CommandEntries.{entries_of, given_by}
use Rattle.fax_tool.specs.Job.{is_set, number_in, target_in}
use Rattle.fax_tool.proofs.EntryReadLemmas.{flag_read, in_range, in_range_or, u32_read}
use Rattle.fax_tool.proofs.args.options_of.Goals as goal
use Rattle.fax_tool.proofs.args.options_of.Goals.{After-get_flag-aligned, After-get_one-2}
use Rattle.fax_tool.proofs.args.options_of.Goals.{else-aligned-via-then-aligned+else-not-has_eols}
use Rattle.fax_tool.proofs.args.options_of.Goals.{else-aligned-via-else-aligned}

target_named : (c : After-get_flag-aligned) → target_in (given_by (entries_of c.args.matches.now))
    ≡ Some c.in_ok-target.target
target_named c = sym c.target_of.ensures ∙ c.in_ok-target.was

flag : (c : After-get_flag-aligned) → c.get_flag-aligned.result
    ≡ is_set (codes "align") (given_by (entries_of c.args.matches.now))
flag c =
    flag_read (found_of c.args.matches.now) (codes "align") c.get_flag-aligned.result c.requires.align
    c.get_flag-aligned.ensures.none c.get_flag-aligned.ensures.value c.get_flag-aligned.ensures.other

pub returns-then-not-has_eols-clause-none : goal.returns-then-not-has_eols-clause-none
returns-then-not-has_eols-clause-none c is =
    let at = (goal.at.returns-then-not-has_eols-clause-none c).After-get_flag-aligned in
    inr (
      sym (flag at) ∙ c.if-aligned.true,
      ⊎_elim (λ pbm. inl (target_named at ∙ ap Some pbm)) (λ mmr. inr (target_named at ∙ ap Some mmr))
          (c.has_eols.ensures.none c.if-not-has_eols.true),
    )

k_read : (c : After-get_one-2) → c.get_one.result ≡ number_in (codes "k") (given_by (entries_of c.args.matches.now))
k_read c =
    u32_read (found_of c.args.matches.now) (codes "k") 1000000 c.get_one.result c.requires.k (lit< tt)
    c.get_one.ensures.none c.get_one.ensures.value

strip_read : (c : After-get_one-2) → c.get_one-2.result ≡ number_in (codes "strip")
    (given_by (entries_of c.args.matches.now))
strip_read c =
    u32_read (found_of c.args.matches.now) (codes "strip") 1000000 c.get_one-2.result c.requires.strip (lit< tt)
    c.get_one-2.ensures.none c.get_one-2.ensures.value

has_eols : (c : After-get_one-2) → c.get_flag-aligned.result ≡ true
    → (c.in_ok-target.target ≡ Pbm → ⊥) × (c.in_ok-target.target ≡ Mmr → ⊥)
has_eols c aligned = elim c.else-aligned.branch [
  | else-aligned-via-then-aligned+else-not-has_eols w ↦ w.has_eols.ensures.some w.if-not-has_eols.false
  | else-aligned-via-else-aligned w ↦ let none = w.if-aligned.false in cc
]

pub invariant_of-result : goal.invariant_of-result
invariant_of-result c =
    let k : 0 < unwrap_or (number_in (codes "k") (given_by (entries_of c.args.matches.now))) 4 =
    (in_range_or (codes "k") 1000000 4 (entries_of c.args.matches.now) c.requires.k (lit< tt) (lit≤ tt)).0 in
    record {
      some_k = rw (c.unwrap_or.ensures, k_read c) k;
      some_strip =
          λ n is. (in_range (codes "strip") 1000000 (entries_of c.args.matches.now) c.requires.strip n
          (sym (strip_read c) ∙ is)).0;
      aligned_is_no_pbm = λ aligned. (has_eols c aligned).0;
      aligned_is_no_mmr = λ aligned. (has_eols c aligned).1;
    }

pub returns-clause-some : goal.returns-clause-some
returns-clause-some c =
    let at = (goal.at.returns-clause-some c).After-get_flag-aligned in
    let after = (goal.at.returns-clause-some c).After-get_one-2 in
    record {
      target = target_named at;
      order = c.order_of.ensures;
      k = c.unwrap_or.ensures ∙ ap (λ o. unwrap_or o 4) (k_read after);
      strip = strip_read after;
      aligned = flag at;
    }
