use Rattle.std.proofs.Common.{◌≡◌, ◌∙◌, ◌||◌, arith, codes, lit<, refl, sym, true, false, Bool, is_some}
use Rattle.clap.specs.Matches.{found_of}
use Rattle.fax_tool.specs.code.CommandEntries.{entries_of, given_by}
use Rattle.fax_tool.specs.Job.{is_set, number_in, says_how}
use Rattle.fax_tool.proofs.EntryReadLemmas.{flag_read, u32_read}
use Rattle.fax_tool.proofs.args.have_options.Goals as goal
use Rattle.fax_tool.proofs.args.have_options.Goals.{After-get_flag-aligned, then-is_some, else-is_some}
use Rattle.fax_tool.proofs.args.have_options.Goals.{then-is_some-2, else-is_some-2}

-- one of four is set
abbrev any_of : Bool → Bool → Bool → Bool → Bool
any_of order k strip align = order || (k || (strip || align))

-- where the first three are put together
some_set : (order k strip align two three : Bool) → two ≡ (order || k) → three ≡ (two || strip) → three ≡ true
    → three ≡ any_of order k strip align
some_set order k strip align two three first second is = grind arith

none_set : (order k strip align two three : Bool) → two ≡ (order || k) → three ≡ (two || strip) → three ≡ false
    → align ≡ any_of order k strip align
none_set order k strip align two three first second is = grind arith

-- what was read is what is given
all_read : (c : After-get_flag-aligned)
    → any_of (is_some c.get_one-order.result) (is_some c.get_one-k.result) (is_some c.get_one-strip.result)
    c.get_flag-aligned.result ≡ says_how (given_by (entries_of c.args.matches.now))
all_read c =
    let found = found_of c.args.matches.now in
    let entries = given_by (entries_of c.args.matches.now) in
    let order : c.get_one-order.result ≡ number_in (codes "order") entries =
    u32_read found (codes "order") 2 c.get_one-order.result c.requires.order (lit< tt) c.get_one-order.ensures.none
    c.get_one-order.ensures.value in
    let k : c.get_one-k.result ≡ number_in (codes "k") entries =
    u32_read found (codes "k") 1000000 c.get_one-k.result c.requires.k (lit< tt) c.get_one-k.ensures.none
    c.get_one-k.ensures.value in
    let strip : c.get_one-strip.result ≡ number_in (codes "strip") entries =
    u32_read found (codes "strip") 1000000 c.get_one-strip.result c.requires.strip (lit< tt)
    c.get_one-strip.ensures.none c.get_one-strip.ensures.value in
    let align : c.get_flag-aligned.result ≡ is_set (codes "align") entries =
    flag_read found (codes "align") c.get_flag-aligned.result c.requires.align c.get_flag-aligned.ensures.none
    c.get_flag-aligned.ensures.value c.get_flag-aligned.ensures.other in
    rw (order, k, strip, align) refl

pub returns-then-is_some-3 : goal.returns-then-is_some-3
returns-then-is_some-3 c =
    let at = (goal.at.returns-then-is_some-3 c).After-get_flag-aligned in
    let two : c.if-is_some.value ≡ (is_some c.get_one-order.result || is_some c.get_one-k.result) =
    elim c.if-is_some.branch [
      | then-is_some w ↦ let set = sym c.is_some.ensures ∙ w.if-is_some.true in rw (w.value-is, set) w.if-is_some.true
      | else-is_some w ↦ let unset = sym c.is_some.ensures ∙ w.if-is_some.false in
          rw (w.value-is, unset) w.is_some-else-is_some.ensures
    ] in
    let three : c.if-is_some-2.value ≡ (c.if-is_some.value || is_some c.get_one-strip.result) =
    elim c.if-is_some-2.branch [
      | then-is_some-2 w ↦ let set = w.if-is_some-2.true in rw (w.value-is, set) refl
      | else-is_some-2 w ↦ let unset = w.if-is_some-2.false in
          rw (w.value-is, unset) w.is_some-else-is_some-2.ensures
    ] in
    some_set (is_some c.get_one-order.result) (is_some c.get_one-k.result) (is_some c.get_one-strip.result)
    c.get_flag-aligned.result c.if-is_some.value c.if-is_some-2.value two three c.if-is_some-3.true ∙ all_read at

pub returns-else-is_some-3 : goal.returns-else-is_some-3
returns-else-is_some-3 c =
    let at = (goal.at.returns-else-is_some-3 c).After-get_flag-aligned in
    let two : c.if-is_some.value ≡ (is_some c.get_one-order.result || is_some c.get_one-k.result) =
    elim c.if-is_some.branch [
      | then-is_some w ↦ let set = sym c.is_some.ensures ∙ w.if-is_some.true in rw (w.value-is, set) w.if-is_some.true
      | else-is_some w ↦ let unset = sym c.is_some.ensures ∙ w.if-is_some.false in
          rw (w.value-is, unset) w.is_some-else-is_some.ensures
    ] in
    let three : c.if-is_some-2.value ≡ (c.if-is_some.value || is_some c.get_one-strip.result) =
    elim c.if-is_some-2.branch [
      | then-is_some-2 w ↦ let set = w.if-is_some-2.true in rw (w.value-is, set) refl
      | else-is_some-2 w ↦ let unset = w.if-is_some-2.false in
          rw (w.value-is, unset) w.is_some-else-is_some-2.ensures
    ] in
    none_set (is_some c.get_one-order.result) (is_some c.get_one-k.result) (is_some c.get_one-strip.result)
    c.get_flag-aligned.result c.if-is_some.value c.if-is_some-2.value two three c.if-is_some-3.false ∙ all_read at
