use Rattle.std.proofs.Common.{◌≡◌, ℕ, List, Some, sym, ap, subst, ◌∙◌, arith}
use Rattle.std.specs.Prelude.{slice_get}
use Rattle.fax_bits.specs.laws.Codes.{IsOne}
use Rattle.fax_walk.specs.declared.end.End.{End}
use Rattle.fax_walk.specs.declared.options.Options.{Options}
use Rattle.fax_walk.specs.declared.output.Output.{Output}
use Rattle.fax_walk.specs.declared.walk.LastRow.{LastRow}
use Rattle.fax_walk.specs.Items.{RowItem}
use Rattle.fax_walk.specs.laws.Tails.{BeginningsHaveOneTail}
use Rattle.fax_walk.specs.views.InOrder.{IsNumber}
use Rattle.fax_walk.specs.views.Walk.{IsItemNumber, WalkView}
use Rattle.fax_walk.specs.code.Output.{Part}
use Rattle.fax_walk.specs.code.Sources.{IsUpcomingItem, IsLentUpcoming}
use Rattle.fax_walk.specs.code.Walk.{IsLastOf}
use Rattle.fax_walk.proofs.OutputLemmas.{on_ok}
use Rattle.fax_walk.proofs.conversion.put_last_row.Goals as goal

one_number : {A : Type 0} {tail : List A → End → Type 0} → IsOne tail → (n : ℕ) (x y : A) → IsNumber tail n x
    → IsNumber tail n y → x ≡ y
one_number {A} only n x y (all, end, is, there) (all', end', is', there') =
    let same = (only.one all end is).0 ∙ sym (only.one all' end' is').0 in
    let both : Some x ≡ Some y = sym there ∙ ap (λ (l : List A). slice_get l n) same ∙ there' in
    cc

-- the row that is lent is the next one
lent_upcoming : BeginningsHaveOneTail → (options : Options) (walk : WalkView) (output : Output) (last : LastRow)
    → IsLastOf walk (Some last)
    → (item : RowItem) (part : Part) → IsUpcomingItem options walk output item part
    → IsLentUpcoming options output last part × (item.pels ≡ last.row.now)
lent_upcoming tails options walk output last (before, lent, yielded, number, is, form, limits) item part upcoming =
    let there = subst (λ (n : ℕ). IsItemNumber walk.file walk.origin n item) (omega (arith, yielded, upcoming.yielded))
    upcoming.number
    in
    let same : item ≡ lent = one_number (tails walk.file walk.origin) before item lent there number in
    let rows : item.row ≡ last.place.row = ap (λ (i : RowItem). i.row) same ∙ is.1 in
    let pels : item.pels ≡ last.row.now = ap (λ (i : RowItem). i.pels) same ∙ is.2 in
    let forms : item.form ≡ last.form.now = ap (λ (i : RowItem). i.form) same ∙ form in
    (record { sheet_is = rw forms at upcoming.sheet_is; upcoming = rw (rows, pels) at upcoming.upcoming }, pels)

pub put_lent-requires-clause-upcoming : goal.put_lent-requires-clause-upcoming
put_lent-requires-clause-upcoming c =
    let (item, part, is) = c.requires.upcoming in
    (part, (lent_upcoming c.beginnings_have_one_tail.ensures _ _ _ c.in-Some.last c.in-Some.ensures item part is).0)

pub returns : goal.returns
returns c = on_ok c.put_lent.result c.put_lent.ensures (λ puts item part is.
    let (lent, pels) = lent_upcoming c.beginnings_have_one_tail.ensures _ _ _ c.in-Some.last c.in-Some.ensures item part
    is
    in
    rw pels (puts part lent))
