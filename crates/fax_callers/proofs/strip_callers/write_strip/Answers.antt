use Rattle.std.proofs.Common.{◌∷◌, [], ◌++◌, take, sym, ap, ◌∙◌, subst}
use Rattle.std.specs.Prelude.{Result, Ok, Err, IfOk}
use Rattle.std.proofs.lemmas.List.{take_more, take_all}
use Rattle.fax_page.specs.laws.Writer.{HasPut}
use Rattle.fax_callers.proofs.strip_callers.write_strip.Goals as goal

if_ok-weaker : {T E : Type 0} {P Q : T → Type 0} (r : Result T E) → ((v : T) → P v → Q v) → IfOk r P → IfOk r Q
if_ok-weaker (Ok v) more holds = more v holds
if_ok-weaker (Err e) more holds = tt

pub loop-row-init : goal.loop-row-init
loop-row-init c = c.in_ok-writer.ensures ∙ c.strips_are_written_row_by_row.ensures.begins c.args.form c.args.k

pub loop-row-preserved : goal.loop-row-preserved
loop-row-preserved c =
    let rows = c.args.rows.now in
    let i = c.loop-row.row-index in
    let row = c.row-item.result in
    let more = take_more rows i row c.loop-row-test.true ∙ ap (λ r. take i rows ++ r ∷ []) (sym c.row-item.is) in
    subst (λ them. HasPut c.args.form c.args.k them c.put_row.new.self) (sym more)
    (c.strips_are_written_row_by_row.ensures.goes_on c.args.form c.args.k (take i rows) row c.loop-row.writer
    c.put_row.new.self
    c.loop-row.invariant c.in_ok-put_row.ensures)

pub returns : goal.returns
returns c =
    let rows = c.args.rows.now in
    let all = take_all c.loop-row.row-index rows c.loop-row-test.false in
    let put = subst (λ them. HasPut c.args.form c.args.k them c.loop-row.writer) all c.loop-row.invariant in
    if_ok-weaker c.finish.result
    (λ bytes ends. c.strips_are_written_row_by_row.ensures.finishes c.args.form c.args.k rows c.loop-row.writer
    bytes.items put ends)
    c.finish.ensures
