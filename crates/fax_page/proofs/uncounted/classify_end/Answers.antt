use Rattle.std.proofs.Common.{◌∙◌, ap, sym, true, false}
use Rattle.fax_page.specs.Uncounted.{end_by_stop}
use Rattle.fax_page.proofs.EndGraph.{mark_of, marked_end, no_mark, unmarked_end}
use Rattle.fax_page.proofs.uncounted.classify_end.Goals as goal

pub returns-in-Some : goal.returns-in-Some
returns-in-Some c =
    sym (marked_end c.args.coding c.args.rows c.args.source.now.remaining c.args.fault
    (mark_of c.args.coding c.args.source.now.remaining (c.in-Some._after.remaining, c.in-Some.ensures)))

pub returns-then-has_data_end : goal.returns-then-has_data_end
returns-then-has_data_end c =
    let unmarked = no_mark c.args.coding c.args.source.now.remaining (λ mark. c.in_default.ensures mark.0 mark.1) in
    sym (unmarked_end c.args.coding c.args.rows c.args.source.now.remaining c.args.fault true unmarked
    (sym c.has_data_end.ensures ∙ c.if-has_data_end.true))

pub returns-in-Some-fault : goal.returns-in-Some-fault
returns-in-Some-fault c =
    let unmarked = no_mark c.args.coding c.args.source.now.remaining (λ mark. c.in_default.ensures mark.0 mark.1) in
    sym (unmarked_end c.args.coding c.args.rows c.args.source.now.remaining c.args.fault false unmarked
    (sym c.has_data_end.ensures ∙ c.if-has_data_end.false) ∙ ap end_by_stop c.in-Some-fault.is)

pub returns-in-None : goal.returns-in-None
returns-in-None c =
    let unmarked = no_mark c.args.coding c.args.source.now.remaining (λ mark. c.in_default.ensures mark.0 mark.1) in
    sym (unmarked_end c.args.coding c.args.rows c.args.source.now.remaining c.args.fault false unmarked
    (sym c.has_data_end.ensures ∙ c.if-has_data_end.false) ∙ ap end_by_stop c.in-None.is)
