use Rattle.std.proofs.Common.{◌∙◌, inl, refl}
use Rattle.fax_c.proofs.RowsWrittenLemmas.{refused_at_once}
use Rattle.fax_c.proofs.PlaceLemmas.{start_cursor-origin_of, stays, takes_runs}
use Rattle.fax_c.specs.views.Places.{place_started}
use Rattle.fax_c.proofs.rows.fill_from.Goals as goal

pub returns-in_default : goal.returns-in_default
returns-in_default g c =
    let place = c.args.place.now in
    let runs = c.args.runs.now in
    let at = c.cursor-cursor.result in
    let stop = c.stop_at_refusal-stop.result in
    let begins = c.cursor-cursor.ensures ∙ start_cursor-origin_of place runs in
    let within = c.lacks_runs.ensures.has c.if-lacks_runs.false in
    inl (
      within,
      record { cursor = at; count = 0; used = 0; stop = stop },
      refused_at_once g.F.RowFormat.numbers c.args.file.now (place_started place runs) at c.args.rows.now c.args.out.now
          begins stop c.beginnings_have_one_tail.ensures (λ page. takes_runs c.args.file.now place runs
          c.in_default.ensures (rw c.cursor-cursor.ensures at page)) c.stop_at_refusal-stop.ensures,
      ((refl, refl), (λ none. refl), stays c.args.file.now place runs at (c.in_default.ensures, within)),
      rw c.nothing-in_default.ensures at c.fill_result-in_default.ensures,
    )

pub returns : goal.returns
returns g c =
    let filled = rw (c.begin-walk.ensures, c.in-Some.ensures) at c.fill.ensures.filled in
    let after = rw (c.begin-walk.ensures, c.in-Some.ensures) at c.fill.ensures.place in
    inl (c.lacks_runs.ensures.has c.if-lacks_runs.false, c.fill.result, filled, after, c.fill_result-2.ensures)
