use Rattle.std.proofs.Common.{◌+◌, ◌-◌, ◌<◌, length, take, drop, ap, sym, subst, ◌∙◌, arith}
use Rattle.std.proofs.lemmas.List.{length-take-le}
use Rattle.fax_rows.specs.code.LongestRuns.{gaps, runs_between, AreBounds}
use Rattle.fax_rows.proofs.LongestRunLemmas.{row_bounds, are_bounds}
use Rattle.fax_rows.proofs.PlacedRowLemmas.{changes_are, end_within, width_is}
use Rattle.fax_rows.proofs.RowRunLemmas.{ahead_of_row, ends_are, gaps_are_runs}
use Rattle.fax_rows.proofs.longest_runs.LongestRuns.of_row.Goals as goal

pub returns : goal.returns
returns c =
    let changes = c.row.inside.changes.items in
    let end = c.row.inside.end in
    let width = c.row.inside.width in
    let some : 0 < length changes = omega (arith, c.row.invariant.room) in
    rw c.deref.ensures.value
    (ap runs_between (row_bounds changes end some c.row.invariant.ascending.first)
    ∙ ap (gaps 0) (ends_are c.row.invariant)
    ∙ gaps_are_runs c.args.row.now (take (end - 1) (drop 1 changes)) width
    (changes_are c.row.invariant c.row.view_is)
    (width_is c.row.invariant c.row.view_is))

pub invariant_of-result : goal.invariant_of-result
invariant_of-result c =
    let changes = c.row.inside.changes.items in
    let end = c.row.inside.end in
    let some : 0 < length changes = omega (arith, c.row.invariant.room) in
    rw c.deref.ensures.value
    (subst AreBounds (sym (row_bounds changes end some c.row.invariant.ascending.first))
    (are_bounds (take end (drop 1 changes)) (ahead_of_row c.row.invariant)))

pub slice_bounds-result-end : goal.slice_bounds-result-end
slice_bounds-result-end c =
    sym (length-take-le (c.row.inside.end + 1) c.deref.result.now
    (omega (
      arith,
      c.deref.ensures.len,
      c.row.invariant.room,
      end_within c.row.invariant,
    )))
