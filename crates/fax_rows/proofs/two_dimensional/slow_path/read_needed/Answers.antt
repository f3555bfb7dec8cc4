use Rattle.std.proofs.Common.{List, ℕ, inl, inr, subst, ap, sym, ◌∙◌}
use Rattle.fax_bits.specs.Reading.{map_fault, failed}
use Rattle.fax_rows.specs.ReadRows.{row_fault}
use Rattle.fax_bits.specs.declared.mode_codes.ModeCode.TheVariants.{Horizontal}
use Rattle.fax_rows.specs.declared.RowFault.{RowFault}
use Rattle.fax_rows.specs.code.CodingState.{coding_position}
use Rattle.fax_rows.specs.code.ChangingElements.{element_pels}
use Rattle.fax_rows.specs.code.RowFaults.{IsHorizontalFault}
use Rattle.fax_rows.proofs.ChosenStepLemmas.{map_ok}
use Rattle.fax_rows.proofs.ReadOnLemmas.{pair_read}
use Rattle.fax_rows.proofs.RowStopLemmas.{stops_as}
use Rattle.fax_rows.proofs.two_dimensional.slow_path.read_needed.Goals as goal

pub returns-in-Runs-clause-read : goal.returns-in-Runs-clause-read
returns-in-Runs-clause-read g c b is =
    let needed = rw c.in-Runs.is at is in
    map_ok c.horizontal_by_table-in-Runs.result (c.horizontal_by_table-in-Runs.ensures.read needed.0 needed.2)
    (λ next read. pair_read c.requires.inside needed.1 read)

pub returns-in-Err-NeedsTable-clause-read : goal.returns-in-Err-NeedsTable-clause-read
returns-in-Err-NeedsTable-clause-read g c b is =
    let stop = c.in-Err-NeedsTable.ensures.stop c.args.source.now.remaining c.in-Ok.ensures.ok in
    let needed = rw c.in-Err-NeedsTable.field-0-is at stop in
    rw (rw c.in-Mode.is at is) (map_ok c.horizontal_by_table.result
    (rw needed.0 at (c.horizontal_by_table.ensures.read needed.1.read.0 needed.1.read.2))
    (λ next read. pair_read c.requires.inside needed.1.read.1 read))

pub returns-in-Err-NeedsTable-clause-stop : goal.returns-in-Err-NeedsTable-clause-stop
returns-in-Err-NeedsTable-clause-stop g c b is =
    let stop = c.in-Err-NeedsTable.ensures.stop c.args.source.now.remaining c.in-Ok.ensures.ok in
    let needed = rw c.in-Err-NeedsTable.field-0-is at stop in
    let fault_at = λ (changes : List ℕ) (fault : RowFault). IsHorizontalFault (element_pels c.args.reference)
    (coding_position c.args.reference.width changes c.args.at) needed.1.read.0 fault in
    rw (rw c.in-Mode.is at is) (stops_as _ c.horizontal_by_table.result
    (c.horizontal_by_table.ensures.err needed.1.read.0 needed.1.read.2) (λ fault is.
    inr (Horizontal, needed.1.read.0, needed.1.read.1, subst (λ changes. fault_at changes fault) needed.0 is)))

pub returns-in-Err-clause-stop : goal.returns-in-Err-clause-stop
returns-in-Err-clause-stop g c b is =
    let same = rw c.in-Mode.is at is in
    rw same (inl (ap (map_fault row_fault) c.in-Err.ensures.read ∙ ap (λ f. failed f) (sym c.from.ensures)))
