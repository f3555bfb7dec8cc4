use Rattle.std.proofs.Common.{ℕ, take, arith, length-set}
use Rattle.std.specs.Prelude.{codes, flat_map}
use Rattle.fax_rows.specs.Rows.{runs_of}
use Rattle.fax_tool.specs.Text.{and_number, row_line_of}
use Rattle.fax_tool.proofs.NumberTextLemmas.{line_is, one, three}
use Rattle.fax_tool.proofs.text.row_line.write_line.Goals as goal

pub returns-clause-written : goal.returns-clause-written
unfolding row_line_of
returns-clause-written c =
    line_is (take c.args.at c.args.bytes.now) (codes "row") (and_number c.args.place.page) (and_number c.args.place.row)
    (flat_map and_number (runs_of c.args.row.now)) (codes "\n") _ _ _ _ _
    (three c.args.bytes.now c.args.at 114 111 119 (omega arith))
    c.write_number-page_end.ensures.written c.write_number-row_end.ensures.written c.write_runs-end.ensures.written
    (one c.write_runs-end.new.bytes c.write_runs-end.result 10
    (omega (arith, length-set {A = ℕ})))
