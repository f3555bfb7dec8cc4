use Rattle.std.proofs.Common.{◌∙◌, arith, rules}
use Prim.{search}
use Rattle.fax_rows.proofs.TurnLemmas.{length-pels_of_changes}
use Rattle.fax_rows.proofs.PlacedRowLemmas.{width_is}
use Rattle.fax_rows.proofs.PlacedB1Lemmas.{placed_width}
use Rattle.fax_rows.proofs.two_dimensional.read_row.Goals as goal

pub read_places-requires : goal.read_places-requires
read_places-requires g c =
    let own = width_is c.row.invariant c.row.view_is in
    let others = placed_width c.elements-reference.result c.args.reference.now c.elements-reference.ensures in
    record {
      room = record {
        len = omega (arith, c.as_mut_slice-changes.ensures.len, c.row.invariant.room, own, others);
        first = search rules;
      };
    }

pub returns-in-Ok-clause-same_width : goal.returns-in-Ok-clause-same_width
returns-in-Ok-clause-same_width g c = length-pels_of_changes c.row.inside.width _
    ∙ width_is c.row.invariant c.row.view_is

pub returns-in-Err-clause-same_width : goal.returns-in-Err-clause-same_width
returns-in-Err-clause-same_width g c = length-pels_of_changes c.row.inside.width _
    ∙ width_is c.row.invariant c.row.view_is
