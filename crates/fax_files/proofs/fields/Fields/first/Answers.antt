use Rattle.std.proofs.Common.{arith}
use Rattle.fax_files.proofs.FieldLemmas.{entry_inside}
use Rattle.fax_files.proofs.fields.Fields.first.Goals as goal

pub returns-clause-inside : goal.returns-clause-inside
returns-clause-inside c =
    let directory = c.self.inside.directory.now in
    rw (← c.self.view_is)
    (entry_inside directory.endian directory.file _ _ c.args.tag c.first.result
    (omega (arith, c.self.invariant.whole)) (c.first.ensures _ c.self.invariant.are_first))
