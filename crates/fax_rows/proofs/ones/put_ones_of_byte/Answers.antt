use Rattle.std.proofs.Common.{◌-◌, ◌*◌, drop, sym, subst, arith}
use Rattle.std.proofs.lemmas.List.{take-take}
use Rattle.fax_rows.proofs.OnesTableLemmas.{byte_put, few_ones, has_ones, HasOnes}
use Rattle.fax_rows.specs.declared.ones.TheConstants.{PLACES}
use Rattle.fax_rows.proofs.ones.put_ones_of_byte.Goals as goal

pub returns-clause-put : goal.returns-clause-put
returns-clause-put c =
    let byte = c.args.byte in
    rw (c.from.ensures, c.from-at.ensures) (byte_put c.args.changes.now _ c.args.end _ c.args.from byte c.requires.room
    c.requires.short
    (subst (HasOnes byte _) (sym (take-take 8 (2048 - 8 * byte) (drop (8 * byte) PLACES) (omega arith)))
    (has_ones byte (omega arith))))

pub returns-clause-within : goal.returns-clause-within
returns-clause-within c = rw (c.from.ensures, c.from-at.ensures) (few_ones c.args.end c.args.byte (omega arith))
