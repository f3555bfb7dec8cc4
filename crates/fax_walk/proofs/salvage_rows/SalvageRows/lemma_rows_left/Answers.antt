use Rattle.std.proofs.Common.{◌+◌, ◌-◌, arith, refl}
use Rattle.fax_walk.specs.code.Opening.{page_with}
use Rattle.fax_walk.proofs.SalvageLawLemmas.{strips_left}
use Rattle.fax_walk.proofs.salvage_rows.SalvageRows.lemma_rows_left.Goals as goal

pub returns : goal.returns
returns c =
    let self = c.self.invariant in
    let inside = c.self.inside in
    let reader = inside.reader in
    let own = c.strips_are_salvaged_in_one_way.ensures reader.form reader.row reader.before reader.reference
    reader.upcoming
    self.within in
    let later = strips_left c.strips_are_salvaged_in_one_way.ensures inside.strips.directory.file
    (page_with inside.strips.directory inside.form) (inside.form.strips - (inside.strip + 1)) (inside.strip + 1)
    (omega (arith, self.inside)) in
    rw (← c.self.view_is) (_, (own.rows, later.0, own.are, later.1, refl))
