use Rattle.fax_bits.specs.views.Source.{source_of}
use Rattle.fax_page.proofs.SalvageLemmas.{not_two, not_started}
use Rattle.fax_page.proofs.reader.StripReader.is_two_dimensional.Goals as goal

pub returns-in-Ok-TwoDimensional : goal.returns-in-Ok-TwoDimensional
returns-in-Ok-TwoDimensional c =
    let here = c.self.invariant.at_row (rw (← c.self.view_is) at c.requires) in
    let origin = rw (c.fork-ahead.ensures, here, c.in-Ok-TwoDimensional.field-0-is)
    at c.in-Ok-TwoDimensional.ensures.read in
    rw (← c.self.view_is) (c.if-self.false, (_, origin))

pub returns-in-Ok-OneDimensional : goal.returns-in-Ok-OneDimensional
returns-in-Ok-OneDimensional c =
    let here = c.self.invariant.at_row (rw (← c.self.view_is) at c.requires) in
    let origin = rw (c.fork-ahead.ensures, here, c.in-Ok-OneDimensional.field-0-is)
    at c.in-Ok-OneDimensional.ensures.read in
    rw (← c.self.view_is) (λ upcoming two. not_two c.self.inside.form.coding c.self.inside.row
    (source_of c.self.inside.form.order c.self.inside.bytes.now c.self.inside.place).remaining _ origin two)

pub returns-in-Err : goal.returns-in-Err
returns-in-Err c =
    let here = c.self.invariant.at_row (rw (← c.self.view_is) at c.requires) in
    let stop = rw (c.fork-ahead.ensures, here) at c.in-Err.ensures.read in
    rw (← c.self.view_is) (λ upcoming two. not_started c.self.inside.form.coding c.self.inside.row
    (source_of c.self.inside.form.order c.self.inside.bytes.now c.self.inside.place).remaining _ stop two)
