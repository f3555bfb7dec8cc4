use Rattle.std.proofs.Common.{◌≡◌, ap, arith, length, ◌∙◌}
use Rattle.std.proofs.Math.Seq.{take-append_seam}
use Rattle.fax_files.specs.views.Writing.{Writing}
use Rattle.fax_files.proofs.TotalLemmas.{are_file, are_there, stays}
use Rattle.fax_files.proofs.tiff_writer.TiffWriter.finish.Goals as goal

pub put_totals-requires-clause-header : goal.put_totals-requires-clause-header
put_totals-requires-clause-header c = rw c.deref_mut.ensures.value c.self.invariant.header

pub put_totals-requires-clause-pages : goal.put_totals-requires-clause-pages
put_totals-requires-clause-pages c = rw c.deref_mut.ensures.value (_, are_there _ c.self.invariant)

pub returns-clause-file : goal.returns-clause-file
returns-clause-file c = λ pages added.
    let told = rw c.deref_mut.ensures.value at c.put_totals.ensures in
    let file = c.put_totals.new.file in
    let count : c.self.inside.bytes.len ≡ length file = omega (arith, c.put_totals.auto.file, c.deref_mut.ensures.len)
    in
    rw count (take-append_seam file _) ∙ told ∙ are_file _ c.self.invariant pages (rw (← c.self.view_is) at added)

pub returns-clause-all : goal.returns-clause-all
returns-clause-all c = λ all.
    let told = rw c.deref_mut.ensures.value at c.put_totals.ensures in
    let file = c.put_totals.new.file in
    let count : c.self.inside.bytes.len ≡ length file = omega (arith, c.put_totals.auto.file, c.deref_mut.ensures.len)
    in
    rw count (take-append_seam file _)
    ∙ told
    ∙ stays _ c.self.invariant (rw (← c.self.view_is) at all)
    ∙ ap (λ (w : Writing). w.written.bytes) c.self.view_is
