use Rattle.std.proofs.Common.{[], List, ℕ, ap, arith, length}
use Rattle.fax_files.proofs.PageByPageLemmas.{begins_so}
use Rattle.fax_files.proofs.tiff_writer.TiffWriter.new.Goals as goal

pub invariant_of-result : goal.invariant_of-result
invariant_of-result c =
    let len = ap (λ (l : List ℕ). length l) c.in-Ok.ensures.items in
    record {
      pages = [];
      added = rw c.in-Ok.ensures.items (begins_so c.args.pages);
      link_inside = omega (arith, len);
      header = omega (arith, len);
      limit = omega (arith, len);
    }
