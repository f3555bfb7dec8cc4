use Rattle.std.proofs.Common.{◌≡◌, ◌<◌, ◌≤◌, ◌*◌, None, [], ◌∷◌, ◌++◌, length, sym, ap, ◌∙◌, subst, arith}
use Rattle.fax_rows.specs.Coded.{packed_len}
use Rattle.fax_files.specs.Pbm.{raster_rows}
use Rattle.fax_walk.specs.code.Output.{BecomesTooLarge, image_sheet, no_rows, IsPartWritten}
use Rattle.fax_walk.specs.code.Sources.{part_of}
use Rattle.fax_walk.proofs.ImageLemmas.{raster_count, raster_next, raster_widths}
use Rattle.fax_walk.proofs.OutputLemmas.{on_ok}
use Rattle.fax_walk.proofs.image_conversion.convert_image.Goals as goal

pub returns-in-TooLarge : goal.returns-in-TooLarge
returns-in-TooLarge c = λ at upcoming.
    let width = c.args.image.now.width in
    let height = c.args.image.now.rows in
    let raster = c.args.image.now.raster.now in
    let enough : height * packed_len width ≤ length raster = omega arith in
    let origin = subst (λ s. IsPartWritten c.begin.new.self (no_rows at s)) c.of_image.ensures.exact
    (c.in_ok-begin.ensures at upcoming) in
    let large : BecomesTooLarge (no_rows at (image_sheet width height)) = rw c.in-TooLarge.is at origin.has in
    rw c.in-TooLarge.is
    (large (raster_rows width height raster) None (raster_count width height raster)
    (raster_widths c.packing_undoes_unpacking.ensures width height raster enough))

pub put_row-requires : goal.put_row-requires
put_row-requires c =
    let count = raster_count c.args.image.now.width c.loop-i.i c.args.image.now.raster.now in
    let sheet = image_sheet c.args.image.now.width c.args.image.now.rows in
    let at = c.requires.0 in
    let origin = subst (λ s. IsPartWritten c.begin.new.self (no_rows at s)) c.of_image.ensures.exact
    (c.in_ok-begin.ensures at c.requires.1) in
    record {
      part = part_of at sheet (raster_rows c.args.image.now.width c.loop-i.i c.args.image.now.raster.now);
      written = c.loop-i.invariant.put at origin;
      upcoming = omega (arith, count, c.loop-i-test.true);
      width = c.set_packed.ensures.same_width ∙ c.loop-i.invariant.width;
    }

pub loop-i-preserved : goal.loop-i-preserved
loop-i-preserved c =
    let sheet = image_sheet c.args.image.now.width c.args.image.now.rows in
    let rows = raster_rows c.args.image.now.width c.loop-i.i c.args.image.now.raster.now in
    let count = raster_count c.args.image.now.width c.loop-i.i c.args.image.now.raster.now in
    let upcoming : length rows < c.args.image.now.rows = omega (arith, count, c.loop-i-test.true) in
    let width = c.set_packed.ensures.same_width ∙ c.loop-i.invariant.width in
    let row_is = rw (c.loop-i.invariant.width, c.row.ensures.bytes) at c.set_packed.ensures.pels in
    record {
      put = λ at origin.
          subst (λ l. IsPartWritten c.put_row.new.self (part_of at sheet l))
          (ap (λ row. rows ++ row ∷ []) row_is ∙ sym (raster_next c.args.image.now.width c.loop-i.i
          c.args.image.now.raster.now))
          (c.in_ok-put_row.ensures (part_of at sheet rows) (c.loop-i.invariant.put at origin) upcoming width);
      width = width;
    }

pub end-requires : goal.end-requires
end-requires c =
    let width = c.args.image.now.width in
    let height = c.args.image.now.rows in
    let raster = c.args.image.now.raster.now in
    let at = c.requires.0 in
    let origin = subst (λ s. IsPartWritten c.begin.new.self (no_rows at s)) c.of_image.ensures.exact
    (c.in_ok-begin.ensures at c.requires.1) in
    let last : c.loop-i.i ≡ height = omega (arith, c.loop-i-test.false, c.loop-i.auto.i-end) in
    record {
      part = part_of at (image_sheet width height) (raster_rows width height raster);
      written = rw last at (c.loop-i.invariant.put at origin);
      all = raster_count width height raster;
    }

pub returns : goal.returns
returns c = on_ok c.end.result c.end.ensures (λ ends at upcoming.
    let width = c.args.image.now.width in
    let height = c.args.image.now.rows in
    let raster = c.args.image.now.raster.now in
    let origin = subst (λ s. IsPartWritten c.begin.new.self (no_rows at s)) c.of_image.ensures.exact
    (c.in_ok-begin.ensures at upcoming) in
    let last : c.loop-i.i ≡ height = omega (arith, c.loop-i-test.false, c.loop-i.auto.i-end) in
    ends (part_of at (image_sheet width height) (raster_rows width height raster))
    (rw last at (c.loop-i.invariant.put at origin))
    (raster_count width height raster))
