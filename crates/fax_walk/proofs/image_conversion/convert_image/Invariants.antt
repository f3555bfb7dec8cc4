use Rattle.std.proofs.Common.{◌≡◌, length}
use Rattle.fax_files.specs.Pbm.{raster_rows}
use Rattle.fax_walk.specs.code.Output.{image_sheet, no_rows, IsPartWritten}
use Rattle.fax_walk.specs.views.Converting.{Progress}
use Rattle.fax_walk.specs.code.Sources.{part_of}
use Rattle.fax_walk.proofs.image_conversion.convert_image.Given as goal

abbrev pub invariant-loop-i : goal.invariant-loop-i
invariant-loop-i l = record {
  put : (at : Progress) → IsPartWritten l.initial.output (no_rows at (image_sheet l.image.width l.image.rows))
      → IsPartWritten l.output (part_of at (image_sheet l.image.width l.image.rows)
      (raster_rows l.image.width l.i l.image.raster.now));
  width : length l.row ≡ l.image.width;
}
