use Rattle.std.proofs.Common.{◌≡◌, ◌*◌, length, ap, arith, length-append}
use Rattle.fax_rows.specs.Coded.{packed_len}
use Rattle.fax_files.specs.views.Pbm.{head_bytes}
use Rattle.fax_walk.proofs.OutputLemmas.{image_too_large, image_started}
use Rattle.fax_walk.proofs.output.Output.begin.Goals as goal

pub returns-then-saturating_add-gt-MAX_OUTPUT : goal.returns-then-saturating_add-gt-MAX_OUTPUT
returns-then-saturating_add-gt-MAX_OUTPUT c = λ at upcoming.
    let has = rw c.in-Images.is at upcoming.written in
    let new_is = c.in_ok-put_head-in-Images.ensures in
    let packed : c.div_ceil-row_len.result ≡ packed_len c.args.sheet.now.width =
    omega (arith, c.div_ceil-row_len.ensures) in
    let raster = ap (λ n. c.args.sheet.now.rows * n) packed in
    let parts = length-append c.in-Images.parts (head_bytes c.args.sheet.now.width c.args.sheet.now.rows) in
    let len : c.len.result ≡ length c.put_head.new.self = omega (arith, c.len.ensures) in
    record {
      widths = tt;
      has = image_too_large c.packing_undoes_unpacking.ensures at c.args.sheet.now has.target
          (omega (
            arith,
            c.if-saturating_add-gt-MAX_OUTPUT.true,
            c.saturating_add.ensures,
            c.saturating_mul-raster.ensures,
            len,
            ap length new_is,
            ap length has.bytes_are,
            parts,
            raster,
          ));
    }

pub returns-else-saturating_add-gt-MAX_OUTPUT : goal.returns-else-saturating_add-gt-MAX_OUTPUT
returns-else-saturating_add-gt-MAX_OUTPUT c = λ at upcoming.
    let has = rw c.in-Images.is at upcoming.written in
    let packed : c.div_ceil-row_len.result ≡ packed_len c.args.sheet.now.width =
    omega (arith, c.div_ceil-row_len.ensures) in
    let raster = ap (λ n. c.args.sheet.now.rows * n) packed in
    let len : c.len.result ≡ length c.put_head.new.self = omega (arith, c.len.ensures) in
    record {
      widths = tt;
      has =
          image_started at c.args.sheet.now c.in-Images.parts c.put_head.new.self has c.in_ok-put_head-in-Images.ensures
          (omega (
            arith,
            c.if-saturating_add-gt-MAX_OUTPUT.false,
            c.saturating_add.ensures,
            c.saturating_mul-raster.ensures,
            len,
            raster,
          ));
    }
