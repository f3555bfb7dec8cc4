use Rattle.std.proofs.Common.{◌+◌, ◌%◌, length, ap, ◌∙◌, arith}
use Rattle.fax_page.specs.Lines.{white_row}
use Rattle.fax_page.proofs.WhiteLineLemmas.{no_lines, line_more}
use Rattle.fax_page.proofs.writer.put_each_white_line.Goals as goal

pub loop-init : goal.loop-init
loop-init c = record {
  place = ap (λ n. n % c.args.k) (omega arith);
  put =
      no_lines c.args.form c.args.k (length c.args.sink.now.bits) c.args.first (white_row c.args.form.width)
      c.args.sink.now;
}

pub loop-preserved : goal.loop-preserved
loop-preserved c =
    let i = c.args.first + c.loop.counter in record {
      place = c.next_place-place.ensures i c.loop.invariant.place ∙ ap (λ n. n % c.args.k) (omega arith);
      put =
          line_more c.args.form c.args.k c.args.first c.loop.counter c.dimension_at.result c.args.sink.now
          c.loop.sink c.put_white_line.new.sink c.loop.invariant.put
          (c.dimension_at.ensures c.args.k i c.loop.invariant.place)
          c.in_ok-put_white_line.ensures.ok;
    }
