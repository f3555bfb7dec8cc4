use Rattle.std.proofs.Common.{◌≡◌, ◌+◌, ◌%◌, length, replicate}
use Rattle.fax_bits.specs.views.Sink.{Appends}
use Rattle.fax_page.specs.Lines.{white_row}
use Rattle.fax_page.specs.Strip.{coded_lines}
use Rattle.fax_page.proofs.writer.put_each_white_line.Given as goal

abbrev pub invariant-loop : goal.invariant-loop
invariant-loop l = record {
  place : l.place ≡ (l.first + l.counter) % l.k;
  put :
      let white = white_row l.form.width in
      Appends l.fn.sink (coded_lines l.form l.k (length l.fn.sink.bits) l.first white (replicate l.counter white))
      l.sink;
}
