use Rattle.std.proofs.Common.{length}
use Rattle.fax_page.proofs.WhiteLineLemmas.{white_ones}
use Rattle.fax_page.proofs.writer.put_white_lines.Goals as goal

pub returns-in-Mmr-clause-ok : goal.returns-in-Mmr-clause-ok
returns-in-Mmr-clause-ok c =
    rw (white_ones c.args.form c.args.k c.white_rows_are_written.ensures c.requires.limits.some_pels c.in-Mmr.is
    (length c.args.sink.now.bits) c.args.first c.args.count) c.put_ones.ensures.ok
