use Rattle.std.proofs.Common.{arith, inl}
use Rattle.fax_c.proofs.salvage_from.faxpages_salvage_from.Goals as goal

pub returns-in-Ok : goal.returns-in-Ok
returns-in-Ok c =
    let found = c.in-Ok.found in
    let call = c.salvage_page in
    inl (
      omega (arith, c.if-file-gt-MOST_BYTES.false),
      omega (arith, c.if-runs-lt-MOST_RUNS.false),
      call.result,
      c.fill_result.ensures,
      inl (
        found.here,
        c.in-Ok.ensures.ok.there,
        rw c.in-Ok.ensures.ok.file_is at call.ensures,
      ),
    )
