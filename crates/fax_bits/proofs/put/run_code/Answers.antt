use Rattle.std.proofs.Common.{length, ap, sym, ◌∙◌, arith}
use Rattle.fax_bits.specs.Tables.{run_table}
use Rattle.fax_bits.specs.code.TableLaws.{run_table_has_short_codes}
use Rattle.fax_bits.proofs.CodeBitsLemmas.{length-code_bits}
use Rattle.fax_bits.proofs.RunCodeLemmas.{bits_at-found, bits_at-run_table}
use Rattle.fax_bits.proofs.TableLemmas.{listed}
use Rattle.fax_bits.proofs.put.run_code.Goals as goal

pub of-requires-clause-short : goal.of-requires-clause-short
of-requires-clause-short c =
    let short = run_table_has_short_codes c.args.colour _ (listed _ _ _ c.run_entry-entry.ensures.found) in
    omega (arith, c.from-2.ensures, short.1)

pub of-requires-clause-fits : goal.of-requires-clause-fits
of-requires-clause-fits c =
    let short = run_table_has_short_codes c.args.colour _ (listed _ _ _ c.run_entry-entry.ensures.found) in
    rw (c.from.ensures, c.from-2.ensures) short.2

pub returns-clause-bits : goal.returns-clause-bits
returns-clause-bits c =
    let table = run_table c.args.colour in
    rw (c.of.ensures, c.from.ensures, c.from-2.ensures)
    (sym (bits_at-found table c.args.index c.run_entry-entry.result c.run_entry-entry.ensures.found)
    ∙ bits_at-run_table c.args.colour c.args.index c.requires)

pub returns-clause-short : goal.returns-clause-short
returns-clause-short c =
    let short = run_table_has_short_codes c.args.colour _ (listed _ _ _ c.run_entry-entry.ensures.found) in
    omega (arith, ap length c.of.ensures, length-code_bits c.from-2.result c.from.result, c.from-2.ensures, short.1)
