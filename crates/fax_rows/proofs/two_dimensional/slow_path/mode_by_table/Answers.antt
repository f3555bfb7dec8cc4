use Rattle.std.proofs.Common.{refl, ap, sym, ◌∙◌}
use Rattle.fax_bits.specs.Codes.{read_code}
use Rattle.fax_bits.specs.Tables.{modes}
use Rattle.fax_bits.specs.code.TableLaws.{modes_is_prefix_free}
use Rattle.fax_bits.specs.views.Source.{Source}
use Rattle.fax_bits.proofs.CodeLemmas.{taken_is_read, what_is_taken}
use Rattle.fax_rows.proofs.two_dimensional.slow_path.mode_by_table.Goals as goal

pub returns-in-Some-clause-read : goal.returns-in-Some-clause-read
returns-in-Some-clause-read c =
    taken_is_read c.args.source.now.remaining modes modes_is_prefix_free _ _ c.in-Some.ensures.takes

pub returns-clause-read : goal.returns-clause-read
returns-clause-read c =
    ap (λ (s : Source). read_code modes s.remaining) (sym (c.in_default.ensures.unchanged refl))
    ∙ c.read_code.ensures.read

pub returns-clause-ok : goal.returns-clause-ok
returns-clause-ok c = what_is_taken _ modes _ c.read_code.result (returns-clause-read c)
