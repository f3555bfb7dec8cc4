use Rattle.std.proofs.Common.{◌∙◌, ap, sym, codes}
use Rattle.std.specs.Prelude.{Some}
use Rattle.clap.specs.Matches.{found_of}
use Rattle.fax_tool.proofs.GetterLemmas.{none_given, text_given}
use Rattle.fax_tool.proofs.args.file_of.Goals as goal

pub returns-in_ok-from_str-in-Some : goal.returns-in_ok-from_str-in-Some
returns-in_ok-from_str-in-Some c =
    ap Some c.in_ok-from_str-in-Some.ensures.ok
    ∙ sym (text_given (found_of c.args.matches.now) (codes "FILE") _ c.in-Some.name c.get_str.ensures c.in-Some.is)

pub returns-in-None : goal.returns-in-None
returns-in-None c = sym (none_given (found_of c.args.matches.now) (codes "FILE") _ c.get_str.ensures c.in-None.is)
