use Rattle.std.proofs.Common.{◌≡◌, ◌∙◌, ap, codes, sym}
use Rattle.std.specs.Prelude.{option_and_then}
use Rattle.clap.specs.Matches.{found_of}
use Rattle.fax_tool.specs.code.CommandEntries.{entries_of, given_by}
use Rattle.fax_tool.specs.Job.{target_in, target_of}
use Rattle.fax_tool.proofs.GetterLemmas.{no_target, none_given, text_given}
use Rattle.fax_tool.proofs.args.target_of.Goals as goal
use Rattle.fax_tool.proofs.args.target_of.Goals.{In_ok-get_str}

pub returns-in_err-get_str : goal.returns-in_err-get_str
returns-in_err-get_str c =
    c.from_residual.ensures ∙ sym (ap (option_and_then target_of)
    (none_given (found_of c.args.matches.now) (codes "o") _ c.get_str.ensures
    c.in_err-get_str.was))

named : (c : In_ok-get_str) → target_in (given_by (entries_of c.args.matches.now))
    ≡ target_of c.in_ok-get_str.field-0.now
named c = ap (option_and_then target_of) (text_given (found_of c.args.matches.now) (codes "o") _ c.in_ok-get_str.field-0
    c.get_str.ensures
    c.in_ok-get_str.was)

pub returns-in-pbm : goal.returns-in-pbm
returns-in-pbm c = sym (named (goal.at.returns-in-pbm c).In_ok-get_str ∙ ap target_of c.in-pbm.is)

pub returns-in-mh : goal.returns-in-mh
returns-in-mh c = sym (named (goal.at.returns-in-mh c).In_ok-get_str ∙ ap target_of c.in-mh.is)

pub returns-in-mr : goal.returns-in-mr
returns-in-mr c = sym (named (goal.at.returns-in-mr c).In_ok-get_str ∙ ap target_of c.in-mr.is)

pub returns-in-mmr : goal.returns-in-mmr
returns-in-mmr c = sym (named (goal.at.returns-in-mmr c).In_ok-get_str ∙ ap target_of c.in-mmr.is)

pub returns-in_default : goal.returns-in_default
returns-in_default c =
    sym (named (goal.at.returns-in_default c).In_ok-get_str
    ∙ no_target c.in_ok-get_str.field-0.now c.in_default.not-pbm c.in_default.not-mh c.in_default.not-mr
    c.in_default.not-mmr)
