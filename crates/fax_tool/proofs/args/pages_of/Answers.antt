use Rattle.std.proofs.Common.{◌∙◌, ap, codes, lit<, refl, subst, sym, Option}
use Rattle.std.specs.Prelude.{None}
use Rattle.clap.specs.Matches.{found_of}
use Rattle.clap.specs.Walk.{Text, first_of}
use Rattle.fax_walk.specs.Pages.{cursor_text}
use Rattle.fax_tool.specs.code.CommandEntries.{entries_of}
use Rattle.fax_tool.specs.Text.{AtCursor}
use Rattle.fax_tool.proofs.BeginLemmas.{Begins}
use Rattle.fax_tool.proofs.EntryReadLemmas.{u32_read}
use Rattle.fax_tool.proofs.GetterLemmas.{none_given, on_err, text_given}
use Rattle.fax_tool.proofs.args.pages_of.Goals as goal
use Rattle.fax_tool.proofs.args.pages_of.Goals.{in-Some+in_ok-cursor-in-Some, in-None}

pub returns-in_err-cursor-in-Some-clause-err : goal.returns-in_err-cursor-in-Some-clause-err
returns-in_err-cursor-in-Some-clause-err c =
    let given = text_given (found_of c.args.matches.now) (codes "cursor") _ c.in-Some.text c.get_str.ensures
    c.in-Some.is in
    on_err c.from_residual.result (c.in-Some.text.now, given, c.in_err-cursor-in-Some.ensures.err)

pub returns-clause-ok : goal.returns-clause-ok
returns-clause-ok c =
    let at = c.match-get_str.cursor in
    let origin : Begins (first_of (codes "cursor") (entries_of c.args.matches.now)) at None =
    elim c.match-get_str.branch [
      | in-Some+in_ok-cursor-in-Some w ↦
          let given = text_given (found_of c.args.matches.now) (codes "cursor") _ w.in-Some.text c.get_str.ensures
          w.in-Some.is in
          subst (λ (o : Option Text). Begins o at None) (sym given)
          (w.in_ok-cursor-in-Some.ensures.ok ∙ ap cursor_text (sym w.cursor-is), refl)
      | in-None w ↦
          let given = none_given (found_of c.args.matches.now) (codes "cursor") _ c.get_str.ensures w.in-None.is in
          subst (λ (o : Option Text). Begins o at None) (sym given) (ap AtCursor w.cursor-is, refl)
    ] in (
      record {
        begins = origin.0;
        cursor = origin.1;
        max = u32_read (found_of c.args.matches.now) (codes "max") 4294967295 c.get_one.result c.requires (lit< tt)
            c.get_one.ensures.none c.get_one.ensures.value;
        long_is = refl;
      },
      refl,
    )
