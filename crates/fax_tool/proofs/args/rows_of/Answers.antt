use Rattle.std.proofs.Common.{ap, codes, lit<, refl, subst, sym, Option}
use Rattle.clap.specs.Matches.{found_of}
use Rattle.clap.specs.Walk.{Text, first_of}
use Rattle.fax_walk.specs.Pages.{LongCursorValue}
use Rattle.fax_tool.specs.code.CommandEntries.{entries_of}
use Rattle.fax_tool.proofs.BeginLemmas.{Begins}
use Rattle.fax_tool.proofs.EntryReadLemmas.{flag_read, u32_read}
use Rattle.fax_tool.proofs.GetterLemmas.{long_err, none_given, text_given}
use Rattle.fax_tool.proofs.args.rows_of.Goals as goal
use Rattle.fax_tool.proofs.args.rows_of.Goals.{in-Some+in-Ok, in-Some+in-Err+in_ok-from-in-Err, in-None}

pub returns-in_err-from-in-Err-clause-err : goal.returns-in_err-from-in-Err-clause-err
returns-in_err-from-in-Err-clause-err c =
    let given = text_given (found_of c.args.matches.now) (codes "cursor") _ c.in-Some.text c.get_str.ensures
    c.in-Some.is in
    long_err c.from_residual.result c.in_err-from-in-Err.field-0.0 c.from_residual.ensures.1
    (λ is. (c.in-Some.text.now, given, c.in-Err.ensures.err, c.in_err-from-in-Err.ensures.err is))

pub returns-clause-ok : goal.returns-clause-ok
returns-clause-ok c =
    let entries = entries_of c.args.matches.now in
    let q = c.match-get_str.from in
    let origin : Begins (first_of (codes "cursor") entries) q.0 q.1 = elim c.match-get_str.branch [
      | in-Some+in-Ok w ↦
          let given = text_given (found_of c.args.matches.now) (codes "cursor") _ w.in-Some.text c.get_str.ensures
          w.in-Some.is in
          subst (λ (o : Option Text). Begins o q.0 q.1) (sym given) (rw w.from-is (w.in-Ok.ensures.ok, refl))
      | in-Some+in-Err+in_ok-from-in-Err w ↦
          let given = text_given (found_of c.args.matches.now) (codes "cursor") _ w.in-Some.text c.get_str.ensures
          w.in-Some.is in
          subst (λ (o : Option Text). Begins o q.0 q.1) (sym given)
          (rw w.from-is (w.in_ok-from-in-Err.ensures.ok, ap (λ (place : LongCursorValue). place.at) w.from.view_is))
      | in-None w ↦
          let given = none_given (found_of c.args.matches.now) (codes "cursor") _ c.get_str.ensures w.in-None.is in
          subst (λ (o : Option Text). Begins o q.0 q.1) (sym given) (rw w.from-is (refl, refl))
    ] in
    record {
      begins = origin.0;
      cursor = origin.1;
      max = u32_read (found_of c.args.matches.now) (codes "max") 4294967295 c.get_one.result c.requires.max (lit< tt)
          c.get_one.ensures.none c.get_one.ensures.value;
      long_is = flag_read (found_of c.args.matches.now) (codes "long") c.get_flag.result c.requires.long
          c.get_flag.ensures.none c.get_flag.ensures.value c.get_flag.ensures.other;
    }
