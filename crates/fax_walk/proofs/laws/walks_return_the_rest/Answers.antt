use Rattle.std.proofs.Common.{rules}
use Rattle.fax_walk.proofs.FileEndLemmas.{items_end_in_the_file}
use Rattle.fax_walk.proofs.PrintedLemmas.{cursors_are_printed, items_ascend, places_are_printed, rows_are_read_once}
use Rattle.fax_walk.proofs.PrintedLemmas.{the_rest_is_left}
use Rattle.fax_walk.proofs.PrintedLemmas.{walks_begin_there, walks_go_on, walks_return_the_rest}
use Rattle.fax_walk.proofs.laws.walks_return_the_rest.Goals as goal

pub returns : goal.returns
returns c =
    let tails = c.beginnings_have_one_tail.ensures in
    let laws = c.tails_go_on.ensures in
    record {
      one = laws.files;
      ends = items_end_in_the_file;
      ascend = items_ascend;
      rest = walks_return_the_rest tails laws.start laws.cursors laws.places laws.ends;
      begin = walks_begin_there tails laws.start laws.cursors laws.places laws.ends;
      next = walks_go_on tails laws.start laws.cursors laws.places laws.ends;
      good = search rules;
      remaining = the_rest_is_left tails laws.start laws.cursors laws.places laws.ends;
      cursor = cursors_are_printed tails laws.start laws.cursors laws.places laws.ends;
      place = places_are_printed tails laws.start laws.cursors laws.places laws.ends;
      read = rows_are_read_once tails laws.start laws.cursors laws.places laws.ends;
    }
