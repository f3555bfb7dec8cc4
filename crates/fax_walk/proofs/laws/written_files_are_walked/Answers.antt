use Rattle.fax_walk.proofs.WalkedFileLemmas.{written_files_are_walked}
use Rattle.fax_walk.proofs.laws.written_files_are_walked.Goals as goal

pub returns : goal.returns
returns c =
    written_files_are_walked c.bits_stand_by_index.ensures c.lines_are_read_in_one_way.ensures c.forms_are_whole.ensures
    c.written_files_are_read.ensures c.written_rows_are_read.ensures
