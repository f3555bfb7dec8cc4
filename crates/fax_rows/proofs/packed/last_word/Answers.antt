use Rattle.std.proofs.Common.{◌%◌, ◌∙◌, sym, arith}
use Rattle.fax_rows.proofs.PackedWordLemmas.{white_done, black_done}
use Rattle.fax_rows.proofs.packed.last_word.Goals as goal

pub returns-in-White : goal.returns-in-White
returns-in-White c =
    white_done c.args.row c.word_up_to-word.ensures.word c.word_up_to-word.ensures.so_far
    (sym c.colour_after.ensures ∙ c.in-White.is)

pub returns-in-Black : goal.returns-in-Black
returns-in-Black c =
    black_done c.args.row (c.args.row.width % 64) c.word_up_to-word.ensures.word c.word_up_to-word.ensures.so_far
    (sym c.colour_after.ensures ∙ c.in-Black.is) (omega arith) (omega arith)
