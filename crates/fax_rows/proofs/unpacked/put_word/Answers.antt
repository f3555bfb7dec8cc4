use Rattle.std.proofs.Common.{arith}
use Rattle.fax_rows.proofs.PutOnesLemmas.{word_put}
use Rattle.fax_rows.proofs.UnpackedWordLemmas.{room_after}
use Rattle.fax_rows.proofs.unpacked.put_word.Goals as goal

pub put_ones-requires-clause-room : goal.put_ones-requires-clause-room
put_ones-requires-clause-room c = omega (
  arith,
  room_after c.args.changes.now c.args.end c.args.from c.requires.ascending
      c.requires.left_hand,
  c.requires.room,
)

pub returns : goal.returns
returns c =
    let put =
    word_put c.args.changes.now c.put_ones.new.changes c.args.end c.put_ones.result c.args.from c.args.before
    c.args.word
    (omega arith)
    (omega (
      arith,
      c.put_ones.ensures.within,
      c.put_ones.ensures.same_len,
      room_after c.args.changes.now c.args.end
          c.args.from c.requires.ascending c.requires.left_hand,
      c.requires.room,
    ))
    c.requires.ascending c.requires.left_hand c.put_ones.ensures.put in
    record {
      ascending = put.ascending;
      left_hand = put.left_hand;
      unpacked = put.put.unpacked;
      same_len =
          c.put_ones.ensures.same_len;
    }
