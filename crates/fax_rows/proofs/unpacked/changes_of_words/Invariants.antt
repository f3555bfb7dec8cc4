use Rattle.std.proofs.Common.{◌*◌, ◌-◌, ◌<◌, ◌≤◌, take, get_or}
use Rattle.fax_bits.specs.declared.FillOrder.TheVariants.{MsbFirst}
use Rattle.fax_bits.specs.Bits.{bits}
use Rattle.fax_rows.specs.Coded.{colour_of_bit}
use Rattle.fax_rows.specs.code.PackedWord.{word_bit}
use Rattle.fax_rows.specs.code.ChangeLists.{IsAscending}
use Rattle.fax_rows.specs.code.Unpacked.{IsUnpackedTo}
use Rattle.fax_rows.proofs.unpacked.changes_of_words.Given as goal

abbrev pub invariant-loop-k : goal.invariant-loop-k
invariant-loop-k l = record {
  within : l.k ≤ l.words;
  ascending : IsAscending l.changes l.end;
  left_hand : 1 < l.end → get_or l.changes (l.end - 1) 0 < 64 * l.k;
  unpacked : IsUnpackedTo (bits MsbFirst l.bytes) (take l.end l.changes) (64 * l.k)
      (colour_of_bit (word_bit l.before 63));
}

abbrev pub decreases-loop-k : goal.decreases-loop-k
decreases-loop-k l = l.words - l.k
