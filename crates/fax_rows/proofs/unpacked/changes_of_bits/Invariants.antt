use Rattle.std.proofs.Common.{◌≡◌, ◌-◌, ◌<◌, ◌≤◌, take, get_or}
use Rattle.fax_bits.specs.declared.FillOrder.TheVariants.{MsbFirst}
use Rattle.fax_bits.specs.Bits.{bits}
use Rattle.std.specs.Prelude.{true}
use Rattle.fax_rows.specs.code.ChangeLists.{IsAscending}
use Rattle.fax_rows.proofs.FirstOtherLemmas.{is_other}
use Rattle.fax_rows.specs.code.Unpacked.{IsUnpackedTo}
use Rattle.fax_rows.proofs.unpacked.changes_of_bits.Given as goal

-- the places before the next change are put
abbrev pub invariant-loop-at : goal.invariant-loop-at
invariant-loop-at l = record {
  ascending : IsAscending l.changes l.end;
  last : get_or l.changes (l.end - 1) 0 ≤ l.at;
  below : get_or l.changes (l.end - 1) 0 < l.width;
  unpacked : IsUnpackedTo (bits MsbFirst l.bytes) (take l.end l.changes) l.at l.colour;
  turns : l.at < l.width → is_other l.bytes l.colour l.at ≡ true;
}

abbrev pub decreases-loop-at : goal.decreases-loop-at
decreases-loop-at l = l.width - l.at
