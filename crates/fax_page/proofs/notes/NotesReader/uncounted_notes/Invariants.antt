use Rattle.std.proofs.Common.{◌≡◌}
use Rattle.fax_bits.specs.Bits.{bits}
use Rattle.fax_page.specs.Uncounted.{uncounted}
use Rattle.fax_page.specs.code.Notes.{AreRowsRead, IsNoting}
use Rattle.fax_page.proofs.notes.NotesReader.uncounted_notes.Given as goal

abbrev pub invariant-loop-i : goal.invariant-loop-i
invariant-loop-i l = record {
  noting : IsNoting l.strip l.self-inside.rows;
  form_is : l.strip.form ≡ uncounted l.form;
  read : AreRowsRead (uncounted l.form) (bits l.form.order l.fn.bytes) l.i l.self-inside.rows.reference
      l.strip.source.remaining
      l.strip.not_t4_choice;
}
