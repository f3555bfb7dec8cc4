use Rattle.std.proofs.Common.{◌≡◌, take}
use Rattle.std.specs.Prelude.{flat_map, string_bytes}
use Rattle.fax_tool.specs.ReportText.{note_line}
use Rattle.fax_tool.proofs.commands.check.report_text.Given as goal

abbrev pub invariant-loop-note : goal.invariant-loop-note
invariant-loop-note l = string_bytes l.text ≡ flat_map note_line (take l.note-index l.report.notes.items)
