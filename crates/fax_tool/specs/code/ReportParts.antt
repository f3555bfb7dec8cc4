-- The parts of the text of `check`.
use Rattle.std.specs.Prelude.{ℕ, List, [], ◌++◌, flat_map, codes, Option}
use Rattle.std.specs.Option.{option_map_or}
use Rattle.fax_walk.specs.declared.checking.Report.{Report}
use Rattle.fax_tool.specs.Text.{and_number}
use Rattle.fax_tool.specs.ReportText.{note_line}

-- ` strip S`, where a note is on a strip
abbrev pub and_strip : Option ℕ → List ℕ
and_strip strip = option_map_or (λ number. codes " strip" ++ and_number number) strip []

-- `pages P rows R`: how many pages were read wholly, and how many rows
abbrev pub counts_line : ℕ → ℕ → List ℕ
counts_line pages rows =
    codes "pages" ++ and_number pages ++ codes " rows" ++ and_number rows ++ codes "\n"

-- the notes, line by line, and the counts
abbrev pub report_output : Report → List ℕ
report_output report = flat_map note_line report.notes.items ++ counts_line report.pages report.rows
