-- What is reported of a file is what a function reads of it. The function
-- `reports_are_read_by_a_function` of the module `laws` proves it.
use Rattle.std.specs.Prelude.{◌≡◌, ◌↔◌, Bool, ℕ, List}
use Rattle.fax_walk.specs.declared.checking.Report.{Report}
use Rattle.fax_walk.specs.Report.{IsReport}
use Rattle.fax_reads.specs.Reports.{ReportRead, read_report}

-- the parts of a report
abbrev pub parts_of : Report → ReportRead
parts_of report = record {
  notes = report.notes.items;
  pages = report.pages;
  rows = report.rows;
  fault = report.fault;
}

-- a report is the one of a file where its parts are those that the function reads
abbrev pub ReportsAreReadByAFunction : Type 0
ReportsAreReadByAFunction =
    (with_received : Bool) (file : List ℕ) (report : Report)
    → IsReport with_received file report ↔ (read_report with_received file ≡ parts_of report)
