-- What is reported of a file that is checked, by functions (T.4, sections 4.1.1, 4.1.4, 4.2.1.3.3
-- and 4.2.4; T.6, End-of-facsimile block; TIFF 6.0, section 2; the rest is this project's profile).
use Rattle.std.specs.Prelude.{Bool, ℕ, ◌+◌, ◌*◌, List, length, flat_map, Option, Some, None, Ok}
use Rattle.std.specs.Prelude.{Err}
use Rattle.fax_page.specs.Strip.{most_rows}
use Rattle.fax_files.specs.declared.Cause.{Cause}
use Rattle.fax_files.specs.Directory.{header, read_chain}
use Rattle.fax_walk.specs.declared.checking.Note.{Note}
use Rattle.fax_walk.specs.declared.end.End.{End}
use Rattle.fax_walk.specs.declared.end.End.TheVariants.{Fault}
use Rattle.fax_walk.specs.declared.walk.Place.{Place}
use Rattle.fax_walk.specs.Pages.{NextItem, ends_as, read_page}
use Rattle.fax_walk.specs.Report.{noted_on}
use Rattle.fax_reads.specs.Files.{AllRead, read_all, read_rows}

-- what is noted of a page's directory, or of a strip of it
abbrev pub read_noted : Bool → List ℕ → ℕ × Option ℕ → NextItem (List Note) (ℕ × Option ℕ)
read_noted with_received file at =
    elim (read_page file (record { page = at.0; row = 0 })) [
      | Err end ↦ ends_as end
      | Ok here ↦ noted_on with_received file at.0 at.1 here
    ]

-- all notes of a file, and their end
abbrev pub read_notes : Bool → List ℕ → AllRead (List Note)
read_notes with_received file =
    read_all ((length file + 1) * (most_rows + 2)) (read_noted with_received file) (0, None)

-- how many pages are read wholly where the rows end so, and the fault
abbrev pub pages_to : List ℕ → End → ℕ
pages_to file (Fault p r cause) = p
pages_to file _ =
    elim (header file) [
      | Err fault ↦ 0
      | Ok head ↦ length (read_chain head file).offsets
    ]

abbrev pub fault_and_place : End → Option (Place × Cause)
fault_and_place (Fault p r cause) = Some (record { page = p; row = r }, cause)
fault_and_place _ = None

-- what is reported, with what receivers counted or without
pub record ReportRead : Type 0 where
  pub notes : List Note
  pub pages : ℕ
  pub rows : ℕ
  pub fault : Option (Place × Cause)

abbrev pub read_report : Bool → List ℕ → ReportRead
read_report with_received file =
    let all = read_rows file in
    record {
      notes = flat_map (λ own. own) (read_notes with_received file).items;
      pages = pages_to file all.end;
      rows = length all.items;
      fault = fault_and_place all.end;
    }
