-- A damaged file written anew: the rows that are found, at their numbers, and white paper in the
-- place of each row that is lost. Nothing but white is made up.
-- A definition without a citation is this project's profile.
use Rattle.std.specs.Prelude.{◌≡◌, ℕ, suc, ◌+◌, ◌==◌, ◌≤◌, ◌&&◌, min, max, if◌then◌else◌}
use Rattle.std.specs.Prelude.{List, [], ◌∷◌, ◌++◌, length, map, Option, Some, None, unwrap_or}
use Rattle.std.specs.Prelude.{Result, Ok, Err, MatchResult}
use Rattle.fax_rows.specs.Rows.{Colour}
use Rattle.fax_page.specs.Lines.{white_row}
use Rattle.fax_files.specs.declared.FileFault.{FileFault}
use Rattle.fax_files.specs.declared.Endian.{Endian}
use Rattle.fax_files.specs.declared.bad_rows.BadRows.{BadRows}
use Rattle.fax_files.specs.declared.bad_rows.Received.{Received}
use Rattle.fax_files.specs.Directory.{header, read_chain}
use Rattle.fax_files.specs.BadRows.{received}
use Rattle.fax_files.specs.Page.{page}
use Rattle.fax_walk.specs.declared.options.Options.{Options}
use Rattle.fax_walk.specs.Pages.{FilePage, PageForm}
use Rattle.fax_walk.specs.Converted.{SourcePage, target_bytes, IsTooLarge}
use Rattle.fax_walk.specs.Salvaged.{PageRow, AreRowsOfPage}

-- a row of a page of this width on paper: as it is found, or white where it is lost
abbrev pub on_paper : ℕ → PageRow → List Colour
on_paper width (Ok row) = row
on_paper width (Err cause) = white_row width

-- how many rows are lost
abbrev pub count_lost : List PageRow → ℕ
count_lost [] = 0
count_lost (Ok row ∷ rows) = count_lost rows
count_lost (Err cause ∷ rows) = suc (count_lost rows)

-- how many rows are lost one after another at most, where so many are lost right before these
abbrev pub longest_from : ℕ → List PageRow → ℕ
longest_from before [] = before
longest_from before (Ok row ∷ rows) = max before (longest_from 0 rows)
longest_from before (Err cause ∷ rows) = longest_from (before + 1) rows

-- how many rows of a page are lost one after another at most, over its strips too
abbrev pub longest_lost : List PageRow → ℕ
longest_lost rows = longest_from 0 rows

-- the largest number that a LONG has (TIFF 6.0, section 2)
abbrev pub most_said : ℕ
most_said = 4294967295

-- how many rows are said to be bad, where so many are lost of a page whose receiver counted so
-- many: the bad rows of both. Where CleanFaxData is 2 those that the receiver counted still stand
-- in the data, and are among the lost ones (RFC 2306, BadFaxLines and CleanFaxData)
abbrev pub bad_count : ℕ → ℕ → ℕ → ℕ
bad_count lost counted clean = if clean == 2 then (max lost counted) else (lost + counted)

-- the bad rows that are said of a page of which so many rows are lost, so many one after another at
-- most: none where none is lost, and its receiver counted none; an absent number is 0
-- (RFC 2306, BadFaxLines, CleanFaxData and ConsecutiveBadFaxLines)
abbrev pub bad_rows : ℕ → ℕ → Received → Option BadRows
bad_rows lost longest receiver =
    let counted = unwrap_or receiver.bad_rows 0 in
    let clean = unwrap_or receiver.clean 0 in
    let bad : BadRows = record {
      count = min most_said (bad_count lost counted clean);
      consecutive = min most_said (max longest (unwrap_or receiver.consecutive 0));
    } in
    if (lost == 0) && ((counted == 0) && (clean == 0)) then None else (Some bad)

-- a page of which these rows are left, as it is written
abbrev pub salvaged_page : PageForm → Received → List PageRow → SourcePage
salvaged_page form receiver rows = record {
  image = record { width = form.width; rows = map (on_paper form.width) rows };
  resolution = record { x = form.x; y = form.y; unit = form.unit };
  bad = bad_rows (count_lost rows) (longest_lost rows) receiver;
}

-- what is written of the page whose directory stands at offset q, with the form or the fault that
-- its fields give: it alone, or nothing, where it is refused
abbrev pub IsSalvagedPage : Endian → List ℕ → ℕ → Result PageForm FileFault → List SourcePage
    → Type 0
IsSalvagedPage endian file q (Err fault) pages = pages ≡ []
IsSalvagedPage endian file q (Ok form) pages =
    let here : FilePage = record { endian = endian; offset = q; form = form } in
    (rows : List PageRow) × AreRowsOfPage file here rows
    × (pages ≡ salvaged_page form (received endian file q) rows ∷ [])

-- what is written of the pages whose directories stand at these offsets
abbrev pub AreSalvagedPages : Endian → List ℕ → List ℕ → List SourcePage → Type 0
AreSalvagedPages endian file [] pages = pages ≡ []
AreSalvagedPages endian file (q ∷ offsets) pages =
    (own others : List SourcePage) × IsSalvagedPage endian file q (page endian file q) own
    × AreSalvagedPages endian file offsets others × (pages ≡ own ++ others)

-- the pages of a file as they are salvaged: those of its chain, also after one that is refused; of
-- a file without a good header none (TIFF 6.0, section 2)
abbrev pub IsSalvagedSource : List ℕ → List SourcePage → Type 0
IsSalvagedSource file pages =
    MatchResult (header file)
    (λ head. AreSalvagedPages head.endian file (read_chain head file).offsets pages)
    (λ fault. pages ≡ [])

-- the file is salvaged to this
pub record IsSalvagedTo (file : List ℕ) (options : Options) (output : List ℕ) : Type 0 where
  pub pages : List SourcePage
  pub source : IsSalvagedSource file pages
  pub some : 1 ≤ length pages
  pub output_is : output ≡ target_bytes options.target options pages
  pub fits : IsTooLarge options.target pages output → ⊥

-- what the file is salvaged to, or nothing, where none of its pages has a form
abbrev pub IsSalvagedAs : List ℕ → Options → Option (List ℕ) → Type 0
IsSalvagedAs file options None = IsSalvagedSource file []
IsSalvagedAs file options (Some output) = IsSalvagedTo file options output

-- what the file would be salvaged to is too large
abbrev pub IsSalvagedTooLarge : List ℕ → Options → Type 0
IsSalvagedTooLarge file options =
    (pages : List SourcePage) × IsSalvagedSource file pages
    × IsTooLarge options.target pages (target_bytes options.target options pages)
