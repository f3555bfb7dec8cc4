-- Files read by functions: a file's rows and forms in order, up to an end (TIFF 6.0, section 2; the
-- faults are this project's profile). A number `limit` is above the number of what is left: a chain
-- has at most as many directories as the file has bytes.
use Rattle.std.specs.Prelude.{ℕ, zero, suc, ◌+◌, ◌-◌, ◌*◌, ◌/◌, ◌%◌}
use Rattle.std.specs.Prelude.{Bool, List, [], ◌∷◌, length, drop, Option, Some, None}
use Rattle.std.specs.Prelude.{Result, Ok, Err}
use Rattle.fax_bits.specs.Bits.{bits}
use Rattle.fax_bits.specs.declared.Colour.{Colour}
use Rattle.fax_page.specs.Strip.{most_rows}
use Rattle.fax_page.specs.declared.StripFault.{StripFault}
use Rattle.fax_files.specs.declared.FileFault.TheVariants.{StripOutside}
use Rattle.fax_files.specs.declared.PageForm.{PageForm}
use Rattle.fax_files.specs.Page.{strip_bytes, strip_form}
use Rattle.fax_walk.specs.declared.end.End.{End}
use Rattle.fax_walk.specs.declared.end.End.TheVariants.{Fault, Outside}
use Rattle.fax_walk.specs.Pages.{FormItem, NextItem, goes_on, ends_as, File, Strip, read_page}
use Rattle.fax_walk.specs.Items.{RowItem, RowPosition, first_at, exchanged, before, place_after}
use Rattle.fax_bits.specs.Reading.{Read, read, failed}
use Rattle.fax_page.specs.Lines.{read_line}

-- the row that was read at a place of a strip and the place after it, or the end
abbrev pub row_or_end : PageForm → RowPosition → List ℕ → Read (List Colour) StripFault
    → NextItem RowItem RowPosition
row_or_end form at bytes (failed fault) = ends_as (Fault at.page at.row (Strip fault))
row_or_end form at bytes (read row rest) =
    let item : RowItem = record {
      page = at.page;
      form = form;
      row = at.row;
      pels = exchanged form row;
      bits = 8 * length bytes - length rest;
    } in
    goes_on item (place_after item)

-- the row at a place, with what the file has of its strip
abbrev pub read_in_strip : PageForm → RowPosition → Option (List ℕ) → NextItem RowItem RowPosition
read_in_strip form at None =
    ends_as (Fault at.page (at.row / form.rows_per_strip * form.rows_per_strip) (File StripOutside))
read_in_strip form at (Some bytes) =
    let inner = before form.width at.inner in
    row_or_end form at bytes (read_line (strip_form form (at.row / form.rows_per_strip))
    (at.row % form.rows_per_strip) inner.reference (drop inner.bits (bits form.order bytes)))

-- the row at a place of a file and the place after it, or the end
abbrev pub read_row : List ℕ → RowPosition → NextItem RowItem RowPosition
read_row file at =
    elim (read_page file (record { page = at.page; row = at.row })) [
      | Err end ↦ ends_as end
      | Ok here ↦ read_in_strip here.form at
          (strip_bytes here.endian file here.offset (at.row / here.form.rows_per_strip))
    ]

-- the form of page p and the page after it, or the end
abbrev pub read_form : List ℕ → ℕ → NextItem FormItem ℕ
read_form file p =
    elim (read_page file (record { page = p; row = 0 })) [
      | Err end ↦ ends_as end
      | Ok here ↦ goes_on (record { page = p; form = here.form }) (p + 1)
    ]

-- what is returned from a place on, and the end
pub record AllRead (A : Type 0) : Type 0 where
  pub items : List A
  pub end : End

abbrev pub all_after : {S A : Type 0} → (S → AllRead A) → NextItem A S → AllRead A
all_after from (ends_as end) = record { items = []; end = end }
all_after from (goes_on item to) =
    let more = from to in record { items = item ∷ more.items; end = more.end }

abbrev pub read_all : {S A : Type 0} → ℕ → (S → NextItem A S) → S → AllRead A
read_all zero next at = record { items = []; end = Outside }
read_all (suc limit) next at = all_after (λ to. read_all limit next to) (next at)

-- the rows of a file from a place on, and all of them
abbrev pub rows_from : List ℕ → RowPosition → AllRead RowItem
rows_from file at = read_all ((length file + 1) * (most_rows + 1)) (read_row file) at

abbrev pub read_rows : List ℕ → AllRead RowItem
read_rows file = rows_from file (first_at 0 0)

-- the forms of a file's pages from a page on, and all of them
abbrev pub forms_from : List ℕ → ℕ → AllRead FormItem
forms_from file p = read_all (length file + 1) (read_form file) p

abbrev pub read_forms : List ℕ → AllRead FormItem
read_forms file = forms_from file 0
