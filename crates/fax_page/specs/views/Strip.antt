-- The limits of a strip, how a strip without notes is reported, and what is found in rows of a
-- strip of unknown height. A definition without a citation is this project's profile.
use Rattle.std.specs.Prelude.{◌≡◌, ◌≢◌, ◌<◌, ◌≤◌, ◌^◌, Bool, true, List, length, Err, ⊤}
use Rattle.fax_page.specs.declared.Coding.TheVariants.{Mmr}
use Rattle.fax_page.specs.declared.StripForm.{StripForm}
use Rattle.fax_page.specs.declared.notes.NotesFault.{NotesFault}
use Rattle.fax_page.specs.declared.notes.NotesFault.TheVariants.{Memory, Strip}
use Rattle.fax_page.specs.declared.notes.UncountedNotes.{UncountedNotes}
use Rattle.fax_page.specs.Strip.{most_rows, noted, notes_after, read_strip}
use Rattle.fax_page.specs.Uncounted.{rows_end, uncounted}

-- a strip's limits: rows of 1 to 65,535 pels, and 1 to 1,000,000 of them; EOLs are aligned only
-- where rows have them
pub record IsStripForm (form : StripForm) : Type 0 where
  pub some_pels : 0 < form.width
  pub short_rows : form.width < 2 ^ 16
  pub some_rows : 0 < form.rows
  pub few_rows : form.rows ≤ most_rows
  pub aligned : form.aligned ≡ true → form.coding ≢ Mmr

-- a strip has no notes: this row of it cannot be read. Of want of memory nothing is said
abbrev pub IsNotesFault : StripForm → List Bool → NotesFault → Type 0
IsNotesFault form b Memory = ⊤
IsNotesFault form b (Strip row fault) = noted form b ≡ Err (row, fault)

-- how many rows of a strip of unknown height are in the bits, how they end, and the notes on them
-- as on a strip of so many rows
abbrev pub noted_uncounted : StripForm → List Bool → UncountedNotes
noted_uncounted form b =
    let strip = read_strip (uncounted form) b in
    let rows = length strip.rows in
    record {
      rows = rows;
      end = rows_end form.coding rows strip.remaining strip.end;
      notes = notes_after form b strip.rows strip.remaining;
    }
