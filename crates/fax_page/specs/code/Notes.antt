-- A strip that is read for its notes.
use Rattle.std.specs.Prelude.{◌≡◌, ◌≢◌, ℕ, ◌+◌, ◌⊎◌, ◌↔◌, Bool, true, false, List, [], ◌∷◌, ◌++◌}
use Rattle.std.specs.Prelude.{length, Option, Some, None, IsTrue, ⊤}
use Rattle.std.specs.List.{Contains}
use Rattle.fax_bits.specs.declared.Colour.{Colour}
use Rattle.fax_bits.specs.views.Source.{Source}
use Rattle.fax_page.specs.declared.Coding.{Coding}
use Rattle.fax_page.specs.declared.Coding.TheVariants.{Mmr}
use Rattle.fax_page.specs.declared.StripForm.{StripForm}
use Rattle.fax_page.specs.declared.StripFault.{StripFault}
use Rattle.fax_page.specs.declared.uncounted.RtcEol.{RtcEol}
use Rattle.fax_page.specs.declared.uncounted.RtcEol.TheVariants.{Cut, Other, Whole}
use Rattle.fax_page.specs.declared.notes.NotedRows.{NotedRows}
use Rattle.fax_page.specs.declared.notes.NotedStrip.{NotedStrip}
use Rattle.fax_page.specs.declared.notes.NotesFault.{NotesFault}
use Rattle.fax_page.specs.declared.notes.NotesFault.TheVariants.{Memory, Strip}
use Rattle.fax_page.specs.declared.notes.StripNotes.{StripNotes}
use Rattle.fax_page.specs.declared.notes.UncountedNotes.{UncountedNotes}
use Rattle.fax_page.specs.declared.Dimension.{Dimension}
use Rattle.fax_page.specs.views.Strip.{IsStripForm}
use Rattle.fax_rows.specs.declared.RowFault.{RowFault}
use Rattle.fax_bits.specs.Reading.{read, failed}
use Rattle.fax_page.specs.Lines.{IsLine, IsCause, read_codes, read_start, white_row}
use Rattle.fax_page.specs.code.Starts.{IsStop}
use Rattle.fax_page.specs.Strip.{row_bits}
use Rattle.fax_page.specs.code.Ends.{IsRtcEol, AreRtcEols, IsEndMark, HasEndMark}
use Rattle.fax_page.specs.Uncounted.{rows_end}
use Rattle.fax_page.specs.laws.Lines.{AreLines}

-- the codes of row i, after what stands before them, are others than those that T.4 chooses
abbrev pub HasOtherCodes : StripForm → ℕ → List Colour → List Bool → List Colour → List Bool
    → Type 0
HasOtherCodes form i reference b row rest =
    (dimension : Dimension) × (codes : List Bool)
    × (read_start form.coding i b ≡ read dimension codes)
    × (codes ≢ row_bits dimension reference row ++ rest)

-- from row i on, over this reference, the codes of some row are others than those that T.4 chooses
abbrev pub HasNonCanonicalRow : StripForm → ℕ → List Colour → List Bool → List (List Colour)
    → Type 0
HasNonCanonicalRow form i reference b [] = ⊥
HasNonCanonicalRow form i reference b (row ∷ rows) =
    (rest : List Bool) × IsLine form i reference b row rest
    × (HasOtherCodes form i reference b row rest ⊎ HasNonCanonicalRow form (i + 1) row rest rows)

-- a row's codes are those that T.4 chooses (T.4, sections 4.1.1 and 4.2.1.3.3)
abbrev pub IsChosen : Dimension → List Colour → List Bool → List Colour → List Bool → Type 0
IsChosen dimension reference codes row rest = codes ≡ row_bits dimension reference row ++ rest

-- both rows have this width
pub record HasRowsOf (width : ℕ) (rows : NotedRows) : Type 0 where
  pub reference_width : length rows.reference ≡ width
  pub row_width : length rows.row ≡ width

-- a strip is read for its notes: its form is within the limits, and both rows have its width
pub record IsNoting (strip : NotedStrip) (rows : NotedRows) : Type 0 where
  pub limits : IsStripForm strip.form
  pub widths : HasRowsOf strip.form.width rows

-- the codes of a row were read, and whether they are those that T.4 chooses
pub record AreCodesRead (form : StripForm) (dimension : Dimension) (reference : List Colour)
    (b : List Bool) (row : List Colour) (rest : List Bool) (chosen : Bool) : Type 0 where
  pub coded : read_codes dimension form.width reference b ≡ read row rest
  pub choice : IsTrue chosen ↔ IsChosen dimension reference b row rest

-- whether the codes of a row, or those of a row before it, are others than T.4 chooses, where they
-- are chosen by this
pub record IsChoiceNoted (chosen : Type 0) (other : Bool) (now : Bool) : Type 0 where
  pub kept : other ≡ true → now ≡ true
  pub found : now ≡ true → (other ≡ true) ⊎ (chosen → ⊥)
  pub none : now ≡ false → chosen

-- the codes of a row were read, and whether they, or those of a row before it, are others than T.4
-- chooses
pub record AreCodesNoted (form : StripForm) (dimension : Dimension) (reference : List Colour)
    (b : List Bool) (row : List Colour) (rest : List Bool) (other : Bool) (now : Bool)
    : Type 0 where
  pub coded : read_codes dimension form.width reference b ≡ read row rest
  pub noted : IsChoiceNoted (IsChosen dimension reference b row rest) other now

-- row i was read, and whether its codes, or those of a row before it, are others than T.4 chooses
pub record IsLineNoted (form : StripForm) (i : ℕ) (reference : List Colour) (b : List Bool)
    (row : List Colour) (rest : List Bool) (other : Bool) (now : Bool) : Type 0 where
  pub line : IsLine form i reference b row rest
  pub dimension : Dimension
  pub codes : List Bool
  pub start : read_start form.coding i b ≡ read dimension codes
  pub noted : IsChoiceNoted (IsChosen dimension reference codes row rest) other now

-- the codes of row i cannot be read. Of want of memory nothing is said
abbrev pub IsCodesFault : StripForm → ℕ → Dimension → List Colour → List Bool → NotesFault → Type 0
IsCodesFault form i dimension reference b Memory = ⊤
IsCodesFault form i dimension reference b (Strip row fault) =
    (row ≡ i) × (cause : RowFault)
    × (read_codes dimension form.width reference b ≡ failed cause) × IsStop b cause fault

-- row i cannot be read. Of want of memory nothing is said
abbrev pub IsLineFault : StripForm → ℕ → List Colour → List Bool → NotesFault → Type 0
IsLineFault form i reference b Memory = ⊤
IsLineFault form i reference b (Strip row fault) = (row ≡ i) × IsCause form i reference b fault

-- the rows before row i were read, the last of them is the reference, and whether some of them is
-- coded otherwise than T.4 chooses
pub record AreRowsRead (form : StripForm) (b : List Bool) (i : ℕ) (reference : List Colour)
    (remaining : List Bool) (other : Bool) : Type 0 where
  pub before : List (List Colour)
  pub count : length before ≡ i
  pub lines : (more : List (List Colour)) (end : Option StripFault) (after : List Bool)
      → AreLines form i reference remaining more end after
      → AreLines form 0 (white_row form.width) b (before ++ more) end after
  pub found : other ≡ true → (more : List (List Colour))
      → HasNonCanonicalRow form 0 (white_row form.width) b (before ++ more)
  pub onward : (more : List (List Colour)) → HasNonCanonicalRow form i reference remaining more
      → HasNonCanonicalRow form 0 (white_row form.width) b (before ++ more)
  pub back : (more : List (List Colour))
      → HasNonCanonicalRow form 0 (white_row form.width) b (before ++ more)
      → (other ≡ true) ⊎ HasNonCanonicalRow form i reference remaining more

-- whether an EOL of a return to control stands next, after which the source goes then
abbrev pub TakesReturnEol : Coding → List Bool → Bool → List Bool → Type 0
TakesReturnEol coding b true rest = IsRtcEol coding b rest
TakesReturnEol coding b false rest = (after : List Bool) → IsRtcEol coding b after → ⊥

-- an EOL of a return to control was taken; or bits that follow may make one, which ends with them;
-- or none may
abbrev pub IsMarkEol : Coding → List Bool → RtcEol → List Bool → Type 0
IsMarkEol coding b Whole rest = IsRtcEol coding b rest
IsMarkEol coding b Cut rest = (more : List Bool) × IsRtcEol coding (b ++ more) []
IsMarkEol coding b Other rest =
    (more after : List Bool) → IsRtcEol coding (b ++ more) after → ⊥

-- the bits begin with a return to control, or may where more follow
abbrev pub MayHaveReturn : Coding → List Bool → Type 0
MayHaveReturn coding b = (more rest : List Bool) × AreRtcEols coding 6 (b ++ more) rest

-- so many EOLs were taken: as many as stand ahead, and these, stand in the bits
pub record AreEolsTaken (coding : Coding) (b : List Bool) (i : ℕ) (ahead : List Bool) : Type 0 where
  pub onward : (n : ℕ) (rest : List Bool) → AreRtcEols coding n ahead rest
      → AreRtcEols coding (i + n) b rest
  pub back : (n : ℕ) (rest : List Bool) → AreRtcEols coding (i + n) b rest
      → AreRtcEols coding n ahead rest

-- what stands after a mark, or nothing where there is none
abbrev pub IsAfterMark : (List Bool → Type 0) → Option Source → Type 0
IsAfterMark mark (Some source) = mark source.remaining
IsAfterMark mark None = (rest : List Bool) → mark rest → ⊥

-- what stands after the end mark, or all of the bits where they begin with none
abbrev pub IsAfterEnd : Coding → List Bool → List Bool → Type 0
IsAfterEnd coding b after = IsEndMark coding b after ⊎ ((HasEndMark coding b → ⊥) × (after ≡ b))

-- the notes on a strip by what is left after its rows, and whether some row is coded otherwise
-- than T.4 chooses
pub record AreNotesAfter (coding : Coding) (remaining : List Bool) (other : Bool)
    (notes : StripNotes) : Type 0 where
  pub after : List Bool
  pub after_end : IsAfterEnd coding remaining after
  pub no_end_of_block : IsTrue notes.no_end_of_block ↔
      ((coding ≡ Mmr) × (HasEndMark coding remaining → ⊥))
  pub return_to_control : IsTrue notes.return_to_control ↔ ((coding ≢ Mmr)
      × HasEndMark coding remaining)
  pub data_after_end : IsTrue notes.data_after_end ↔ Contains after true
  pub other_is : notes.not_t4_choice ≡ other

-- so many rows end so, and have these notes, by what is left after them, by the fault that is in
-- the way of the next one, and by whether some row is coded otherwise than T.4 chooses
pub record AreFoundAfter (coding : Coding) (remaining : List Bool) (rows : ℕ) (stop : Option
    StripFault)
    (other : Bool) (found : UncountedNotes) : Type 0 where
  pub rows_are : found.rows ≡ rows
  pub end : found.end ≡ rows_end coding rows remaining stop
  pub notes : AreNotesAfter coding remaining other found.notes
