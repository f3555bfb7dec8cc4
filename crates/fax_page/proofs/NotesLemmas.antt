-- A strip that is read for its notes, row by row.
use Rattle.fax_page.proofs.StartLaws.{IsStart}
use Rattle.std.proofs.Common.{◌≡◌, ℕ, ◌+◌, ◌<◌, ◌↔◌, List, [], ◌∷◌}
use Rattle.std.proofs.Common.{◌++◌, length, Bool, true, false, IsTrue, refl, ap}
use Rattle.std.proofs.Common.{sym, ◌∙◌, subst}
use Rattle.std.proofs.Common.{arith, append_assoc, append-nil, length-append, inl, inr, Option, Some, None}
use Rattle.std.proofs.Common.{Ok, Err}
use Rattle.std.specs.Prelude.{Result}
use Rattle.fax_bits.specs.declared.Colour.{Colour}
use Rattle.fax_bits.specs.Bits.{StartsWith}
use Rattle.fax_rows.specs.laws.Rows.{HasWidth, OneDimensionalBitsAreRead, TwoDimensionalBitsAreRead}
use Rattle.fax_page.specs.declared.Dimension.{Dimension}
use Rattle.fax_page.specs.declared.StripForm.{StripForm}
use Rattle.fax_page.specs.declared.StripFault.{StripFault}
use Rattle.fax_page.specs.declared.notes.NotesFault.{NotesFault}
use Rattle.fax_page.specs.declared.notes.NotesFault.TheVariants.{Memory, Strip}
use Rattle.fax_page.specs.declared.notes.StripNotes.{StripNotes}
use Rattle.fax_bits.specs.Reading.{read}
use Rattle.fax_page.specs.Lines.{IsLine, read_codes, white_row}
use Rattle.fax_page.specs.Strip.{StripRead, most_rows, noted, notes_after, row_bits}
use Rattle.fax_page.specs.views.Strip.{IsNotesFault, IsStripForm, noted_uncounted}
use Rattle.fax_page.proofs.NoteGraph.{notes_are}
use Rattle.fax_page.proofs.StripGraph.{strip_of}
use Rattle.fax_page.proofs.StripLaws.{EndsAt, no_rows}
use Rattle.fax_page.specs.Uncounted.{RowsEnd, rows_end, uncounted}
use Rattle.fax_page.specs.laws.Lines.{AreLines}
use Rattle.fax_page.specs.declared.notes.UncountedNotes.{UncountedNotes}
use Rattle.fax_page.specs.laws.Strips.{ReadsLinesOneWay}
use Rattle.fax_page.specs.code.Notes.{IsChosen}
use Rattle.fax_page.specs.code.Notes.{AreCodesRead, IsChoiceNoted, AreCodesNoted, IsCodesFault, IsLineNoted}
use Rattle.fax_page.specs.code.Notes.{IsLineFault, AreRowsRead, AreNotesAfter}
use Rattle.fax_page.specs.code.Notes.{AreFoundAfter, HasNonCanonicalRow, HasOtherCodes}
use Rattle.fax_page.proofs.StartedLemmas.{cause_in_codes}
use Rattle.fax_page.proofs.FirstCodeLemmas.{line_started}
use Rattle.fax_page.proofs.StartedLemmas.{one_started}

-- what follows the codes that T.4 chooses is what follows the row
module _ (one : OneDimensionalBitsAreRead) (two : TwoDimensionalBitsAreRead) where
  -- codes that were read, and whether those that T.4 chooses begin where they do
  pub codes_read : (form : StripForm) (reference row : List Colour) (codes rest put : List Bool) (dimension : Dimension)
      (chosen : Bool)
      → HasWidth row → length row ≡ form.width → length reference ≡ form.width
      → read_codes dimension form.width reference codes ≡ read row rest
      → put ≡ row_bits dimension reference row → IsTrue chosen ↔ StartsWith codes put
      → AreCodesRead form dimension reference codes row rest chosen
  codes_read form reference row codes rest put dimension chosen fits is_width reference_width coded put_is begins =
      grind arith

module _ (reads : (form : StripForm) (i : ℕ) (reference : List Colour) → ReadsLinesOneWay form i reference) where
  -- whether a row that is read is chosen
  other_codes : (form : StripForm) (i : ℕ) (reference row : List Colour) (b rest remaining : List Bool)
      (other now : Bool)
      → IsLineNoted form i reference b row rest other now → IsLine form i reference b row remaining
      → HasOtherCodes form i reference b row remaining
      → (rest ≡ remaining) × (now ≡ true)
  other_codes form i reference row b rest remaining other now noted line choice =
      let after = ((reads form i reference).line.one_answer b row row rest remaining noted.line line).1 in
      let start = one_started form.coding i b _ _ _ _ noted.start choice.2 in (
        after,
        marks now noted.noted.none (λ is. choice.3 (
            sym start.1 ∙ is ∙ ap (λ (d : Dimension). row_bits d reference row ++ rest) start.0
            ∙ ap (λ c. row_bits choice.0 reference row ++ c) after)),
      )
    where
      marks : (now : Bool) → (now ≡ false → IsChosen noted.dimension reference noted.codes row rest)
          → (IsChosen noted.dimension reference noted.codes row rest → ⊥) → now ≡ true
      marks now none other_choice = grind arith

  -- one more row: whether some row is coded otherwise is true then, where this one is
  pub row_noted : (form : StripForm) (b remaining rest : List Bool) (i : ℕ) (reference row : List Colour) (other now :
      Bool)
      → i < form.rows → AreRowsRead form b i reference remaining other
      → IsLineNoted form i reference remaining row rest other now
      → AreRowsRead form b (i + 1) row rest now
  row_noted form b remaining rest i reference row other now upcoming so_far noted = record {
    before = so_far.before ++ row ∷ [];
    count = omega (arith, so_far.count, length-append so_far.before (row ∷ []));
    lines = λ more end after lines.
        subst (λ rows. AreLines form 0 (white_row form.width) b rows end after)
        (sym (append_assoc so_far.before (row ∷ []) more))
        (so_far.lines (row ∷ more) end after (rest, upcoming, noted.line, lines));
    found = λ is more. onto more (elim (noted.noted.found is) [
      | inl before ↦ so_far.found before (row ∷ more)
      | inr other_choice ↦ so_far.onward (row ∷ more)
          (rest, noted.line, inl (noted.dimension, noted.codes, noted.start, other_choice))
    ]);
    onward = λ more has. onto more (so_far.onward (row ∷ more) (rest, noted.line, inr has));
    back = λ more has.
        elim (so_far.back (row ∷ more) (subst (λ rows. HasNonCanonicalRow form 0 (white_row form.width) b rows)
        (append_assoc so_far.before (row ∷ []) more) has)) [
          | inl is ↦ inl (noted.noted.kept is)
          | inr here ↦
              let same = ((reads form i reference).line.one_answer remaining row row rest here.0 noted.line here.1).1 in
              elim here.2 [
                | inl other_choice ↦
                    inl (other_codes form i reference row remaining rest here.0 other now noted here.1 other_choice).1
                | inr after ↦ inr (subst (λ c. HasNonCanonicalRow form (i + 1) row c more) (sym same) after)
              ]
        ];
  }
    where
      onto : (more : List (List Colour)) → HasNonCanonicalRow form 0 (white_row form.width) b (so_far.before ++ row
          ∷ more)
          → HasNonCanonicalRow form 0 (white_row form.width) b ((so_far.before ++ row ∷ []) ++ more)
      onto more has =
          subst (λ rows. HasNonCanonicalRow form 0 (white_row form.width) b rows)
          (sym (append_assoc so_far.before (row ∷ []) more)) has

-- no row was read
pub none_read : (form : StripForm) (b remaining : List Bool) (reference : List Colour) → reference
    ≡ white_row form.width
    → remaining ≡ b
    → AreRowsRead form b 0 reference remaining false
none_read form b remaining reference white all = rw (white, all) (record {
  before = [];
  count = refl;
  lines = λ more end after lines. lines;
  found = λ is. cc;
  onward = λ more has. has;
  back = λ more has. inr has;
})

-- codes that are seen to be chosen
pub codes_seen : (chosen : Type 0) (other : Bool) → chosen → IsChoiceNoted chosen other other
codes_seen chosen other is = record { kept = λ h. h; found = λ h. inl h; none = λ h. is }

-- a row whose codes were read after what stands before them
pub line_noted : (form : StripForm) (i : ℕ) (reference row : List Colour) (b codes rest : List Bool)
    (dimension : Dimension)
    (other now : Bool) → 0 < form.width → IsStart form.coding i b (read dimension codes)
    → AreCodesNoted form dimension reference codes row rest other now
    → IsLineNoted form i reference b row rest other now
line_noted form i reference row b codes rest dimension other now some start noted = record {
  line = line_started form i reference row b codes rest dimension some start noted.coded;
  dimension = dimension;
  codes = codes;
  start = start;
  noted = noted.noted;
}

-- and one whose codes cannot be read
pub codes_fault : (form : StripForm) (i : ℕ) (reference : List Colour) (b codes : List Bool) (dimension : Dimension)
    (fault : NotesFault)
    → IsStart form.coding i b (read dimension codes) → IsCodesFault form i dimension reference codes fault
    → IsLineFault form i reference b fault
codes_fault form i reference b codes dimension Memory start is = tt
codes_fault form i reference b codes dimension (Strip row fault) start is =
    (is.0, cause_in_codes form i reference b dimension codes is.1 fault start is.3 is.2)

-- the rows so far, and an end after them
stopped : (form : StripForm) (b remaining : List Bool) (i : ℕ) (reference : List Colour) (other : Bool)
    (end : Option StripFault)
    (so_far : AreRowsRead form b i reference remaining other) → EndsAt form i reference remaining end
    → AreLines form 0 (white_row form.width) b so_far.before end remaining
stopped form b remaining i reference other end so_far stop =
    subst (λ rows. AreLines form 0 (white_row form.width) b rows end remaining) (append-nil so_far.before)
    (so_far.lines [] end remaining (no_rows form i reference remaining end stop))

-- what is noted of the rows that are read
abbrev notes_or_fault : StripForm → List Bool → StripRead → Result StripNotes (ℕ × StripFault)
notes_or_fault form b strip =
    elim strip.end [
      | None ↦ Ok (notes_after form b strip.rows strip.remaining)
      | Some fault ↦ Err (length strip.rows, fault)
    ]

-- a row that cannot be read; or memory was refused
pub no_notes : (form : StripForm) (b remaining : List Bool) (i : ℕ) (reference : List Colour) (other : Bool)
    (fault : NotesFault)
    → i < form.rows → AreRowsRead form b i reference remaining other → IsLineFault form i reference remaining fault
    → IsNotesFault form b fault
no_notes form b remaining i reference other Memory upcoming so_far fault = tt
no_notes form b remaining i reference other (Strip row fault) upcoming so_far (here, cause) =
    let lines = stopped form b remaining i reference other (Some fault) so_far (upcoming, cause) in
    ap (notes_or_fault form b) (strip_of form b so_far.before (Some fault) remaining lines)
    ∙ ap (λ n. Err (n, fault)) (so_far.count ∙ sym here)

-- whether some row so far is coded otherwise
other_there : (form : StripForm) (b remaining : List Bool) (i : ℕ) (reference : List Colour) (other : Bool)
    (so_far : AreRowsRead form b i reference remaining other) → other ≡ true
    → HasNonCanonicalRow form 0 (white_row form.width) b so_far.before
other_there form b remaining i reference other so_far is =
    subst (λ rows. HasNonCanonicalRow form 0 (white_row form.width) b rows) (append-nil so_far.before) (so_far.found is
    [])

other_found : (form : StripForm) (b remaining : List Bool) (i : ℕ) (reference : List Colour) (other : Bool)
    (so_far : AreRowsRead form b i reference remaining other)
    → HasNonCanonicalRow form 0 (white_row form.width) b so_far.before
    → other ≡ true
other_found form b remaining i reference other so_far has =
    elim (so_far.back [] (subst (λ rows. HasNonCanonicalRow form 0 (white_row form.width) b rows)
    (sym (append-nil so_far.before)) has)) [
      | inl is ↦ is
      | inr none ↦ absurd none
    ]

module _ (one : OneDimensionalBitsAreRead) (two : TwoDimensionalBitsAreRead)
    (reads : (form : StripForm) (i : ℕ) (reference : List Colour) → ReadsLinesOneWay form i reference)
    (form : StripForm) where
  -- the notes on the rows so far, where no more follow
  noted_to : (b remaining : List Bool) (i : ℕ) (reference : List Colour) (other : Bool) (stop : Option StripFault)
      (notes : StripNotes) → IsStripForm form
      → (so_far : AreRowsRead form b i reference remaining other)
      → AreLines form 0 (white_row form.width) b so_far.before stop remaining
      → AreNotesAfter form.coding remaining other notes → notes ≡ notes_after form b so_far.before remaining
  noted_to b remaining i reference other stop notes limits so_far lines ends =
      notes_are one two reads form limits b so_far.before stop remaining other notes lines ends
      (other_there form b remaining i reference other so_far, other_found form b remaining i reference other so_far)

  -- all rows were read
  pub all_noted : (b remaining : List Bool) (i : ℕ) (reference : List Colour) (other : Bool) (notes : StripNotes)
      → IsStripForm form → i ≡ form.rows → AreRowsRead form b i reference remaining other
      → AreNotesAfter form.coding remaining other notes → noted form b ≡ Ok notes
  all_noted b remaining i reference other notes limits all so_far ends =
      let lines = stopped form b remaining i reference other None so_far all in
      ap (notes_or_fault form b) (strip_of form b so_far.before None remaining lines)
      ∙ ap Ok (sym (noted_to b remaining i reference other None notes limits so_far lines ends))

module _ (one : OneDimensionalBitsAreRead) (two : TwoDimensionalBitsAreRead)
    (reads : (form : StripForm) (i : ℕ) (reference : List Colour) → ReadsLinesOneWay form i reference)
    (form : StripForm) (limits : IsStripForm (uncounted form)) where
  found_as : {a b : ℕ} {c d : RowsEnd} {e f : StripNotes} → a ≡ b → c ≡ d → e ≡ f
      → ◌≡◌ {A = UncountedNotes} (record { rows = a; end = c; notes = e }) (record { rows = b; end = d; notes = f })
  found_as rows end notes = cc (rows, end, notes)

  abbrev found_of : List Bool → StripRead → UncountedNotes
  found_of b strip = record {
    rows = length strip.rows;
    end = rows_end form.coding (length strip.rows) strip.remaining strip.end;
    notes = notes_after form b strip.rows strip.remaining;
  }

  -- rows of a strip of unknown height were read, and none is after them
  pub uncounted_noted : (b remaining : List Bool) (i : ℕ) (reference : List Colour) (other : Bool)
      (stop : Option StripFault) (found : UncountedNotes)
      → AreRowsRead (uncounted form) b i reference remaining other
      → EndsAt (uncounted form) i reference remaining stop
      → AreFoundAfter form.coding remaining i stop other found → found ≡ noted_uncounted form b
  uncounted_noted b remaining i reference other stop found so_far stops ends =
      let lines = stopped (uncounted form) b remaining i reference other stop so_far stops in
      let read = strip_of (uncounted form) b so_far.before stop remaining lines in
      let notes = noted_to one two reads (uncounted form) b remaining i reference other stop found.notes limits so_far
      lines ends.notes in
      let count : i ≡ length so_far.before = sym so_far.count in
      found_as (ends.rows_are ∙ count) (ends.end ∙ ap (λ n. rows_end form.coding n remaining stop) count) notes
      ∙ sym (ap (found_of b) read)

  pub uncounted_stopped : (b remaining : List Bool) (i : ℕ) (reference : List Colour) (other : Bool)
      (fault : StripFault) (row : ℕ) (found : UncountedNotes) → i < most_rows
      → AreRowsRead (uncounted form) b i reference remaining other
      → IsLineFault (uncounted form) i reference remaining (Strip row fault)
      → AreFoundAfter form.coding remaining i (Some fault) other found → found ≡ noted_uncounted form b
  uncounted_stopped b remaining i reference other fault row found upcoming so_far stop ends =
      uncounted_noted b remaining i reference other (Some fault) found so_far (upcoming, stop.1) ends
