-- What is worth a note in a strip, as it is found row by row, is what a function says.
use Rattle.std.specs.List.{Contains, list_any}
use Rattle.std.proofs.Common.{arith, ◌≡◌, ◌≢◌, ℕ, zero, suc, ◌+◌, ◌↔◌, ◌⊎◌, List, [], ◌∷◌, ◌++◌, length, Bool, true}
use Rattle.std.proofs.Common.{false, true≢false, refl, ap, sym, subst, ◌∙◌, inl, inr, IsTrue, Option, Some, None}
use Rattle.std.specs.Prelude.{MatchOption, is_some, not, ◌&&◌, unwrap_or}
use Rattle.std.proofs.lemmas.List.{append_cancel_left, length-replicate}
use Rattle.fax_bits.specs.declared.Colour.{Colour}
use Rattle.fax_bits.specs.declared.Colour.TheVariants.{White}
use Rattle.fax_bits.specs.Bits.{StartsWith}
use Rattle.fax_bits.specs.Codes.{after_front}
use Rattle.fax_bits.specs.Reading.{read, failed}
use Rattle.fax_bits.proofs.CodeLemmas.{front_is}
use Rattle.fax_rows.specs.laws.Rows.{OneDimensionalBitsAreRead, TwoDimensionalBitsAreRead}
use Rattle.fax_page.specs.declared.Coding.{Coding}
use Rattle.fax_page.specs.declared.Coding.TheVariants.{Mh, Mr, Mmr}
use Rattle.fax_page.specs.declared.Dimension.{Dimension}
use Rattle.fax_page.specs.declared.StripFault.{StripFault}
use Rattle.fax_page.specs.declared.StripForm.{StripForm}
use Rattle.fax_page.specs.declared.notes.StripNotes.{StripNotes}
use Rattle.fax_page.specs.Lines.{IsLine, read_codes, read_start, white_row}
use Rattle.fax_page.specs.Strip.{after_mark, end_bits, has_other_choice, is_mmr, notes_after, row_bits}
use Rattle.fax_page.specs.views.Strip.{IsStripForm}
use Rattle.fax_page.specs.code.Ends.{AreRtcEols, HasEndMark, IsEndMark}
use Rattle.fax_page.specs.code.Notes.{AreNotesAfter, HasNonCanonicalRow, HasOtherCodes, IsAfterEnd}
use Rattle.fax_page.specs.laws.Lines.{AreLines}
use Rattle.fax_page.specs.laws.Strips.{ReadsLinesOneWay}
use Rattle.fax_page.proofs.EndGraph.{IsAfterMark, has_mark, mark_is}
use Rattle.fax_page.proofs.EndLemmas.{same_return_eol}
use Rattle.fax_page.proofs.LineParts.{parts}
use Rattle.fax_page.proofs.WrittenLaws.{row_back}

-- the EOLs of a return to control, and an end mark, are taken in one way
same_eols : (coding : Coding) (n : ℕ) (b rest other : List Bool) → AreRtcEols coding n b rest
    → AreRtcEols coding n b other
    → rest ≡ other
same_eols coding zero b rest other first second = sym first ∙ second
same_eols coding (suc n) b rest other first second =
    let same = same_return_eol coding b first.0 second.0 first.1 second.1 in
    same_eols coding n first.0 rest other first.2 (subst (λ c. AreRtcEols coding n c other) (sym same) second.2)

same_mark : (coding : Coding) (b rest other : List Bool) → IsEndMark coding b rest → IsEndMark coding b other
    → rest ≡ other
same_mark Mh b rest other first second = same_eols Mh 6 b rest other first second
same_mark Mr b rest other first second = same_eols Mr 6 b rest other first second
same_mark Mmr b rest other first second = append_cancel_left (end_bits Mmr) rest other (sym first ∙ second)

same_after : (coding : Coding) (remaining after other : List Bool) → IsAfterEnd coding remaining after
    → IsAfterEnd coding remaining other → after ≡ other
same_after coding remaining after other h h' = grind (arith, same_mark)

-- two flags of one fact
same_flag : (a b : Bool) (P : Type 0) → IsTrue a ↔ P → IsTrue b ↔ P → a ≡ b
same_flag a b P first second = grind arith

-- what stands after the end mark
after_end : (coding : Coding) (b : List Bool) (r : Option (List Bool)) → IsAfterMark coding b r
    → IsAfterEnd coding b (unwrap_or r b)
after_end coding b None none = inr (none, refl)
after_end coding b (Some rest) is = inl is

no_block : (coding : Coding) (m : Bool) (P : Type 0) → IsTrue m ↔ P
    → IsTrue (is_mmr coding && not m) ↔ ((coding ≡ Mmr) × (P → ⊥))
no_block Mh m P is = (λ e. absurd (cc (e)), λ h. absurd (cc (h.0)))
no_block Mr m P is = (λ e. absurd (cc (e)), λ h. absurd (cc (h.0)))
no_block Mmr true P is = (λ e. absurd (cc (e)), λ h. absurd (h.1 (is.0 refl)))
no_block Mmr false P is = (λ e. (refl, λ p. true≢false (sym (is.1 p))), λ h. refl)

is_return_to : (coding : Coding) (m : Bool) (P : Type 0) → IsTrue m ↔ P
    → IsTrue (not (is_mmr coding) && m) ↔ ((coding ≢ Mmr) × P)
is_return_to Mh m P is = (λ e. ((λ same. cc (same)), is.0 e), λ h. is.1 h.1)
is_return_to Mr m P is = (λ e. ((λ same. cc (same)), is.0 e), λ h. is.1 h.1)
is_return_to Mmr m P is = (λ e. absurd (cc (e)), λ h. absurd (h.0 refl))

-- a 1 is among the bits
has_one : (b : List Bool) → IsTrue (list_any (λ bit. bit) b) ↔ Contains b true
has_one [] = (λ e. absurd (cc (e)), λ has. absurd (omega (arith, has.1)))
has_one (true ∷ b) = (λ e. (0, omega arith, refl), λ has. refl)
has_one (false ∷ b) = (
  λ e. let has = (has_one b).0 e in (suc has.0, omega (arith, has.1), has.2),
  λ has. (has_one b).1 (later has),
)
  where
    later : Contains (false ∷ b) true → Contains b true
    later (zero, less, is) = absurd (true≢false (sym is))
    later (suc k, less, is) = (k, omega (arith, less), is)

module _ (one : OneDimensionalBitsAreRead) (two : TwoDimensionalBitsAreRead)
    (reads : (form : StripForm) (i : ℕ) (reference : List Colour) → ReadsLinesOneWay form i reference)
    (form : StripForm) (limits : IsStripForm form) where
  width_after : (i : ℕ) (reference row : List Colour) (b rest : List Bool) → length reference ≡ form.width
      → IsLine form i reference b row rest → length row ≡ form.width
  width_after i reference row b rest width line = (reads form i reference).width b row rest width line

  -- where the codes that T.4 chooses stand, what follows them follows the row
  rest_is : (i : ℕ) (reference row : List Colour) (b codes rest after : List Bool) (dimension : Dimension)
      → length reference ≡ form.width → IsLine form i reference b row rest
      → read_start form.coding i b ≡ read dimension codes → codes ≡ row_bits dimension reference row ++ after
      → after ≡ rest
  rest_is i reference row b codes rest after dimension width line start is =
      let origin = parts form i reference b row rest line in
      let both_start : read origin.dimension origin.codes ≡ read dimension codes = sym origin.start ∙ start in
      let same_dimension : origin.dimension ≡ dimension = cc both_start in
      let same_codes : origin.codes ≡ codes = cc both_start in
      let coded : read_codes dimension form.width reference codes ≡ read row rest =
      subst (λ d. read_codes d form.width reference codes ≡ read row rest) same_dimension
      (subst (λ c. read_codes origin.dimension form.width reference c ≡ read row rest) same_codes origin.coded) in
      let back = row_back one two form limits 0 dimension reference row after width
      (width_after i reference row b rest width line) in
      let both : read row after ≡ read row rest =
      sym back ∙ ap (read_codes dimension form.width reference) (sym is) ∙ coded in
      cc both

  -- whether a row is coded otherwise, or one after it, by what follows the codes that T.4 chooses
  abbrev tested : ℕ → List Colour → List (List Colour) → Option (List Bool) → Bool
  tested i row rows r =
      elim r [ None ↦ true | Some rest ↦ has_other_choice form.coding (i + 1) row rest rows ]

  at_start : (i : ℕ) (reference row : List Colour) (rows : List (List Colour)) (b codes : List Bool)
      (dimension : Dimension) → read_start form.coding i b ≡ read dimension codes
      → has_other_choice form.coding i reference b (row ∷ rows)
      ≡ tested i row rows (after_front (row_bits dimension reference row) codes)
  at_start i reference row rows b codes dimension start =
      ap (λ origin. elim origin [
        | failed fault ↦ false
        | read d c ↦ tested i row rows (after_front (row_bits d reference row) c)
      ]) start

  abbrev IsFront : List Bool → List Bool → Option (List Bool) → Type 0
  IsFront front b r = MatchOption r (StartsWith b front → ⊥) (λ rest. b ≡ front ++ rest)

  choice_of : (i : ℕ) (reference : List Colour) (b : List Bool) (rows : List (List Colour))
      → length reference ≡ form.width → HasNonCanonicalRow form i reference b rows
      → has_other_choice form.coding i reference b rows ≡ true
  choice_of i reference b [] width other = absurd other
  choice_of i reference b (row ∷ rows) width (rest, line, inl (dimension, codes, start, other)) =
      at_start i reference row rows b codes dimension start
      ∙ by (after_front (row_bits dimension reference row) codes) (front_is (row_bits dimension reference row) codes)
    where
      by : (r : Option (List Bool)) → IsFront (row_bits dimension reference row) codes r → tested i row rows r ≡ true
      by None none = refl
      by (Some after) is =
          absurd (other (is ∙ ap (λ c. row_bits dimension reference row ++ c)
          (rest_is i reference row b codes rest after dimension width line start is)))
  choice_of i reference b (row ∷ rows) width (rest, line, inr other) =
      let origin = parts form i reference b row rest line in
      let front = row_bits origin.dimension reference row in
      let more = choice_of (i + 1) row rest rows (width_after i reference row b rest width line) other in
      at_start i reference row rows b origin.codes origin.dimension origin.start
      ∙ by origin.codes origin.dimension origin.start more (after_front front origin.codes)
      (front_is front origin.codes)
    where
      by : (codes : List Bool) (dimension : Dimension) → read_start form.coding i b ≡ read dimension codes
          → has_other_choice form.coding (i + 1) row rest rows ≡ true
          → (r : Option (List Bool)) → IsFront (row_bits dimension reference row) codes r → tested i row rows r ≡ true
      by codes dimension start more None none = refl
      by codes dimension start more (Some after) is =
          subst (λ c. has_other_choice form.coding (i + 1) row c rows ≡ true)
          (sym (rest_is i reference row b codes rest after dimension width line start is)) more

  is_choice : (i : ℕ) (reference : List Colour) (b : List Bool) (rows : List (List Colour))
      (end : Option StripFault) (remaining : List Bool) → length reference ≡ form.width
      → AreLines form i reference b rows end remaining
      → has_other_choice form.coding i reference b rows ≡ true → HasNonCanonicalRow form i reference b rows
  is_choice i reference b [] end remaining width lines e = absurd (true≢false (sym e))
  is_choice i reference b (row ∷ rows) end remaining width (rest, upcoming, line, lines) e =
      let origin = parts form i reference b row rest line in
      let front = row_bits origin.dimension reference row in (
        rest,
        line,
        by origin.codes origin.dimension origin.start
            (is_choice (i + 1) row rest rows end remaining (width_after i reference row b rest width line) lines)
            (after_front front origin.codes) (front_is front origin.codes)
            (sym (at_start i reference row rows b origin.codes origin.dimension origin.start) ∙ e),
      )
    where
      by : (codes : List Bool) (dimension : Dimension) → read_start form.coding i b ≡ read dimension codes
          → (has_other_choice form.coding (i + 1) row rest rows ≡ true → HasNonCanonicalRow form (i + 1) row rest rows)
          → (r : Option (List Bool)) → IsFront (row_bits dimension reference row) codes r → tested i row rows r ≡ true
          → HasOtherCodes form i reference b row rest ⊎ HasNonCanonicalRow form (i + 1) row rest rows
      by codes dimension start later None none e = inl (dimension, codes, start, λ same. none (rest, same))
      by codes dimension start later (Some after) is e =
          inr (later (subst (λ c. has_other_choice form.coding (i + 1) row c rows ≡ true)
          (rest_is i reference row b codes rest after dimension width line start is) e))

  abbrev four_notes : Bool → Bool → Bool → Bool → StripNotes
  four_notes block return more choice =
      record { no_end_of_block = block; return_to_control = return; data_after_end = more; not_t4_choice = choice }

  -- the notes on rows of a strip, and on what is left after them
  pub notes_are : (b : List Bool) (rows : List (List Colour)) (stop : Option StripFault) (remaining : List Bool)
      (other : Bool) (notes : StripNotes) → AreLines form 0 (white_row form.width) b rows stop remaining
      → AreNotesAfter form.coding remaining other notes
      → IsTrue other ↔ HasNonCanonicalRow form 0 (white_row form.width) b rows
      → notes ≡ notes_after form b rows remaining
  notes_are b rows stop remaining other notes lines ends choice =
      let r = after_mark form.coding remaining in
      let marked = HasEndMark form.coding remaining in
      let is = mark_is form.coding remaining in
      let mark = has_mark form.coding remaining r is in
      let after = same_after form.coding remaining ends.after (unwrap_or r remaining) ends.after_end
      (after_end form.coding remaining r is) in
      let wide = length-replicate form.width White in
      let own = has_other_choice form.coding 0 (white_row form.width) b rows in
      let last = list_any (λ bit. bit) (unwrap_or r remaining) in
      let block_is = same_flag notes.no_end_of_block (is_mmr form.coding && not (is_some r))
      ((form.coding ≡ Mmr) × (marked → ⊥)) ends.no_end_of_block (no_block form.coding (is_some r) marked mark) in
      let return_is = same_flag notes.return_to_control (not (is_mmr form.coding) && is_some r)
      ((form.coding ≢ Mmr) × marked) ends.return_to_control (is_return_to form.coding (is_some r) marked mark) in
      let more_is = same_flag notes.data_after_end last (Contains ends.after true) ends.data_after_end
      (subst (λ l. IsTrue last ↔ Contains l true) (sym after) (has_one (unwrap_or r remaining))) in
      let choice_is = ends.other_is ∙ same_flag other own
      (HasNonCanonicalRow form 0 (white_row form.width) b rows) choice (
        is_choice 0 (white_row form.width) b rows stop remaining wide lines,
        choice_of 0 (white_row form.width) b rows wide,
      ) in
      ap (λ flag. four_notes flag notes.return_to_control notes.data_after_end notes.not_t4_choice) block_is
      ∙ ap (λ flag. four_notes (is_mmr form.coding && not (is_some r)) flag notes.data_after_end notes.not_t4_choice)
      return_is
      ∙ ap (λ flag. four_notes (is_mmr form.coding && not (is_some r)) (not (is_mmr form.coding) && is_some r) flag
      notes.not_t4_choice) more_is
      ∙ ap (four_notes (is_mmr form.coding && not (is_some r)) (not (is_mmr form.coding) && is_some r) last) choice_is
