-- After a row of a strip stands a rest of the bits that it began in.
use Rattle.fax_page.proofs.StartLaws.{IsStart}
use Rattle.std.proofs.Common.{arith, ◌≡◌, ℕ, ◌+◌, ◌*◌, ◌≤◌, List, [], length, take, drop, Bool, sym}
use Rattle.std.proofs.Common.{length-drop}
use Rattle.std.proofs.lemmas.List.{take-append-drop}
use Rattle.fax_bits.specs.Reading.{read}
use Rattle.fax_bits.specs.declared.Colour.{Colour}
use Rattle.fax_bits.specs.Bits.{bits}
use Rattle.fax_bits.specs.views.Source.{Source, source_of}
use Rattle.fax_page.specs.declared.Dimension.{Dimension}
use Rattle.fax_page.specs.declared.Coding.{Coding}
use Rattle.fax_page.specs.declared.StripForm.{StripForm}
use Rattle.fax_page.specs.declared.StripFault.{StripFault}
use Rattle.fax_page.specs.Lines.{IsLine, IsCause}
use Rattle.fax_page.specs.laws.Strips.{ReadsLinesOneWay}
use Rattle.fax_page.proofs.FollowingLaws.{start_front}
use Rattle.fax_page.proofs.FrontLemmas.{EndsWith, among, answer_of, onwards}

-- so many bits stand before the codes of a row that begins
pub start_among : (coding : Coding) (i : ℕ) (b : List Bool) (dimension : Dimension) (codes : List Bool)
    → IsStart coding i b (read dimension codes) → (n : ℕ) × (n ≤ length b) × (drop n b ≡ codes)
start_among coding i b dimension codes origin =
    among b codes (answer_of dimension codes origin (start_front [] coding i b)).0

-- so many bits stand before the rest of a row that begins among them
pub rest_among : (form : StripForm) (i : ℕ) (reference : List Colour)
    → ((b : List Bool) (row : List Colour) (rest : List Bool) → IsLine form i reference b row rest → EndsWith b rest)
    → (b : List Bool) (n : ℕ) (row : List Colour) (rest : List Bool)
    → IsLine form i reference (drop n b) row rest → (after : ℕ) × (after ≤ length b) × (drop after b ≡ rest)
rest_among form i reference ends b n row rest line =
    among b rest (onwards b (drop n b) rest (record { front = take n b; parts = sym (take-append-drop n b) })
    (ends (drop n b) row rest line))

-- the cause why there is no row at a place of a source
pub cause_there : (form : StripForm) (i : ℕ) (reference : List Colour) (bytes : List ℕ) (place : ℕ) (old : Source)
    (fault : StripFault)
    → old ≡ source_of form.order bytes place → IsCause form i reference old.remaining fault
    → IsCause form i reference (drop place (bits form.order bytes)) fault
cause_there form i reference bytes place old fault here cause = grind arith

-- a row between two places of a source
module _ (form : StripForm) (i : ℕ) (reference row : List Colour) (bytes : List ℕ) (place after : ℕ) (old new : Source)
    (count : length (bits form.order bytes) ≡ 8 * length bytes) (placed : place ≤ 8 * length bytes)
    (here : old ≡ source_of form.order bytes place) (line : IsLine form i reference old.remaining row new.remaining)
    (same_end : new.place + length new.remaining ≡ old.place + length old.remaining) (after_is : after ≡ new.place)
    (reads : ReadsLinesOneWay form i reference) where
  abbrev b : List Bool
  b = bits form.order bytes

  line_here : IsLine form i reference (drop place b) row new.remaining
  line_here = rw here at line

  from : (n : ℕ) × (n ≤ length b) × (drop n b ≡ new.remaining)
  from = reads.rest b place row new.remaining line_here

  from_is : from.0 ≡ after
  from_is = grind (arith, length-drop)

  pub row_after : new ≡ source_of form.order bytes after
  row_after = grind (arith, from_is)

  pub line_between : IsLine form i reference (drop place b) row (drop after b)
  line_between = rw (← from_is, from.2) line_here

  pub placed_after : after ≤ 8 * length bytes
  placed_after = omega (arith, from_is, from.1)
