-- Laws of data that may continue: what is read of bits stays, whatever bits follow them. Functions
-- of the module `laws` prove them.
use Rattle.std.specs.Prelude.{◌≡◌, ◌≢◌, ℕ, ◌+◌, Bool, IsTrue, List, ◌++◌, length, Option, Some}
use Rattle.fax_bits.specs.declared.Colour.{Colour}
use Rattle.fax_page.specs.declared.StripFault.TheVariants.{DataEnds, EndMarker}
use Rattle.fax_page.specs.Lines.{Coding, IsCause, IsLine, StripFault, StripForm}
use Rattle.fax_page.specs.Uncounted.{Fault, Marked, has_data_end, has_end_mark, rows_end}
use Rattle.fax_page.specs.laws.Lines.{AreLines}
use Rattle.fax_page.specs.views.Writer.{last_of}

-- row i of a strip is the same row, whatever follows the bits; and the fault in its way is the same
-- one, but where it is that the data end
pub record StaysWhateverFollows (form : StripForm) (i : ℕ) (reference : List Colour)
    : Type 0 where
  pub row : (b more : List Bool) (row : List Colour) (rest : List Bool)
      → IsLine form i reference b row rest
      → IsLine form i reference (b ++ more) row (rest ++ more)
  pub fault : (b more : List Bool) (fault : StripFault) → fault ≢ DataEnds
      → IsCause form i reference b fault → IsCause form i reference (b ++ more) fault

-- a strip is read in pieces: rows of its bits, and then the rows of what is left and of the bits
-- that follow, are the rows of all its bits
abbrev pub ReadsInPieces : Type 0
ReadsInPieces =
    (form : StripForm) (i : ℕ) (reference : List Colour) (b more : List Bool)
    (rows others : List (List Colour)) (stop end : Option StripFault) (remaining after : List Bool)
    → AreLines form i reference b rows stop remaining
    → AreLines form (i + length rows) (last_of reference rows) (remaining ++ more) others end after
    → AreLines form i reference (b ++ more) (rows ++ others) end after

-- how the rows of a strip of unknown height end stays, whatever follows: with an end mark, or with
-- a fault that is neither the end of the data nor an end marker. And where nothing but fill is left
-- of all bits, nothing else is left of the first of them
pub record EndsStayWhateverFollows : Type 0 where
  pub mark : (coding : Coding) (row : ℕ) (remaining more : List Bool) (stop : Option StripFault)
      → IsTrue (has_end_mark coding remaining)
      → rows_end coding row (remaining ++ more) stop ≡ Marked
  pub fault : (form : StripForm) (i row : ℕ) (reference : List Colour) (remaining more : List Bool)
      (fault : StripFault) → fault ≢ DataEnds → fault ≢ EndMarker
      → IsCause form i reference remaining fault
      → rows_end form.coding row (remaining ++ more) (Some fault) ≡ Fault fault
  pub fill : (row : ℕ) (remaining more : List Bool)
      → IsTrue (has_data_end row (remaining ++ more)) → IsTrue (has_data_end row remaining)
