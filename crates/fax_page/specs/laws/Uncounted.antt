-- Laws of rows of a strip of unknown height, which functions of the module `laws` prove.
use Rattle.std.specs.Prelude.{◌≡◌, ℕ, Bool, List, length, None}
use Rattle.fax_bits.specs.declared.Colour.{Colour}
use Rattle.fax_bits.specs.Bits.{bits}
use Rattle.fax_page.specs.Lines.{Coding, Mmr, StripForm}
use Rattle.fax_page.specs.Strip.{coded_strip, read_strip}
use Rattle.fax_page.specs.Uncounted.{DataEnd, Marked, RowsEnd, rows_end, uncounted}
use Rattle.fax_page.specs.laws.Strips.{AreRowsOf}
use Rattle.fax_page.specs.views.Strip.{IsStripForm}
use Rattle.fax_page.specs.laws.Lines.{IsStrip}

-- the bits are these rows, of unknown number, each over the row before it, and they end so
abbrev pub IsUncounted : StripForm → List Bool → List (List Colour) → RowsEnd → Type 0
IsUncounted form b rows end =
    let strip = read_strip (uncounted form) b in
    (strip.rows ≡ rows) × (rows_end form.coding (length rows) strip.remaining strip.end ≡ end)

-- rows of a strip of unknown height, however they end, are all rows of a strip of as many
abbrev pub UncountedRowsAreAStrip : Type 0
UncountedRowsAreAStrip =
    (form : StripForm) (b : List Bool) (rows : List (List Colour)) (end : RowsEnd)
    → IsUncounted form b rows end → IsStrip (record form { rows = length rows }) b rows None

-- how a written strip ends: in MMR with the end of a facsimile block, else with its data
-- (T.6, End-of-facsimile block)
abbrev pub written_end : Coding → RowsEnd
written_end Mmr = Marked
written_end _ = DataEnd

-- the bytes of a written strip are its rows, though their number is unknown
abbrev pub CodedStripsAreUncounted : Type 0
CodedStripsAreUncounted =
    (form : StripForm) (k : ℕ) (rows : List (List Colour)) → IsStripForm form → AreRowsOf form rows
    → IsUncounted form (bits form.order (coded_strip form k rows)) rows (written_end form.coding)
