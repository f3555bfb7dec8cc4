-- What stands after the last row of a strip, said of bits and the bits after them, as the program
-- goes through them.
use Rattle.std.specs.Prelude.{◌≡◌, ℕ, zero, suc, ◌<◌, Bool, List, ◌∷◌, ◌++◌, Option, Some, None}
use Rattle.fax_bits.specs.Bits.{IsAllZeros}
use Rattle.fax_page.specs.declared.Dimension.TheVariants.{OneDimensional}
use Rattle.fax_page.specs.Lines.{Coding, Mh, Mr, Mmr, StripFault, ends_line, next_one, tag_bit}
use Rattle.fax_page.specs.Strip.{end_bits}
use Rattle.fax_page.specs.Uncounted.{RowsEnd, Marked, DataEnd, Fault, TooMany}

-- one EOL of a return to control, and so many of them, one after another
abbrev pub IsRtcEol : Coding → List Bool → List Bool → Type 0
IsRtcEol Mh b rest = next_one 0 b ≡ ends_line rest
IsRtcEol Mr b rest = next_one 0 b ≡ ends_line (tag_bit OneDimensional ∷ rest)
IsRtcEol Mmr b rest = ⊥

abbrev pub AreRtcEols : Coding → ℕ → List Bool → List Bool → Type 0
AreRtcEols coding zero b rest = b ≡ rest
AreRtcEols coding (suc n) b rest =
    (middle : List Bool) × IsRtcEol coding b middle × AreRtcEols coding n middle rest

-- the bits begin with an end mark, or may where more follow
abbrev pub IsEndMark : Coding → List Bool → List Bool → Type 0
IsEndMark Mmr b rest = b ≡ end_bits Mmr ++ rest
IsEndMark coding b rest = AreRtcEols coding 6 b rest

abbrev pub HasEndMark : Coding → List Bool → Type 0
HasEndMark coding b = (rest : List Bool) × IsEndMark coding b rest

abbrev pub MayBeMarked : Coding → List Bool → Type 0
MayBeMarked coding b = (more : List Bool) × HasEndMark coding (b ++ more)

-- after so many rows, and at least one, nothing is left but zeros
abbrev pub HasDataEnd : ℕ → List Bool → Type 0
HasDataEnd row remaining = (0 < row) × IsAllZeros remaining

-- so many rows end so
abbrev pub RowsEndAs : Coding → ℕ → List Bool → Option StripFault → RowsEnd → Type 0
RowsEndAs coding row remaining stop Marked = HasEndMark coding remaining
RowsEndAs coding row remaining stop DataEnd = HasDataEnd row remaining
RowsEndAs coding row remaining stop (Fault fault) =
    (HasEndMark coding remaining → ⊥) × (HasDataEnd row remaining → ⊥) × (stop ≡ Some fault)
RowsEndAs coding row remaining stop TooMany =
    (HasEndMark coding remaining → ⊥) × (HasDataEnd row remaining → ⊥) × (stop ≡ None)
