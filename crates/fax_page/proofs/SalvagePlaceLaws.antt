-- A row after others begins among the bits of the strip.
use Rattle.fax_bits.specs.Reading.{Read, read, failed}
use Rattle.fax_page.specs.code.Salvage.{IsSoughtFrom}
use Rattle.fax_page.specs.declared.StripFault.TheVariants.{DataEnds}
use Rattle.std.proofs.Common.{◌≡◌, ℕ, zero, suc, ◌+◌, ◌-◌, ◌<◌, ◌≤◌, List, [], ◌∷◌, ◌++◌, length, drop, replicate}
use Rattle.std.proofs.Common.{Bool, true, false, Option, Some, None, refl, ap, sym, ◌∙◌, arith, inl, inr, subst}
use Rattle.std.proofs.lemmas.List.{length-drop, drop-drop}
use Rattle.std.specs.Prelude.{◌⊎◌, option_map, MatchOption}
use Rattle.std.proofs.lemmas.Bool.{cases_lt}
use Rattle.std.proofs.lemmas.Bool.Decides.{nat_tests}
use Rattle.fax_bits.specs.declared.Colour.{Colour}
use Rattle.fax_page.specs.declared.salvage_reader.Salvaged.TheVariants.{Found, Lost, Unterminated}
use Rattle.fax_page.specs.Lines.{Coding, Dimension, Mh, Mr, Mmr, StripFault, StripForm, read_start, white_row}
use Rattle.fax_page.specs.Strip.{eol_bits}
use Rattle.fax_page.specs.Salvage.{after_eol, resync_point, resync_from}
use Rattle.fax_page.specs.laws.Salvage.{UpcomingRowsStandInStrips, IsRestOf}
use Rattle.fax_page.specs.laws.Strips.{ReadsLinesOneWay}
use Rattle.fax_page.specs.views.Salvage.{IsAfterLost, SalvageState}
use Rattle.fax_page.proofs.RestLemmas.{start_among}
use Rattle.fax_page.proofs.SalvageLemmas.{drop_zeros}

-- the rest of a rest
pub rest_of_rest : (all middle last : List Bool) → IsRestOf all middle → IsRestOf middle last → IsRestOf all last
rest_of_rest all middle last (n, within, is) (more, fits, ends) =
    let count : length middle ≡ length all - n = ap length (sym is) ∙ length-drop n all in (
      n + more,
      omega (arith, within, fits, count),
      sym (drop-drop more n all) ∙ ap (drop more) is ∙ ends,
    )

all_of : (all : List Bool) → IsRestOf all all
all_of all = (0, omega arith, refl)

-- one zero more
one_more : (n : ℕ) (b : List Bool) → replicate n false ++ false ∷ b ≡ replicate (suc n) false ++ b
one_more zero b = refl
one_more (suc n) b = ap (λ (l : List Bool). false ∷ l) (one_more n b)

-- what stands after zeros and a 1
after_one : (n : ℕ) (b : List Bool) → IsRestOf (replicate n false ++ true ∷ b) b
after_one zero b = (1, omega arith, refl)
after_one (suc n) b =
    let rest = after_one n b in (suc rest.0, omega (arith, rest.1), rest.2)

length_zeros : (n : ℕ) (b : List Bool) → length (replicate n false ++ b) ≡ n + length b
length_zeros zero b = omega arith
length_zeros (suc n) b = let rest = length_zeros n b in omega (arith, rest)

-- the first EOL after so many zeros is among them and the bits
eol_among : (n : ℕ) (b rest : List Bool) → after_eol n b ≡ Some rest
    → IsRestOf (replicate n false ++ b) (eol_bits ++ rest)
eol_among n [] rest none = cc
eol_among n (false ∷ b) rest some =
    subst (λ (l : List Bool). IsRestOf l (eol_bits ++ rest)) (sym (one_more n b)) (eol_among (suc n) b rest some)
eol_among n (true ∷ b) rest some = by_count (eol_among 0 b rest) (cases_lt n 11)
  where
    by_count : (after_eol 0 b ≡ Some rest → IsRestOf b (eol_bits ++ rest)) → (n < 11) ⊎ (11 ≤ n)
        → IsRestOf (replicate n false ++ true ∷ b) (eol_bits ++ rest)
    by_count later_eol (inl few) =
        let later : after_eol 0 b ≡ Some rest = grind (arith, some, few, nat_tests) in
        rest_of_rest (replicate n false ++ true ∷ b) b (eol_bits ++ rest) (after_one n b) (later_eol later)
    by_count later_eol (inr enough) =
        let here : b ≡ rest = grind (arith, some, enough, nat_tests) in
        let eleven : n - (n - 11) ≡ 11 = omega (arith, enough) in (
          n - 11,
          omega (arith, length_zeros n (true ∷ b)),
          drop_zeros (n - 11) n (true ∷ b) (omega arith)
              ∙ ap (λ k. replicate k false ++ true ∷ b) eleven
              ∙ ap (λ (l : List Bool). eol_bits ++ l) here,
        )

-- where the next row begins is among the bits from which its EOL is looked for
upcoming_among : (coding : Coding) (from upcoming : List Bool) → resync_point coding from ≡ Some upcoming
    → IsRestOf from upcoming
upcoming_among Mh from upcoming some = by_rest (after_eol 0 from) refl some
  where
    by_rest : (found : Option (List Bool)) → after_eol 0 from ≡ found
        → option_map (λ rest. eol_bits ++ rest) found ≡ Some upcoming → IsRestOf from upcoming
    by_rest None is some = cc
    by_rest (Some rest) is some =
        let same : eol_bits ++ rest ≡ upcoming = cc in
        subst (IsRestOf from) same (eol_among 0 from rest is)
upcoming_among Mr from upcoming some = by_rest (after_eol 0 from) refl some
  where
    by_rest : (found : Option (List Bool)) → after_eol 0 from ≡ found
        → option_map (λ rest. eol_bits ++ rest) found ≡ Some upcoming → IsRestOf from upcoming
    by_rest None is some = cc
    by_rest (Some rest) is some =
        let same : eol_bits ++ rest ≡ upcoming = cc in
        subst (IsRestOf from) same (eol_among 0 from rest is)
upcoming_among Mmr from upcoming some = cc

-- an EOL is looked for among the bits of a lost row
sought_among : (coding : Coding) (i : ℕ) (b from : List Bool) → IsSoughtFrom coding i b from → IsRestOf b from
sought_among coding i b from sought = subst (IsRestOf b) sought (by (read_start coding i b) refl)
  where
    all_dropped : (b : List Bool) → drop (length b) b ≡ []
    all_dropped [] = refl
    all_dropped (bit ∷ b) = all_dropped b

    by : (start : Read Dimension StripFault) → read_start coding i b ≡ start → IsRestOf b (resync_from b start)
    by (read dimension codes) at = start_among coding i b dimension codes at
    by (failed DataEnds) at = (length b, omega arith, all_dropped b)
    by (failed fault) at = all_of b

-- after a lost row
lost_among : (old new : SalvageState) (fault : StripFault) (rows : ℕ) → IsAfterLost old fault rows new
    → new.row < new.form.rows → IsRestOf old.upcoming new.upcoming
lost_among old new fault rows (from, sought, after) upcoming =
    by_upcoming (resync_point old.form.coding from) refl after
  where
    by_upcoming : (o : Option (List Bool)) → resync_point old.form.coding from ≡ o
        → MatchOption o
        ((rows ≡ old.form.rows - old.row) × (new.form ≡ old.form) × (new.row ≡ old.form.rows))
        (λ b. (rows ≡ 1) × (new ≡ record {
          form = old.form;
          row = old.row + 1;
          upcoming = b;
          reference = white_row old.form.width;
          before = Some fault;
        }))
        → IsRestOf old.upcoming new.upcoming
    by_upcoming None is all =
        let same : new.form.rows ≡ old.form.rows = ap (λ (f : StripForm). f.rows) all.1 in
        absurd (omega (arith, upcoming, all.2, same))
    by_upcoming (Some b) is one =
        let upcoming_is : new.upcoming ≡ b = ap (λ (s : SalvageState). s.upcoming) one.1 in
        subst (IsRestOf old.upcoming) (sym upcoming_is)
        (rest_of_rest old.upcoming from b (sought_among old.form.coding old.row old.upcoming from sought)
        (upcoming_among old.form.coding from b is))

-- after each row
pub upcoming_rows_stand : ((form : StripForm) (i : ℕ) (reference : List Colour) → ReadsLinesOneWay form i reference)
    → UpcomingRowsStandInStrips
upcoming_rows_stand reads old new Found finds upcoming =
    (reads old.form old.row old.reference).rest old.upcoming 0 new.reference new.upcoming finds.read.line
upcoming_rows_stand reads old new (Lost fault rows) (within, is_lost, after) upcoming = lost_among old new fault rows
    after
    upcoming
upcoming_rows_stand reads old new (Unterminated rows) (row, rest, over, eol_upcoming, below, after) upcoming =
    lost_among old new _ rows after upcoming
