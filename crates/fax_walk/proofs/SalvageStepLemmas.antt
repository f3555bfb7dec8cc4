-- What a call for the next row of a damaged strip passes.
use Rattle.std.proofs.Common.{◌≡◌, ℕ, zero, suc, ◌+◌, ◌-◌, ◌<◌, ◌≤◌, List, [], ◌∷◌, ◌++◌, map, replicate, length, Bool}
use Rattle.std.proofs.Common.{Option, Some, Err, refl, ap, arith, append-nil}
use Rattle.std.specs.Prelude.{MatchOption}
use Rattle.std.proofs.lemmas.List.{length-replicate, map-append}
use Rattle.fax_bits.specs.declared.Colour.{Colour}
use Rattle.fax_page.specs.declared.StripFault.{StripFault}
use Rattle.fax_page.specs.declared.StripFault.TheVariants.{MissingEol}
use Rattle.fax_page.specs.declared.salvage_reader.Salvaged.{Salvaged}
use Rattle.fax_page.specs.declared.salvage_reader.Salvaged.TheVariants as in_strip
use Rattle.fax_page.specs.Lines.{white_row}
use Rattle.fax_page.specs.Salvage.{SalvagedRow, found, lost, unended, AreSalvaged, resync_point}
use Rattle.fax_page.specs.views.Salvage.{SalvageState, FindsRow, IsAfterLost, IsSalvageStep}
use Rattle.fax_walk.specs.Salvaged.{PageRow}
use Rattle.fax_walk.specs.code.SalvageItems.{cause_of, part_of}
use Rattle.fax_walk.specs.declared.salvage_rows.SalvagedPart.{SalvagedPart}
use Rattle.fax_walk.specs.declared.salvage_rows.SalvagedPart.TheVariants.{Found, Lost}

-- what is left of a strip from the next row on
abbrev pub AreLeftInStrip : SalvageState → List SalvagedRow → Type 0
AreLeftInStrip its own = AreSalvaged its.form its.row its.before its.reference its.upcoming own

-- after the last row of a strip there is none
pub none_after : (its : SalvageState) (rows : List SalvagedRow) → its.row ≡ its.form.rows → AreLeftInStrip its rows
    → rows ≡ []
none_after its [] all is = refl
none_after its (found row ∷ rows) all is = absurd (omega (arith, all, is.1))
none_after its (lost fault ∷ rows) all is = absurd (omega (arith, all, is.0))
none_after its (unended row ∷ rows) all is = absurd (omega (arith, all, is.2.1))

-- so many rows of one kind
map_same : (f : SalvagedRow → PageRow) (n : ℕ) (row : SalvagedRow) → map f (replicate n row) ≡ replicate n (f row)
map_same f zero row = refl
map_same f (suc n) row = ap (λ (l : List PageRow). f row ∷ l) (map_same f n row)

module _ (old new : SalvageState) where
  -- one row more is found
  pub found_before : FindsRow old new → (own : List SalvagedRow) → AreLeftInStrip new own
      → AreLeftInStrip old (found new.reference ∷ own)
  found_before finds own is = grind arith

  -- rows are lost from the next one on
  module _ (fault : StripFault) (count : ℕ) (upcoming : old.row < old.form.rows) where
    abbrev others : List SalvagedRow
    others = replicate (count - 1) (lost fault)

    -- as the next row says
    record IsLostSo (o : Option (List Bool)) : Type 0 where
      same_form : new.form ≡ old.form
      some : 0 < count
      next : new.row ≡ old.row + count
      within : new.row ≤ old.form.rows
      remaining : (own : List SalvagedRow) → AreLeftInStrip new own
          → MatchOption o (others ++ own ≡ replicate (old.form.rows - (old.row + 1)) (lost fault))
          (λ b. AreSalvaged old.form (old.row + 1) (Some fault) (white_row old.form.width) b (others ++ own))

    lost_so : (o : Option (List Bool))
        → MatchOption o ((count ≡ old.form.rows - old.row) × (new.form ≡ old.form) × (new.row ≡ old.form.rows))
        (λ b. (count ≡ 1) × (new ≡ record {
          form = old.form;
          row = old.row + 1;
          upcoming = b;
          reference = white_row old.form.width;
          before = Some fault;
        }))
        → IsLostSo o
    lost_so o is = grind (arith, none_after, append-nil)

-- rows are passed, as the page or the strip shows them
pub record PassesAs (shown : SalvagedRow → PageRow) (old new : SalvageState) (over : List PageRow) : Type 0 where
  pub upcoming : old.row < old.form.rows
  pub same_form : new.form ≡ old.form
  pub some : 0 < length over
  pub next : new.row ≡ old.row + length over
  pub within : new.row ≤ old.form.rows
  pub followed : (own : List SalvagedRow) → AreLeftInStrip new own
      → (all : List SalvagedRow) × AreLeftInStrip old all × (over ++ map shown own ≡ map shown all)

-- what a call passes
abbrev pub over_of : (SalvagedRow → PageRow) → SalvageState → SalvagedPart → List PageRow
over_of shown new Found = shown (found new.reference) ∷ []
over_of shown new (Lost count cause) = replicate count (Err cause)

module _ (shown : SalvagedRow → PageRow) (whole : Bool) (old new : SalvageState)
    (lost_is : (fault : StripFault) → shown (lost fault) ≡ Err (cause_of fault whole))
    (unended_is : (row : List Colour) → shown (unended row) ≡ Err (cause_of MissingEol whole)) where
  lost_passes : (fault : StripFault) (count : ℕ) (upcoming : old.row < old.form.rows) (first : SalvagedRow)
      → (after : IsAfterLost old fault count new) → shown first ≡ Err (cause_of fault whole)
      → ((own : List SalvagedRow)
      → MatchOption (resync_point old.form.coding after.0) (own
      ≡ replicate (old.form.rows - (old.row + 1)) (lost fault))
      (λ b. AreSalvaged old.form (old.row + 1) (Some fault) (white_row old.form.width) b own)
      → AreLeftInStrip old (first ∷ own))
      → PassesAs shown old new (replicate count (Err (cause_of fault whole)))
  lost_passes fault count upcoming first after first_is follows =
      let so = lost_so old new fault count upcoming (resync_point old.form.coding after.0) after.2 in
      let more = others old new fault count upcoming in
      let over : List PageRow = replicate count (Err (cause_of fault whole)) in
      let many : length over ≡ count = length-replicate count (Err (cause_of fault whole)) in
      record {
        upcoming = upcoming;
        same_form = so.same_form;
        some = omega (arith, many, so.some);
        next = omega (arith, many, so.next);
        within = so.within;
        followed = λ own is. (first ∷ more ++ own, follows (more ++ own) (so.remaining own is), named own so.some);
      }
    where
      named : (own : List SalvagedRow) → 0 < count
          → replicate count (Err (cause_of fault whole)) ++ map shown own
          ≡ map shown (first ∷ replicate (count - 1) (lost fault) ++ own)
      named own some = grind (arith, map-append, map_same, lost_is, first_is)

  pub step_passes : (salvaged : Salvaged) → IsSalvageStep old (Some salvaged) new
      → PassesAs shown old new (over_of shown new (part_of salvaged whole))
  step_passes in_strip.Found finds = record {
    upcoming = finds.upcoming;
    same_form = ap (λ (s : SalvageState). s.form) finds.new_is;
    some = omega arith;
    next = ap (λ (s : SalvageState). s.row) finds.new_is;
    within = let row_is : new.row ≡ old.row + 1 = ap (λ (s : SalvageState). s.row) finds.new_is in
        omega (arith, row_is, finds.upcoming);
    followed = λ own is. (found new.reference ∷ own, found_before old new finds own is, refl);
  }
  step_passes (in_strip.Lost fault count) (upcoming, is_lost, after) =
      lost_passes fault count upcoming (lost fault) after (lost_is fault)
      (λ own is. (upcoming, is_lost, (after.0, after.1, is)))
  step_passes (in_strip.Unterminated count) (row, rest, read, eol_upcoming, below, after) =
      lost_passes MissingEol count (omega (arith, eol_upcoming.1)) (unended row) after (unended_is row)
      (λ own is. (rest, read, eol_upcoming, below, (after.0, after.1, is)))
