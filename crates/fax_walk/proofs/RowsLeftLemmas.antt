-- The rows that are left of a page or a strip, one after another.
use Rattle.std.proofs.Common.{◌≡◌, ℕ, zero, suc, ◌+◌, ◌≤◌, List, [], ◌∷◌, ◌++◌, map, replicate, length, drop}
use Rattle.std.proofs.Common.{true, Option, Some, None, Ok, Err, refl, sym, ap, ◌∙◌, arith, append_assoc}
use Rattle.std.proofs.Common.{append-nil, length-append}
use Rattle.std.specs.Prelude.{MatchOption, flat_map}
use Rattle.std.specs.Borrow.{Bor}
use Rattle.std.proofs.lemmas.List.{length-map, length-replicate}
use Rattle.fax_bits.specs.Bits.{bits}
use Rattle.fax_page.specs.declared.StripFault.{StripFault}
use Rattle.fax_page.specs.declared.StripFault.TheVariants.{MissingEol}
use Rattle.fax_page.specs.declared.StripForm.{StripForm}
use Rattle.fax_page.specs.declared.salvage_reader.Salvaged.{Salvaged}
use Rattle.fax_page.specs.declared.salvage_reader.Salvaged.TheVariants as in_strip
use Rattle.fax_page.specs.Lines.{white_row}
use Rattle.fax_page.specs.Salvage.{SalvagedRow, found, lost, unended}
use Rattle.fax_page.specs.views.Salvage.{SalvageState, IsSalvageStep}
use Rattle.fax_page.specs.LeftUncounted.{AreLeftUncounted}
use Rattle.fax_page.specs.Strip.{most_rows}
use Rattle.fax_page.specs.declared.RowsEnd.{RowsEnd}
use Rattle.fax_page.specs.declared.RowsEnd.TheVariants.{Fault}
use Rattle.fax_page.specs.Uncounted.{uncounted}
use Rattle.fax_page.specs.views.LeftUncounted.{IsUncountedStep, PassesAll, PassesUncounted, UncountedState}
use Rattle.fax_page.specs.views.LeftUncounted.{uncounted_beginning}
use Rattle.fax_page.specs.laws.LeftUncounted.{LeavesUncounted}
use Rattle.fax_page.specs.laws.Salvage.{SalvagesStripsOneWay}
use Rattle.fax_files.specs.declared.PageForm.{PageForm}
use Rattle.fax_files.specs.views.Tiff.{TiffDirectory}
use Rattle.fax_walk.specs.declared.rows_left.RowSource.{RowSource}
use Rattle.fax_walk.specs.declared.rows_left.RowSource.TheVariants.{Page, Strip as Strip_, Uncounted}
use Rattle.fax_walk.specs.declared.salvage_rows.SalvagedPart.{SalvagedPart}
use Rattle.fax_walk.specs.declared.salvage_rows.SalvagedPart.TheVariants.{Found, Lost}
use Rattle.fax_walk.specs.Pages.{Cause, Strip}
use Rattle.fax_walk.specs.Salvaged.{PageRow, strip_row}
use Rattle.fax_walk.specs.laws.SalvagedRows.{AreLeftOneWay}
use Rattle.fax_walk.specs.views.SalvagedRows.{LeftOf, of_page, of_strip, of_uncounted, AreLeftOf}
use Rattle.fax_walk.specs.views.SalvagedRows.{IsNextPart, IsUncountedStart, PassesRows}
use Rattle.fax_walk.specs.code.SalvageItems.{AreRowsLeft, IsBeforeRows, IsPart, StaysOnPage, part_of}
use Rattle.fax_walk.specs.code.ShownRows.{ShownState, IsShownPart}
use Rattle.fax_walk.specs.code.SalvagedRows.{AreLeftNow, IsCountOf, IsGoneOver, GoesOver, GoesOverPart, IsNextOf}
use Rattle.fax_walk.specs.code.SalvagedRows.{its_of, row_of, rows_of, last_of, view_of}
use Rattle.fax_walk.proofs.SalvageLawLemmas.{strips_left, one_strips}
use Rattle.fax_walk.proofs.SalvageStepLemmas.{PassesAs, over_of, step_passes}

-- they are one list
pub rows_left : SalvagesStripsOneWay → LeavesUncounted → (its : LeftOf) → AreLeftOneWay its
rows_left salvages leaves (of_page file here) =
    let strips = strips_left salvages file here here.form.strips 0 (omega arith) in
    record {
      rows = flat_map (λ rows. rows) strips.0;
      are = (strips.0, strips.1, refl);
      one = λ others is. is.2
          ∙ ap (λ (l : List (List PageRow)). flat_map (λ rows. rows) l)
          (one_strips salvages file here 0 is.0 strips.0 is.1 strips.1);
    }
rows_left salvages leaves (of_strip form b) =
    let own = salvages form 0 None (white_row form.width) b (omega arith) in
    record {
      rows = map strip_row own.rows;
      are = (own.rows, own.are, refl);
      one = λ others is. is.2 ∙ ap (map strip_row) (own.one is.0 is.1);
    }
rows_left salvages leaves (of_uncounted form b) =
    let own = leaves.one form 0 None (white_row form.width) b (omega arith) in
    record {
      rows = map strip_row own.rows;
      are = (own.end, (own.rows, own.are, refl));
      one = λ others is. is.1.2 ∙ ap (map strip_row) (own.one is.1.0 is.0 is.1.1).0;
    }

-- what stands after so many items
drop_past : {A : Type 0} (done rest : List A) (n : ℕ) → length done ≡ n → drop n (done ++ rest) ≡ rest
drop_past [] rest zero len = refl
drop_past [] rest (suc n) len = absurd (omega (arith, len))
drop_past (x ∷ done) rest zero len = absurd (omega (arith, len))
drop_past (x ∷ done) rest (suc n) len = drop_past done rest n (omega (arith, len))

module _ (old new : RowSource) (sound : IsGoneOver old) where
  module _ (over : List PageRow) (goes : GoesOver old over new) (same : its_of new ≡ its_of old) where
    -- what is left follows what was passed
    gone_over : rows_of new ≡ rows_of old → IsGoneOver new
    gone_over same_rows = record {
      within = goes.within;
      counted = rw (same, same_rows) sound.counted;
      passed = λ rows is.
          let before = sound.passed (over ++ rows) (goes.followed rows is) in (
            before.0 ++ over,
            length-append before.0 over ∙ ap (λ n. n + length over) before.1 ∙ sym goes.next,
            rw (same, append_assoc before.0 over rows) before.2,
          );
    }

    -- and it is what stands there
    rows_at : (one : AreLeftOneWay (its_of old)) → (rest : List PageRow) → AreLeftNow new rest → (all : List PageRow)
        → AreLeftOf (its_of old) all → drop (row_of old) all ≡ over ++ drop (row_of new) all
    rows_at one rest is all are =
        let before = sound.passed (over ++ rest) (goes.followed rest is) in
        let first : all ≡ before.0 ++ (over ++ rest) =
        one.one all are ∙ sym (one.one (before.0 ++ (over ++ rest)) before.2)
        in
        let second : all ≡ (before.0 ++ over) ++ rest = first ∙ sym (append_assoc before.0 over rest) in
        let len : length (before.0 ++ over) ≡ row_of new =
        length-append before.0 over ∙ ap (λ n. n + length over) before.1 ∙ sym goes.next in
        let remaining : drop (row_of old) all ≡ over ++ rest =
        ap (drop (row_of old)) first ∙ drop_past before.0 (over ++ rest) (row_of old) before.1 in
        let right : drop (row_of new) all ≡ rest =
        ap (drop (row_of new)) second ∙ drop_past (before.0 ++ over) rest (row_of new) len in
        remaining ∙ ap (λ (l : List PageRow). over ++ l) (sym right)

    passes : (one : AreLeftOneWay (its_of old)) → (rest : List PageRow) → AreLeftNow new rest
        → rows_of new ≡ rows_of old → PassesRows (view_of old) over (view_of new)
    passes one rest is rows_are = grind (arith, rows_at)

  -- nothing is left
  all_passed : (one : AreLeftOneWay (its_of old)) → GoesOver old [] new → AreLeftNow new [] → (all : List PageRow)
      → AreLeftOf (its_of old) all → length all ≡ row_of old
  all_passed one goes none all are = grind (arith, append-nil)

  -- what a call for the next rows leaves
  pub next_gone : (part : Option SalvagedPart) → IsNextOf old part new → IsGoneOver new
  next_gone None next = gone_over [] next.over.0 next.same_its next.same_rows
  next_gone (Some Found) next = gone_over (Ok (last_of new) ∷ []) next.over next.same_its next.same_rows
  next_gone (Some (Lost rows cause)) next = grind (arith, gone_over)

  -- and answers
  pub next_seen : (one : AreLeftOneWay (its_of old)) → (part : Option SalvagedPart) → IsNextOf old part new
      → IsNextPart (view_of old) part (view_of new)
  next_seen one None next = grind (arith, passes, all_passed)
  next_seen one (Some Found) next = record {
    same_its = next.same_its;
    same_rows = next.same_rows;
    same_width = next.same_width;
    passes = passes (Ok (last_of new) ∷ []) next.over next.same_its one next.rest.0 next.rest.1 next.same_rows;
  }
  next_seen one (Some (Lost rows cause)) next = grind (arith, passes)

-- what a call for the next rows of a page answers
pub page_next : (old new : ShownState) (part : Option SalvagedPart) → IsShownPart old part new
    → (rows : List PageRow) × AreRowsLeft new.rows rows → IsNextOf (Page old) part (Page new)
page_next old new part its rest = record {
  same_its = same_page old new stays;
  same_rows = ap (λ (f : PageForm). f.rows) stays.1;
  same_width = ap (λ (f : PageForm). f.width) stays.1;
  over = over_page part its;
  rest = rest;
}
  where
    stays_over : (part : Option SalvagedPart) → IsPart old.rows part new.rows → StaysOnPage old.rows new.rows
    stays_over part is = grind arith

    stays : StaysOnPage old.rows new.rows
    stays = stays_over part its.0

    same_page : (old new : ShownState) → StaysOnPage old.rows new.rows → its_of (Page new) ≡ its_of (Page old)
    same_page old new stays = rw (stays.0, stays.1) refl

    over_page : (part : Option SalvagedPart) → IsShownPart old part new → GoesOverPart (Page old) part (Page new)
    over_page None (is, shown) = grind arith
    over_page (Some Found) (is, shown) = record {
      next = is.1;
      within = is.2;
      followed = λ rows remaining. rw shown (is.0.followed rows remaining);
    }
    over_page (Some (Lost rows cause)) (is, shown) = grind (arith, length-replicate)

-- what a call for the next rows of a strip answers
module _ (salvages : SalvagesStripsOneWay) (old new : SalvageState) (bytes : Bor (List ℕ)) where
  passes_strip : (salvaged : Salvaged) → IsSalvageStep old (Some salvaged) new
      → PassesAs strip_row old new (over_of strip_row new (part_of salvaged true))
  passes_strip salvaged step = step_passes strip_row true old new (λ fault. refl) (λ row. refl) salvaged step

  goes_strip : (over : List PageRow) → PassesAs strip_row old new over
      → GoesOver (Strip_ old bytes) over (Strip_ new bytes)
  goes_strip over its = grind arith

  lost_strip : (count : ℕ) (cause : Cause) → PassesAs strip_row old new (replicate count (Err cause))
      → GoesOverPart (Strip_ old bytes) (Some (Lost count cause)) (Strip_ new bytes)
  lost_strip count cause its = grind (arith, length-replicate, goes_strip)

  over_strip : (salvaged : Salvaged) → IsSalvageStep old (Some salvaged) new
      → GoesOverPart (Strip_ old bytes) (Some (part_of salvaged true)) (Strip_ new bytes)
  over_strip salvaged step = grind (arith, goes_strip, passes_strip, lost_strip)

  -- there is something left
  rest_of_strip : new.row ≤ new.form.rows → (rows : List PageRow) × AreLeftNow (Strip_ new bytes) rows
  rest_of_strip within =
      let own = salvages new.form new.row new.before new.reference new.upcoming within in
      (map strip_row own.rows, (own.rows, own.are, refl))

  pub strip_next : (salvaged : Salvaged) → IsSalvageStep old (Some salvaged) new
      → IsNextOf (Strip_ old bytes) (Some (part_of salvaged true)) (Strip_ new bytes)
  strip_next salvaged step = grind (arith, passes_strip, over_strip, rest_of_strip)

-- what a call for the next rows answers, of those of unknown number
module _ (leaves : LeavesUncounted) (old new : UncountedState) (bytes : Bor (List ℕ)) (count : ℕ)
    (sound : IsGoneOver (Uncounted old bytes count)) where
  abbrev OldLeft : RowSource
  OldLeft = Uncounted old bytes count

  abbrev NewLeft : RowSource
  NewLeft = Uncounted new bytes count

  -- there is something left
  rest_left : new.row ≤ new.strip.form.rows → (rows : List PageRow) × AreLeftNow NewLeft rows
  rest_left within = by_fault new.final_fault
      (λ fault. ([], Fault fault, (refl, refl)))
      (let own = leaves.one new.strip.form new.row new.strip.before new.strip.reference new.strip.upcoming within in
      (own.rows, own.end, own.are))
    where
      Left_ : Option StripFault → Type 0
      Left_ final_fault =
          (own : List SalvagedRow) × (end : RowsEnd)
          × MatchOption final_fault
          (AreLeftUncounted new.strip.form new.row new.strip.before new.strip.reference new.strip.upcoming own end)
          (λ fault. (own ≡ []) × (end ≡ Fault fault))

      by_fault : (final_fault : Option StripFault) → ((fault : StripFault) → Left_ (Some fault)) → Left_ None
          → (rows : List PageRow)
          × ((own : List SalvagedRow) × (end : RowsEnd)
          × MatchOption final_fault
          (AreLeftUncounted new.strip.form new.row new.strip.before new.strip.reference new.strip.upcoming own end)
          (λ fault. (own ≡ []) × (end ≡ Fault fault))
          × (rows ≡ map strip_row own))
      by_fault None ended none = (map strip_row none.0, (none.0, none.1, none.2, refl))
      by_fault (Some fault) ended none = grind arith

  -- one row is passed
  one_over : (row : SalvagedRow) (its : PageRow) → strip_row row ≡ its → PassesUncounted old row new
      → GoesOver OldLeft (its ∷ []) NewLeft
  one_over row its is passes =
      record { next = passes.next; within = within (rest_left passes.within); followed = followed }
    where
      followed : (rows : List PageRow) → AreLeftNow NewLeft rows → AreLeftNow OldLeft (its ∷ rows)
      followed rows (own, end, are, rows_are) = (
        row ∷ own,
        end,
        passes.followed own end are,
        ap (λ (l : List PageRow). its ∷ l) rows_are ∙ ap (λ (r : PageRow). r ∷ map strip_row own) (sym is),
      )

      within : (rows : List PageRow) × AreLeftNow NewLeft rows → new.row ≤ count
      within (rows, are) =
          let before = sound.passed (its ∷ rows) (followed rows are) in
          let all : length (before.0 ++ its ∷ rows) ≡ count = sound.counted (before.0 ++ its ∷ rows) before.2 in
          let sum : length (before.0 ++ its ∷ rows) ≡ length before.0 + suc (length rows) =
          length-append before.0 (its ∷ rows) in
          omega (arith, all, sum, before.1, passes.next)

  its_same : new.strip.form ≡ old.strip.form → its_of NewLeft ≡ its_of OldLeft
  its_same same = rw same refl

  next_is : (part : SalvagedPart) (row : SalvagedRow) → PassesUncounted old row new
      → GoesOverPart OldLeft (Some part) NewLeft → IsNextOf OldLeft (Some part) NewLeft
  next_is part row passes over = grind (arith, its_same, rest_left)

  lost_alone : (rows : ℕ) (cause : Cause) (row : SalvagedRow) → strip_row row ≡ Err cause → rows ≡ 1
      → PassesUncounted old row new → GoesOverPart OldLeft (Some (Lost rows cause)) NewLeft
  lost_alone rows cause row is one passes =
      rw one (omega arith, one_over row (Err cause) is passes)

  pub uncounted_next : (salvaged : Salvaged) → IsUncountedStep old (Ok salvaged) new
      → IsNextOf OldLeft (Some (part_of salvaged true)) NewLeft
  uncounted_next in_strip.Found passes =
      next_is Found (found new.strip.reference) passes
      (one_over (found new.strip.reference) (Ok new.strip.reference) refl passes)
  uncounted_next (in_strip.Lost fault rows) (one, passes) =
      next_is (Lost rows (Strip fault)) (lost fault) passes
      (lost_alone rows (Strip fault) (lost fault) refl one passes)
  uncounted_next (in_strip.Unterminated rows) (pels, one, passes) =
      next_is (Lost rows (Strip MissingEol)) (unended pels) passes
      (lost_alone rows (Strip MissingEol) (unended pels) refl one passes)

  pub uncounted_ended : (end : RowsEnd) → IsUncountedStep old (Err end) new → IsNextOf OldLeft None NewLeft
  uncounted_ended end (are, same) = record {
    same_its = rw same refl;
    same_rows = refl;
    same_width = rw same refl;
    over = (
      record {
        next = rw same (omega arith);
        within = rw same sound.within;
        followed = λ rows remaining. rw same at remaining;
      },
      rw same all_passed_,
      rw same none,
    );
    rest = ([], rw same none);
  }
    where
      none : AreLeftNow OldLeft []
      none = ([], end, are, refl)

      all_passed_ : old.row ≡ count
      all_passed_ =
          let before = sound.passed [] none in
          let all : length (before.0 ++ []) ≡ count = sound.counted (before.0 ++ []) before.2 in
          let same_len : length (before.0 ++ []) ≡ length before.0 =
          ap (λ (l : List PageRow). length l) (append-nil before.0) in
          omega (arith, all, same_len, before.1)

-- before the first of rows of a strip of unknown height, to which the reader is taken again
module _ (form : StripForm) (bytes : Bor (List ℕ)) (end : RowsEnd) (start passed new : UncountedState) (count : ℕ)
    (start_is : start ≡ uncounted_beginning form (bits form.order bytes.now)) (all : PassesAll start end passed)
    (new_is : new ≡ uncounted_beginning passed.strip.form (bits passed.strip.form.order bytes.now))
    (count_is : count ≡ passed.row) (few : count ≤ most_rows) (leaves : LeavesUncounted) where
  again : new ≡ uncounted_beginning form (bits form.order bytes.now)
  again = grind arith

  own_left : AreLeftUncounted (uncounted form) 0 None (white_row form.width) (bits form.order bytes.now) all.rows end
  own_left = rw start_is at all.are

  many : length (map strip_row all.rows) ≡ count
  many = grind (arith, length-map)

  pub uncounted_at_start : IsGoneOver (Uncounted new bytes count)
  uncounted_at_start = rw again (record {
    within = omega arith;
    counted = counted;
    passed = λ rows (own, end', are, rows_are). ([], refl, (end', (own, are, rows_are)));
  })
    where
      counted : IsCountOf (of_uncounted (uncounted form) (bits form.order bytes.now)) count
      counted rows (end', (own', is', rows_are)) =
          let white = white_row form.width in
          let one = leaves.one (uncounted form) 0 None white (bits form.order bytes.now) (omega arith) in
          let same = (one.one own' end' is').0 ∙ sym (one.one all.rows end own_left).0 in
          ap (λ (l : List PageRow). length l) (rows_are ∙ ap (map strip_row) same) ∙ many

  pub uncounted_started : IsUncountedStart form (bits form.order bytes.now) (view_of (Uncounted new bytes count)) count
      end
  uncounted_started = grind (arith, again, own_left, many)

-- before the first row of a page
pub page_started : (directory : TiffDirectory) (form : PageForm) (its : ShownState)
    → IsBeforeRows directory form its.rows → IsGoneOver (Page its)
page_started directory form its origin = record {
  within = omega (arith, origin.first);
  counted = tt;
  passed = λ rows is. ([], sym origin.first, rw (origin.directory_is, origin.form_is) (origin.all rows is));
}
