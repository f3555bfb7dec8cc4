-- What is left of a page or a strip, written row after row.
use Rattle.std.proofs.Common.{◌≡◌, ℕ, zero, suc, ◌+◌, ◌*◌, ◌<◌, ◌≤◌, List, [], ◌∷◌, ◌++◌, length, set, take, drop}
use Rattle.std.proofs.Common.{replicate, Option, Some, None, Ok, Err, refl, sym, ap, ◌∙◌, arith, append_assoc}
use Rattle.std.proofs.Common.{append-nil, length-append, inl, inr, Bool}
use Rattle.std.specs.Prelude.{◌⊎◌, flat_map}
use Rattle.std.proofs.lemmas.Grind.{flat_map-append}
use Rattle.std.proofs.lemmas.List.{drop_all, length-replicate, length_push, replicate-append-replicate}
use Rattle.std.proofs.lemmas.List.{take-append-le, take_all}
use Rattle.fax_page.specs.declared.StripForm.{StripForm}
use Rattle.fax_page.specs.declared.RowsEnd.{RowsEnd}
use Rattle.fax_page.specs.Uncounted.{uncounted}
use Rattle.fax_rows.specs.Coded.{packed_len}
use Rattle.fax_files.specs.declared.Cause.{Cause}
use Rattle.fax_walk.specs.declared.salvage.LostRows.{LostRows}
use Rattle.fax_walk.specs.declared.salvage_rows.SalvagedPart.TheVariants.{Found, Lost}
use Rattle.fax_walk.specs.Salvaged.{PageRow, page_items}
use Rattle.fax_walk.specs.laws.SalvagedRows.{AreLeftOneWay}
use Rattle.fax_walk.specs.views.SalvagedRows.{of_uncounted, AreLeftOf, RowsView, IsNextPart, IsUncountedStart}
use Rattle.fax_walk.specs.views.SalvagedRows.{PassesRows}
use Rattle.fax_walk.specs.code.SalvagePage.{rows_of, with_lost}
use Rattle.fax_walk.specs.views.LostRows.{longer}
use Rattle.fax_walk.proofs.SalvagePageLemmas.{lost_on}
use Rattle.fax_c.specs.declared.fill.Filled.{Filled}
use Rattle.fax_c.specs.declared.fill.Stop.{Stop}
use Rattle.fax_c.specs.declared.fill.Stop.TheVariants.{NoRoom}
use Rattle.fax_c.specs.declared.salvaged_raster.FaxLost.{FaxLost}
use Rattle.fax_c.specs.declared.told.FaxTold.{FaxTold}
use Rattle.fax_c.specs.Raster.{padded_row}
use Rattle.fax_c.specs.SalvagedRaster.{left_row, lost_among, lost_of}
use Rattle.fax_c.specs.Told.{IsTold, none_filled_at}
use Rattle.fax_c.specs.views.SalvagedRaster.{AreLostPut, HoldsRows, IsLeftTold, StopsAfterLost}
use Rattle.fax_c.specs.views.SalvagedRaster.{SalvageMemory, WritesUncounted}
use Rattle.fax_c.specs.code.CallSteps.{IsPutAt}
use Rattle.fax_c.specs.code.SalvagedRaster.{AreAllWritten, IsStretchPut, stretch_lost}
use Rattle.fax_c.specs.code.SalvagedFrom.{stretches_of}
use Rattle.fax_c.proofs.SalvagedFromLemmas.{lost_last, lost_then}
use Rattle.fax_c.proofs.ListLemmas.{more_put, one_set}
use Rattle.fax_c.proofs.PaddedLemmas.{fills_stride}

-- the bytes of rows that are lost
left_lost : (stride n : ℕ) (cause : Cause)
    → flat_map (left_row stride) (replicate n (Err cause)) ≡ replicate (n * stride) 0
left_lost stride zero cause =
    let none : 0 * stride ≡ 0 = omega arith in
    ap (λ k. replicate k 0) (sym none)
left_lost stride (suc n) cause =
    let more : suc n * stride ≡ stride + n * stride = omega arith in
    ap (λ (l : List ℕ). replicate stride 0 ++ l) (left_lost stride n cause)
    ∙ replicate-append-replicate stride (n * stride) 0 ∙ ap (λ k. replicate k 0) (sym more)

-- one stretch more is written
lost_put : (closed old now new : List FaxLost) (x : FaxLost) → AreLostPut closed old now → length now ≡ length old
    → ((length closed < length now) × (new ≡ set now (length closed) x))
    ⊎ ((length now ≤ length closed) × (new ≡ now)) → AreLostPut (closed ++ x ∷ []) old new
lost_put closed old now new x so_far len put = elim put [
  | inl (room, is) ↦
      let fits : length (closed ++ x ∷ []) ≤ length old = rw length_push (omega (arith, room, len)) in
      let now_is = rw (take_all (length old) closed (omega (arith, room, len))) at so_far in
      rw (take_all (length old) (closed ++ x ∷ []) fits, length_push, is)
      (one_set closed old now (length closed) x refl (omega (arith, room, len)) now_is)
  | inr (full, is) ↦
      let few : length old ≤ length closed = omega (arith, full, len) in
      let none : drop (length (closed ++ x ∷ [])) old ≡ [] = drop_all _ old (rw length_push (omega (arith, few))) in
      is ∙ rw (take-append-le (length old) closed (x ∷ []) few, none)
      (rw (drop_all (length closed) old few) at so_far)
]

-- how many stretches have not ended
abbrev pub open_of : Option LostRows → ℕ
open_of None = 0
open_of (Some stretch) = 1

-- the stretch that ends here is written after those that have ended
ended_put : (closed old now new : List FaxLost) (ended : Option LostRows) (count to : ℕ) → AreLostPut closed old now
    → length now ≡ length old → count ≡ length closed → IsStretchPut ended now count to new
    → AreLostPut (closed ++ stretches_of ended) old new × (to ≡ length (closed ++ stretches_of ended))
    × (to ≡ count + open_of ended)
ended_put closed old now new None count to so_far len count_is (to_is, is) =
    rw append-nil (is ∙ so_far, to_is ∙ count_is, omega (arith, to_is))
ended_put closed old now new (Some stretch) count to so_far len count_is (to_is, put) = (
  lost_put closed old now new (stretch_lost stretch) so_far len (rw count_is at put),
  omega (arith, to_is, count_is, length_push closed (stretch_lost stretch)),
  to_is,
)

module _ (remaining : RowsView) (all : List PageRow) (page stride : ℕ) (old : List ℕ) (old_lost : List FaxLost) where
  -- so many rows are written
  pub record AreLeftSoFar (now : RowsView) (row at count : ℕ) (ended : Option LostRows) (out : List ℕ)
      (lost : List FaxLost) : Type 0 where
    pub same_its : now.its ≡ remaining.its
    pub same_rows : now.rows ≡ remaining.rows
    pub same_width : now.width ≡ remaining.width
    pub are : AreLeftOf remaining.its all
    pub row_is : now.row ≡ row
    pub within : row ≤ remaining.rows
    pub at_is : at ≡ row * stride
    pub done : List PageRow
    pub done_is : done ++ drop row all ≡ all
    pub len : length done ≡ row
    pub bytes : length (flat_map (left_row stride) done) ≡ at
    pub written : out ≡ flat_map (left_row stride) done ++ drop at old
    pub closed : List FaxLost
    pub count_is : count ≡ length closed
    pub put : AreLostPut closed old_lost lost
    pub stretches : (rows : List PageRow)
        → lost_of (page_items page 0 (done ++ rows)) ≡ closed ++ lost_of (with_lost ended (page_items page row rows))
    pub few : count + open_of ended ≤ row
    pub open_few : rows_of ended ≤ row

  -- none is written
  pub none_yet : remaining.row ≡ 0 → AreLeftOf remaining.its all → AreLeftSoFar remaining 0 0 0 None old old_lost
  none_yet none are = record {
    same_its = refl;
    same_rows = refl;
    same_width = refl;
    are = are;
    row_is = none;
    within = omega arith;
    at_is = omega arith;
    done = [];
    done_is = refl;
    len = refl;
    bytes = refl;
    written = refl;
    closed = [];
    count_is = refl;
    put = no_lost (length old_lost);
    stretches = λ rows. refl;
    few = omega arith;
    open_few = omega arith;
  }
    where
      no_lost : (n : ℕ) → old_lost ≡ take n [] ++ old_lost
      no_lost zero = refl
      no_lost (suc n) = refl

module _ {remaining now : RowsView} {all : List PageRow} {page stride row at count : ℕ} {old out : List ℕ}
    {old_lost lost : List FaxLost} {ended : Option LostRows}
    (so_far : AreLeftSoFar remaining all page stride old old_lost now row at count ended out lost) where
  -- where a row has room
  pub room : (n : ℕ) → row + n ≤ remaining.rows → remaining.rows * stride ≤ length old → at + n * stride ≤ length old
  room n few fits =
      let there : (row + n) * stride ≤ remaining.rows * stride = mul_le (row + n) remaining.rows stride few in
      omega (arith, there, so_far.at_is, fits)
    where
      mul_le : (a b k : ℕ) → a ≤ b → a * k ≤ b * k
      mul_le a b k le = grind (arith, le)

  module _ {new : RowsView} (passed : List PageRow) (n : ℕ) (passes : PassesRows now passed new)
      (len_over : length passed ≡ n) where
    row_next : new.row ≡ row + n
    row_next = omega (arith, passes.next, so_far.row_is, len_over)

    done_next : (so_far.done ++ passed) ++ drop (row + n) all ≡ all
    done_next =
        let here = rw (so_far.row_is, row_next) at (passes.rows_are all (rw so_far.same_its so_far.are)) in
        rw (append_assoc, ← here) so_far.done_is

    pub within_next : row + n ≤ remaining.rows
    within_next = omega (arith, passes.within, row_next, so_far.same_rows)

    -- these rows are written too
    more : (same_its : new.its ≡ now.its) (same_rows : new.rows ≡ now.rows) (same_width : new.width ≡ now.width)
        (to : ℕ) (new_out : List ℕ) → length (flat_map (left_row stride) passed) ≡ n * stride
        → IsPutAt (flat_map (left_row stride) passed) out at (Some to) new_out
        → (count' : ℕ) (ended' : Option LostRows) (closed : List FaxLost) (new_lost : List FaxLost)
        → count' ≡ length closed → AreLostPut closed old_lost new_lost
        → ((rows : List PageRow) → lost_of (page_items page 0 ((so_far.done ++ passed) ++ rows))
        ≡ closed ++ lost_of (with_lost ended' (page_items page (row + n) rows)))
        → count' + open_of ended' ≤ row + n → rows_of ended' ≤ row + n
        → AreLeftSoFar remaining all page stride old old_lost new (row + n) to count' ended' new_out new_lost
    more same_its same_rows same_width to new_out bytes (to_is, inside, is) count' ended' closed new_lost count_is put
        stretches few open_few =
        let front = flat_map (left_row stride) so_far.done in
        let all_bytes = flat_map-append (left_row stride) so_far.done passed in
        record {
          same_its = same_its ∙ so_far.same_its;
          same_rows = same_rows ∙ so_far.same_rows;
          same_width = same_width ∙ so_far.same_width;
          are = so_far.are;
          row_is = row_next;
          within = within_next;
          at_is = omega (arith, to_is, bytes, so_far.at_is);
          done = so_far.done ++ passed;
          done_is = done_next;
          len = omega (arith, length-append so_far.done passed, so_far.len, len_over);
          bytes = rw (all_bytes, length-append, so_far.bytes) (sym to_is);
          written = rw all_bytes (more_put front old out (flat_map (left_row stride) passed) new_out at to so_far.bytes
              so_far.written to_is is);
          closed = closed;
          count_is = count_is;
          put = put;
          stretches = stretches;
          few = few;
          open_few = open_few;
        }

  module _ {new : RowsView} (same_len : length lost ≡ length old_lost) where
    -- a row that is found
    pub found_more : IsNextPart now (Some Found) new → packed_len (length new.last) ≤ stride → (to count' : ℕ)
        (new_out : List ℕ) (new_lost : List FaxLost) → IsPutAt (padded_row stride new.last) out at (Some to) new_out
        → IsStretchPut ended lost count count' new_lost
        → AreLeftSoFar remaining all page stride old old_lost new (row + 1) to count' None new_out new_lost
    found_more next short to count' new_out new_lost put ends =
        let passed : List PageRow = Ok new.last ∷ [] in
        let alone : flat_map (left_row stride) passed ≡ padded_row stride new.last = append-nil _ in
        let closed = ended_put so_far.closed old_lost lost new_lost ended count count' so_far.put same_len
        so_far.count_is ends in
        let ends_so = λ (rows : List PageRow). lost_then ended page row new.last (page_items page (row + 1) rows) in
        let bytes : length (flat_map (left_row stride) passed) ≡ 1 * stride =
        rw (alone, fills_stride stride new.last short) (omega arith) in
        more passed 1 next.passes refl next.same_its next.same_rows next.same_width to new_out bytes (rw alone put)
        count'
        None (so_far.closed ++ stretches_of ended) new_lost closed.1 closed.0
        (λ rows. rw (append_assoc so_far.done passed rows, so_far.stretches, ends_so rows, append_assoc))
        (omega (arith, closed.2, so_far.few)) (omega arith)

    -- rows that are lost
    pub lost_more : (n : ℕ) (cause : Cause) → IsNextPart now (Some (Lost n cause)) new → (to : ℕ) (new_out : List ℕ)
        → IsPutAt (replicate (n * stride) 0) out at (Some to) new_out
        → AreLeftSoFar remaining all page stride old old_lost new (row + n) to count (Some (longer ended page row n
        cause))
        new_out lost
    lost_more n cause next to new_out put =
        let passed : List PageRow = replicate n (Err cause) in
        let lost_are = left_lost stride n cause in
        more passed n next.passes.1 (length-replicate n (Err cause)) next.same_its next.same_rows next.same_width to
        new_out (rw (lost_are, length-replicate)) (rw lost_are put) count (Some (longer ended page row n cause))
        so_far.closed lost so_far.count_is so_far.put
        (λ rows. rw (append_assoc, so_far.stretches, lost_on ended page row n cause rows next.passes.0))
        (omega (arith, so_far.few, next.passes.0)) (grind (arith, so_far.open_few))

    -- all rows are written
    pub all_written : IsNextPart now None new → (used : ℕ) (new_lost : List FaxLost)
        → IsStretchPut ended lost count used new_lost → (stop : Stop) → StopsAfterLost used (length old_lost) stop
        → AreAllWritten remaining page stride old old_lost
        (record { cursor = record { page = page; row = row }; count = row; used = used; stop = stop }) out new_lost
    all_written next used new_lost ends stop why =
        let closed = ended_put so_far.closed old_lost lost new_lost ended count used so_far.put same_len
        so_far.count_is ends in
        let len_all : length all ≡ row = next.passes.1 all (rw so_far.same_its so_far.are) ∙ so_far.row_is in
        let done_all : so_far.done ≡ all =
        rw (drop_all row all (omega (arith, len_all)), append-nil) at so_far.done_is in
        let lost_are : lost_among page all ≡ so_far.closed ++ stretches_of ended =
        rw (append-nil, done_all, lost_last ended, append-nil) at (so_far.stretches []) in
        let stretches : used ≡ length (lost_among page all) = rw lost_are closed.1 in (
          all,
          so_far.are,
          omega (arith, len_all, next.passes.0, so_far.row_is, so_far.same_rows),
          record {
            count = sym len_all;
            used = stretches;
            cursor = ap (λ n. record { page = page; row = n }) (sym len_all);
            written = rw (len_all, ← so_far.at_is, ← done_all) so_far.written;
            lost_are = rw lost_are closed.0;
            stops = rw (← stretches) why;
          },
        )

abbrev memory : List ℕ → List FaxLost → SalvageMemory
memory raster lost = record { raster = raster; lost = lost }

-- rows of a strip of unknown height are written
module _ {form : StripForm} {b : List Bool} {stride : ℕ} {remaining : RowsView} {count : ℕ} {end : RowsEnd}
    {old : List ℕ} {old_lost : List FaxLost} (start : IsUncountedStart form b remaining count end) where
  pub uncounted_written : {new : List ℕ} {lost : List FaxLost} {filled : Filled} {told : FaxTold} {status : ℕ}
      → AreLeftOneWay (of_uncounted (uncounted form) b) → HoldsRows (length old) form.width count stride
      → AreAllWritten remaining 0 stride old old_lost filled new lost → IsLeftTold filled end told status
      → WritesUncounted form b stride (memory old old_lost) (memory new lost) told status
  uncounted_written {filled = filled} one holds (rows, are, _, written) told_so =
      let same : rows ≡ start.all = one.one rows (rw start.start.its_is at are)
      ∙ sym (one.one start.all (end, start.are)) in
      inl (start.all, end, start.are, inl (filled, rw start.count_is at holds, rw same at written, told_so))

  pub uncounted_no_room : {filled : Filled} {told : FaxTold} {status : ℕ}
      → (HoldsRows (length old) form.width count stride → ⊥)
      → filled ≡ none_filled_at (record { page = 0; row = count }) NoRoom → IsTold filled told status
      → WritesUncounted form b stride (memory old old_lost) (memory old old_lost) told status
  uncounted_no_room full filled_is told_so =
      let told = rw (filled_is, start.count_is) at told_so in
      inl (start.all, end, start.are, inr (rw start.count_is at full, told, refl))
