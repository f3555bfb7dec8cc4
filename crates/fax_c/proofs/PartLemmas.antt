-- What is reported of the first bytes of a strip holds of all bytes, whatever follows.
use Rattle.std.proofs.Common.{◌≡◌, ℕ, ◌+◌, ◌-◌, ◌*◌, ◌≤◌, List, [], ◌∷◌, ◌++◌, length, drop}
use Rattle.std.proofs.Common.{Bool, true, false, true≢false, IsTrue, refl, ap, sym, ◌∙◌}
use Rattle.std.proofs.Common.{subst, arith, inl, inr, Option, Some, None, length-append}
use Rattle.std.specs.Prelude.{◌⊎◌}
use Rattle.std.proofs.lemmas.List.{drop-append-le}
use Rattle.std.proofs.lemmas.Grind.{flat_map-append}
use Rattle.std.proofs.lemmas.Bool.{cases_lt}
use Rattle.std.proofs.Math.ListN.{drop_of_length-le}
use Rattle.fax_bits.specs.Bits.{bits, byte_bits}
use Rattle.fax_bits.specs.laws.Codes.{AreBitsByIndex}
use Rattle.fax_rows.specs.Rows.{Colour}
use Rattle.fax_page.specs.declared.Coding.{Coding}
use Rattle.fax_page.specs.declared.Coding.TheVariants.{Mh, Mr, Mmr}
use Rattle.fax_page.specs.declared.RowsEnd.{RowsEnd}
use Rattle.fax_page.specs.declared.RowsEnd.TheVariants as ends
use Rattle.fax_page.specs.declared.StripFault.{StripFault}
use Rattle.fax_page.specs.declared.StripForm.{StripForm}
use Rattle.fax_page.specs.Lines.{IsCause}
use Rattle.fax_page.specs.Strip.{eol_bits}
use Rattle.fax_page.specs.Uncounted.{MayHaveEndMark, end_by_stop, has_data_end, has_end_mark, rows_end}
use Rattle.fax_page.specs.declared.StripFault.TheVariants.{EndMarker}
use Rattle.fax_page.specs.laws.Following.{EndsStayWhateverFollows, StaysWhateverFollows}
use Rattle.fax_walk.specs.declared.cursor.Cursor.{Cursor}
use Rattle.fax_c.specs.declared.fill.Filled.{Filled}
use Rattle.fax_c.specs.declared.fill.Stop.{Stop}
use Rattle.fax_c.specs.declared.places.FaxPlace.{FaxPlace}
use Rattle.fax_c.specs.declared.strip_form.FaxStrip.{FaxStrip}
use Rattle.fax_c.specs.declared.told.FaxTold.{FaxTold}
use Rattle.fax_c.specs.views.Places.{most_runs}
use Rattle.fax_c.specs.views.BareStrips.{AskedStrip, HasRoom, IsEndAt, IsPlace, IsPlaceAfter, IsReadableIn, IsReadTold}
use Rattle.fax_c.specs.views.BareStrips.{ReadsNone, ReadsOn, ReadsTo, StopsAt, StripMemory, StripPlace}
use Rattle.fax_c.specs.views.BareStrips.{IsMet, met_in_strip, stop_in_strip}
use Rattle.fax_c.specs.views.StripParts.{ArePartRead, AwaitsMore, IsNothingRead, IsUnsettled, IsUnsettledAt, MayChange}
use Rattle.fax_c.specs.views.StripParts.{TellsStripPart}
use Rattle.fax_c.specs.code.StripParts.{EndMayChange, IsAhead, IsMoreTold, MayGoOn, StopMayChange}

-- the bits of bytes and of those that follow
bits_follow : (order : _) (strip more : List ℕ) → bits order (strip ++ more) ≡ bits order strip ++ bits order more
unfolding bits
bits_follow order strip more = flat_map-append (byte_bits order) strip more

-- no end mark stands after all bits, and one may follow them
no_mark_after : (coding : Coding) → IsTrue (has_end_mark coding []) → ⊥
no_mark_after Mh mark = cc (mark)
no_mark_after Mr mark = cc (mark)
no_mark_after Mmr mark = cc (mark)

abbrev six : List Bool → List Bool
six b = b ++ b ++ b ++ b ++ b ++ b

mark_may_follow : (coding : Coding) → MayHaveEndMark coding []
mark_may_follow Mh = (six eol_bits, refl)
mark_may_follow Mr = (six (eol_bits ++ true ∷ []), refl)
mark_may_follow Mmr = (eol_bits ++ eol_bits, refl)

mark_within : (coding : Coding) (n : ℕ) (b : List Bool) → IsTrue (has_end_mark coding (drop n b)) → n ≤ length b
mark_within coding n b mark =
    elim (cases_lt (length b) n) [
      | inl beyond ↦ absurd (no_mark_after coding (subst (λ c. IsTrue (has_end_mark coding c))
          (drop_of_length-le b (omega (arith, beyond))) mark))
      | inr within ↦ within
    ]

-- how rows end, by whether an end mark stands there, and whether the data end
abbrev end_by : Bool → Bool → Option StripFault → RowsEnd
end_by mark data_end met =
    elim mark [ true ↦ ends.Marked | false ↦ elim data_end [ true ↦ ends.DataEnd | false ↦ end_by_stop met ] ]

abbrev AreWhere : Bool → Bool → Option StripFault → RowsEnd → Type 0
AreWhere mark data_end met ends.Marked = mark ≡ true
AreWhere mark data_end met ends.DataEnd = Unit {0}
AreWhere mark data_end met (ends.Fault fault) = (mark ≡ false) × (data_end ≡ false) × (met ≡ Some fault)
AreWhere mark data_end met ends.TooMany = (mark ≡ false) × (data_end ≡ false) × (met ≡ None)

end_where : (mark data_end : Bool) (met : Option StripFault) → AreWhere mark data_end met (end_by mark data_end met)
end_where true data_end met = refl
end_where false true met = tt
end_where false false None = (refl, refl, refl)
end_where false false (Some fault) = (refl, refl, refl)

not_true : (test : Bool) → (IsTrue test → ⊥) → test ≡ false
not_true true never = absurd (never refl)
not_true false never = refl

unmarked_end : (coding : Coding) (row : ℕ) (b : List Bool) (met : Option StripFault)
    → (IsTrue (has_end_mark coding b) → ⊥) → (IsTrue (has_data_end row b) → ⊥)
    → rows_end coding row b met ≡ end_by_stop met
unmarked_end coding row b met unmarked more =
    ap (λ mark. end_by mark (has_data_end row b) met) (not_true (has_end_mark coding b) unmarked)
    ∙ ap (λ data_end. end_by false data_end met) (not_true (has_data_end row b) more)

-- a fault is an end marker or another
marker_or_not : (fault : StripFault) → (fault ≡ EndMarker) ⊎ (fault ≡ EndMarker → ⊥)
marker_or_not EndMarker = inl refl
marker_or_not other = inr (λ is. cc)

-- what of the strip stopped its rows
met_is : (page row : ℕ) (stop : Stop) (met other : Option StripFault) → stop ≡ stop_in_strip page row met
    → met_in_strip stop ≡ Some other → met ≡ other
met_is page row stop None other is by = let same = ap met_in_strip (sym is) ∙ by in cc
met_is page row stop (Some fault) other is by = let same = ap met_in_strip (sym is) ∙ by in cc

module _ (form : StripForm) (all : List Bool) where
  -- rows that are read begin and end inside the bits
  ends_within : (from : StripPlace) (rows : List (List Colour)) (to : StripPlace) → from.bits ≤ length all
      → ReadsTo form all from rows to → to.bits ≤ length all
  ends_within from [] to within reads = subst (λ (p : StripPlace). p.bits ≤ length all) reads within
  ends_within from (row ∷ rows) to within (after, inside, upcoming, line, reads) =
      ends_within (record { row = from.row + 1; bits = after; reference = row }) rows to inside reads

  -- the place in memory of the caller is the one up to which rows are read
  place_is_to : (from : StripPlace) (rows : List (List Colour)) (to : StripPlace) (count : ℕ) (old new : StripMemory)
      → ReadsTo form all from rows to → count ≡ length rows → IsPlace form.width old.place old.runs from
      → IsPlaceAfter form.width count old.place old.runs new.place new.runs to
      → (to.row ≡ new.place.row) × (to.bits ≡ new.place.bits)
  place_is_to from [] to count old new reads count_is at (inl none) = (
    sym (ap (λ (p : StripPlace). p.row) reads) ∙ at.row ∙ sym (ap (λ (p : FaxPlace). p.row) none.1),
    sym (ap (λ (p : StripPlace). p.bits) reads) ∙ at.bits ∙ sym (ap (λ (p : FaxPlace). p.bits) none.1),
  )
  place_is_to from (row ∷ rows) to count old new reads count_is at (inl none) = absurd (omega (arith, count_is, none.0))
  place_is_to from rows to count old new reads count_is at (inr some) = (some.2.row, some.2.bits)

  -- where the strip stops its rows after others, the next one has room, and this is in its way
  lines_by : (to : StripPlace) (page stride remaining : ℕ) (stop : Stop) (met : Option StripFault)
      → met_in_strip stop ≡ Some met → StopsAt form all to page stride remaining stop
      → (stride ≤ remaining) × IsMet form to (drop to.bits all) met
  lines_by to page stride remaining stop met by (inl (is, full)) = let none = ap met_in_strip (sym is) ∙ by in cc
  lines_by to page stride remaining stop met by (inr (room, other, is, lines)) = (
    room,
    subst (λ m. IsMet form to (drop to.bits all) m) (met_is page to.row stop other met is by) lines,
  )

module _ (form : StripForm) (strip : List ℕ) (stride : ℕ) (place : FaxPlace) (stop : Stop) where
  -- a stop that the strip makes, where nothing is read, is its end
  none_by : (runs : List ℕ) (room : ℕ) (met : Option StripFault) → met_in_strip stop ≡ Some met
      → ReadsNone form strip stride place runs room stop
      → HasRoom form stride room × (place.row ≡ form.rows) × (met ≡ None)
  none_by runs room met by none = grind arith

  -- a stop that may change, where nothing is read, is a place ahead
  ahead_by : (runs : List ℕ) (room : ℕ) → StopMayChange form strip place stop
      → ReadsNone form strip stride place runs room stop → HasRoom form stride room × IsAhead form strip place
  ahead_by runs room changes none = grind arith

  -- and one that may change after rows is the end of the data in the next one
  unsettled_by : (given : FaxStrip) (to : StripPlace) (page remaining : ℕ) → StopMayChange form strip place stop
      → StopsAt form (bits form.order strip) to page stride remaining stop
      → (stride ≤ remaining) × IsUnsettled given form strip to
  unsettled_by given to page remaining changes (inl (is, full)) = absurd (rw is at changes)
  unsettled_by given to page remaining changes (inr (room, None, is, lines)) = absurd (rw is at changes)
  unsettled_by given to page remaining changes (inr (room, Some fault, is, lines)) =
      (room, inl (lines.0, rw (rw is at changes) at lines.1))

module _ (stays : (form : StripForm) (i : ℕ) (reference : List Colour) → StaysWhateverFollows form i reference)
    (end_stays : EndsStayWhateverFollows)
    (stand : AreBitsByIndex) (form : StripForm) (strip more : List ℕ) where
  abbrev all : List Bool
  all = bits form.order strip

  abbrev whole : List Bool
  whole = bits form.order (strip ++ more)

  abbrev rest : List Bool
  rest = bits form.order more

  at_bit_offset : (n : ℕ) → n ≤ length all → drop n whole ≡ drop n all ++ rest
  at_bit_offset n within = ap (drop n) (bits_follow form.order strip more) ∙ drop-append-le n all rest within

  longer : length strip ≤ length (strip ++ more)
  longer = omega (arith, length-append strip more)

  longer_bits : length all ≤ length whole
  longer_bits =
      omega (arith, ap (λ (b : List Bool). length b) (bits_follow form.order strip more), length-append all rest)

  count_bits : length all ≡ 8 * length strip
  count_bits = stand.count form.order strip

  pub reads_stay : (from : StripPlace) (rows : List (List Colour)) (to : StripPlace) → from.bits ≤ length all
      → ReadsTo form all from rows to
      → ReadsTo form whole from rows to
  reads_stay from [] to within reads = reads
  reads_stay from (row ∷ rows) to within (after, inside, upcoming, line, reads) =
      let stay = (stays form from.row from.reference).row (drop from.bits all) rest row (drop after all) line in (
        after,
        omega (arith, inside, longer_bits),
        upcoming,
        rw (at_bit_offset from.bits within, at_bit_offset after inside) stay,
        reads_stay (record { row = from.row + 1; bits = after; reference = row }) rows to inside reads,
      )

  stop_stays : (place : FaxPlace) (to : StripPlace) (page stride remaining : ℕ) (stop : Stop) → to.bits ≤ length all
      → (StopMayChange form strip place stop → ⊥) → StopsAt form all to page stride remaining stop
      → StopsAt form whole to page stride remaining stop
  stop_stays place to page stride remaining stop within stay (inl full) = inl full
  stop_stays place to page stride remaining stop within stay (inr (room, None, is, lines)) =
      inr (room, None, is, lines)
  stop_stays place to page stride remaining stop within stay (inr (room, Some fault, is, lines)) =
      let cause = (stays form to.row to.reference).fault (drop to.bits all) rest fault
      (λ ends. stay (rw is ends)) lines.1 in
      inr (room, Some fault, is, (lines.0, rw (at_bit_offset to.bits within) cause))

  none_stays : (stride : ℕ) (place : FaxPlace) (runs : List ℕ) (room : ℕ) (stop : Stop)
      → length (strip ++ more) ≤ 536870911 → (StopMayChange form strip place stop → ⊥)
      → ReadsNone form strip stride place runs room stop → ReadsNone form (strip ++ more) stride place runs room stop
  none_stays stride place runs room stop few stay (inl none) = inl none
  none_stays stride place runs room stop few stay (inr (has, inl end)) = inr (has, inl end)
  none_stays stride place runs room stop few stay (inr (has, inr (inl (is, other, none)))) = inr (
    has,
    inr (inl (
      is,
      other,
      λ at upcoming.
          elim (cases_lt (8 * length strip) place.bits) [
            | inl beyond ↦
                stay (rw is (
                  omega (arith, upcoming.0.row, upcoming.1),
                  beyond,
                  omega (
                    arith,
                    upcoming.0.bits,
                    upcoming.2,
                    few,
                  ),
                ))
            | inr within ↦ none at (upcoming.0, upcoming.1, omega (arith, upcoming.0.bits, within))
          ],
    )),
  )
  none_stays stride place runs room stop few stay (inr (has, inr (inr (is, at, (place_is, upcoming, within))))) =
      inr (has, inr (inr (is, at, (place_is, upcoming, omega (arith, within, longer)))))

  -- what is read of these bytes is read of all
  reads_on_stays : (stride : ℕ) (old : StripMemory) (filled : Filled) (new : StripMemory)
      → length (strip ++ more) ≤ 536870911 → (StopMayChange form strip new.place filled.stop → ⊥)
      → ReadsOn form strip stride old filled new → ReadsOn form (strip ++ more) stride old filled new
  reads_on_stays stride old filled new few stay (inl (room, from, to, upcoming, read, after)) =
      let within : from.bits ≤ length all = omega (arith, upcoming.2, count_bits) in
      inl (
        room,
        from,
        to,
        (upcoming.0, upcoming.1, omega (arith, upcoming.2, longer)),
        record {
          rows = read.rows;
          read = reads_stay from read.rows to within read.read;
          count = read.count;
          used = read.used;
          written = read.written;
          cursor = read.cursor;
          stops = stop_stays new.place to old.place.page stride (length old.raster - filled.used) filled.stop
              (ends_within form all from read.rows to within read.read) stay read.stops;
        },
        after,
      )
  reads_on_stays stride old filled new few stay (inr (none, count, used, cursor, same)) =
      let still = none_stays stride old.place old.runs (length old.raster) filled.stop few (rw same at stay) none in
      inr (still, count, used, cursor, same)

  -- the fault that stops rows, at the place after them
  record HasCause (place : FaxPlace) (fault : StripFault) : Type 0 where
    i : ℕ
    reference : List Colour
    within : place.bits ≤ length all
    cause : IsCause form i reference (drop place.bits all) fault

  cause_there : (stride : ℕ) (old : StripMemory) (filled : Filled) (new : StripMemory) (fault : StripFault)
      → met_in_strip filled.stop ≡ Some (Some fault) → ReadsOn form strip stride old filled new
      → HasCause new.place fault
  cause_there stride old filled new fault by (inl (room, from, to, upcoming, read, after)) =
      let within : from.bits ≤ length all = omega (arith, upcoming.2, count_bits) in
      let there = place_is_to form all from read.rows to filled.count old new read.read read.count upcoming.0 after in
      let lines = lines_by form all to old.place.page stride (length old.raster - filled.used) filled.stop (Some fault)
      by read.stops in
      record {
        i = to.row;
        reference = to.reference;
        within = omega (arith, there.1, ends_within form all from read.rows to within read.read);
        cause = subst (λ n. IsCause form to.row to.reference (drop n all) fault) there.1 lines.1.1;
      }
  cause_there stride old filled new fault by (inr (none, count, used, cursor, same)) =
      let end = (none_by form strip stride old.place filled.stop old.runs (length old.raster) (Some fault) by none).2 in
      cc

  -- an end mark may stand after all bits
  within_or_marked : (n : ℕ) → (MayHaveEndMark form.coding (drop n all) → ⊥) → n ≤ length all
  within_or_marked n unmarked =
      elim (cases_lt (length all) n) [
        | inl beyond ↦
            absurd (unmarked (rw (drop_of_length-le all {i = n} (omega (arith, beyond))) (mark_may_follow form.coding)))
        | inr within ↦ within
      ]

  -- where none may stand, and no row is expected, the rows end as before
  unmarked_stays : (place : FaxPlace) → (MayHaveEndMark form.coding (drop place.bits all) → ⊥)
      → (IsTrue (has_data_end place.row (drop place.bits all)) → ⊥)
      → (IsTrue (has_end_mark form.coding (drop place.bits whole)) → ⊥)
      × (IsTrue (has_data_end place.row (drop place.bits whole)) → ⊥)
  unmarked_stays place unmarked no_end =
      let from = at_bit_offset place.bits (within_or_marked place.bits unmarked) in (
        λ mark. unmarked (rest, rw from at mark),
        λ ends. no_end (end_stays.fill place.row (drop place.bits all) rest (rw from at ends)),
      )

  -- (a test that is false holds nowhere)
  holds_not : (test : Bool) → test ≡ false → IsTrue test → ⊥
  holds_not test fails is = true≢false (sym is ∙ fails)

  ends_so_stays : (place : FaxPlace) (met : Option StripFault) (end : RowsEnd)
      → ((fault : StripFault) → met ≡ Some fault → HasCause place fault)
      → (MayChange form.coding (drop place.bits all) end → ⊥)
      → AreWhere (has_end_mark form.coding (drop place.bits all)) (has_data_end place.row (drop place.bits all)) met end
      → end ≡ rows_end form.coding place.row (drop place.bits whole) met
  ends_so_stays place met ends.Marked known stay so =
      rw (at_bit_offset place.bits (mark_within form.coding place.bits all so))
      (sym (end_stays.mark form.coding place.row (drop place.bits all) rest met so))
  ends_so_stays place met ends.DataEnd known stay so = absurd (stay tt)
  ends_so_stays place met (ends.Fault fault) known stay so = elim (marker_or_not fault) [
    | inl is ↦
        let none = unmarked_stays place (λ may. stay (inr (is, may))) (holds_not _ so.1) in
        sym (unmarked_end form.coding place.row (drop place.bits whole) met none.0 none.1 ∙ ap end_by_stop so.2)
    | inr other ↦
        let there = known fault so.2 in
        rw (at_bit_offset place.bits there.within, so.2)
        (sym (end_stays.fault form there.i place.row there.reference (drop place.bits all) rest fault
        (λ is. stay (inl is)) other there.cause))
  ]
  ends_so_stays place met ends.TooMany known stay so =
      let none = unmarked_stays place stay (holds_not _ so.1) in
      sym (unmarked_end form.coding place.row (drop place.bits whole) met none.0 none.1 ∙ ap end_by_stop so.2)

  -- the end of these bytes is that of all
  end_at_stays : (given : FaxStrip) (stride : ℕ) (old : StripMemory) (filled : Filled) (new : StripMemory)
      (end : Option RowsEnd)
      → ReadsOn form strip stride old filled new → (MayGoOn form strip new.place filled.stop end → ⊥)
      → IsEndAt given form strip new.place filled.stop end
      → IsEndAt given form (strip ++ more) new.place filled.stop end
  end_at_stays given stride old filled new None reads stay at = at
  end_at_stays given stride old filled new (Some end) reads stay (uncounted, met, by, so) =
      let known : (fault : StripFault) → met ≡ Some fault → HasCause new.place fault =
      λ fault is. cause_there stride old filled new fault (by ∙ ap Some is) reads in
      let mark = has_end_mark form.coding (drop new.place.bits all) in
      let data_end = has_data_end new.place.row (drop new.place.bits all) in (
        uncounted,
        met,
        by,
        ends_so_stays new.place met end known (λ changes. stay (inr changes))
            (rw so (end_where mark data_end met)),
      )

module _ (stays : (form : StripForm) (i : ℕ) (reference : List Colour) → StaysWhateverFollows form i reference)
    (end_stays : EndsStayWhateverFollows) (stand : AreBitsByIndex)
    (asked : AskedStrip) (form : StripForm) (old : StripMemory) (filled : Filled) (new : StripMemory)
    (end : Option RowsEnd) (old_told told : FaxTold) (status : ℕ)
    (readable : IsReadableIn asked.strip asked.form form) (room_of_runs : most_runs ≤ length old.runs)
    (reads : ReadsOn form asked.strip asked.stride old filled new)
    (at : IsEndAt asked.form form asked.strip new.place filled.stop end) where
  readable_more : (more : List ℕ) → length (asked.strip ++ more) ≤ 536870911
      → IsReadableIn (asked.strip ++ more) asked.form form
  readable_more more few = elim readable [
    | inl counted ↦ inl (counted.0, few)
    | inr uncounted ↦ inr (uncounted.0, (uncounted.1.0, few))
  ]

  -- what is reported of rows that stay is reported of all bytes
  pub settled : (MayGoOn form asked.strip new.place filled.stop end → ⊥) → IsReadTold filled new.place end told status
      → TellsStripPart asked old new old_told told status
  settled stay is = inl (
    inl (form, readable, room_of_runs, filled, reads, end, at, is),
    λ more few.
        let its = reads_on_stays stays end_stays stand form asked.strip more asked.stride old filled new few
        (λ changes. stay (inl changes)) reads in
        let ends = end_at_stays stays end_stays stand form asked.strip more asked.form asked.stride old filled new end
        reads stay at in
        inl (form, readable_more more few, room_of_runs, filled, its, end, ends, is),
  )

  abbrev all_bits : List Bool
  all_bits = bits form.order asked.strip

  -- rows of a strip of unknown height end so, and may end otherwise
  record EndsOpen : Type 0 where
    uncounted : asked.form.rows ≡ 0
    met : Option StripFault
    by : met_in_strip filled.stop ≡ Some met
    its : RowsEnd
    so : its ≡ rows_end form.coding new.place.row (drop new.place.bits all_bits) met
    changes : MayChange form.coding (drop new.place.bits all_bits) its

  ends_open : (end : Option RowsEnd) → EndMayChange form.coding (drop new.place.bits all_bits) end
      → IsEndAt asked.form form asked.strip new.place filled.stop end → EndsOpen
  ends_open None changes at = absurd changes
  ends_open (Some its) changes (uncounted, met, by, so) =
      record { uncounted = uncounted; met = met; by = by; its = its; so = so; changes = changes }

  -- why the row after others is not settled
  unsettled : (to : StripPlace) → MayGoOn form asked.strip new.place filled.stop end
      → StopsAt form all_bits to old.place.page asked.stride (length old.raster - filled.used) filled.stop
      → to.row ≡ new.place.row → to.bits ≡ new.place.bits
      → (asked.stride ≤ length old.raster - filled.used) × IsUnsettled asked.form form asked.strip to
  unsettled to (inl changes) stops row bits_are =
      unsettled_by form asked.strip asked.stride new.place filled.stop asked.form to old.place.page
      (length old.raster - filled.used) changes stops
  unsettled to (inr changes) stops row bits_are =
      let found = ends_open end changes at in
      let lines = lines_by form all_bits to old.place.page asked.stride (length old.raster - filled.used) filled.stop
      found.met found.by stops in
      let may = subst (MayChange form.coding (drop new.place.bits all_bits)) found.so found.changes in
      (lines.0, inr (found.uncounted, found.met, lines.1, rw (row, bits_are) may))

  -- and why it is not where nothing is read
  unsettled_at : MayGoOn form asked.strip new.place filled.stop end → new ≡ old
      → ReadsNone form asked.strip asked.stride old.place old.runs (length old.raster) filled.stop
      → HasRoom form asked.stride (length old.raster) × IsUnsettledAt asked.form form asked.strip old.place
  unsettled_at (inl changes) same none =
      let ahead = ahead_by form asked.strip asked.stride old.place filled.stop old.runs (length old.raster)
      (rw same at changes) none in
      (ahead.0, inl ahead.1)
  unsettled_at (inr changes) same none =
      let found = ends_open end changes at in
      let last = none_by form asked.strip asked.stride old.place filled.stop old.runs (length old.raster) found.met
      found.by none in
      let may = subst (MayChange form.coding (drop new.place.bits all_bits)) found.so found.changes in
      let here = subst (λ (m : StripMemory). MayChange form.coding (drop m.place.bits all_bits)
      (rows_end form.coding m.place.row (drop m.place.bits all_bits) found.met)) same may in
      (last.0, inr (found.uncounted, last.1, rw last.2 at here))

  awaits : IsMoreTold filled told status → MayGoOn form asked.strip new.place filled.stop end
      → ReadsOn form asked.strip asked.stride old filled new → AwaitsMore form asked old new told
  awaits is found (inl (room, from, to, upcoming, read, after)) =
      let there = place_is_to form all_bits from read.rows to filled.count old new read.read read.count upcoming.0 after
      in
      let within : from.bits ≤ length all_bits = omega (arith, upcoming.2, stand.count form.order asked.strip) in
      let part : ArePartRead form asked old new told to = record {
        from = from;
        upcoming = upcoming;
        rows = read.rows;
        read = λ more.
            reads_stay stays end_stays stand form asked.strip more from read.rows to within read.read;
        count = is.count ∙ read.count;
        used = is.used ∙ read.used;
        written = rw is.used read.written;
        page = is.page ∙ ap (λ (at : Cursor). at.page) read.cursor;
        row = is.row ∙ ap (λ (at : Cursor). at.row) read.cursor;
        place_is = rw is.count after;
      } in
      let why = unsettled to found read.stops there.0 there.1 in
      (room, is.fault, inl (to, part, rw is.used why.0, why.1))
  awaits is found (inr (none, count, used, cursor, same)) =
      let why = unsettled_at found same none in
      let nothing : IsNothingRead old new told = record {
        unchanged = same;
        count = is.count ∙ count;
        used = is.used ∙ used;
        page = is.page ∙ ap (λ (at : Cursor). at.page) cursor;
        row = is.row ∙ ap (λ (at : Cursor). at.row) cursor;
      } in
      (why.0, is.fault, inr (nothing, why.1))

  -- where it may be something else, more bytes are waited for
  pub waits : MayGoOn form asked.strip new.place filled.stop end → IsMoreTold filled told status
      → TellsStripPart asked old new old_told told status
  waits found is = inr (is.answer, form, readable, room_of_runs, awaits is found reads)
