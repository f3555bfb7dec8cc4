-- A page that is open: where it stands, and what is read there.
use Rattle.std.proofs.lemmas.Grind.{common_steps}
use Rattle.std.proofs.Common.{◌≡◌, ℕ, ◌+◌, ◌-◌, ◌*◌, ◌<◌, ◌≤◌, ◌⊎◌, inl, inr, min, List, [], ◌∷◌, ◌++◌, length, drop}
use Rattle.std.proofs.Common.{Option, Some, None}
use Rattle.std.proofs.Common.{Result, Ok, Err, refl, sym, ap, ◌∙◌, subst, arith, add-mul, ◌^◌}
use Rattle.std.proofs.lemmas.Bool.{cases_lt}
use Rattle.std.proofs.lemmas.Bool.Decides.{nat_tests}
use Rattle.std.specs.Prelude.{IfErr}
use Rattle.fax_bits.specs.declared.Colour.{Colour}
use Rattle.fax_bits.specs.declared.Colour.TheVariants.{White}
use Rattle.fax_bits.specs.Bits.{bits}
use Rattle.fax_rows.specs.Rows.{pels_of_runs, runs_of}
use Rattle.fax_page.specs.declared.StripForm.{StripForm}
use Rattle.fax_page.specs.declared.StripFault.{StripFault}
use Rattle.fax_page.specs.Lines.{IsLine}
use Rattle.fax_page.specs.views.Reader.{StripState, ReadsRow, MeetsFault, IsAdvance}
use Rattle.fax_files.specs.declared.FileFault.TheVariants.{StripOutside}
use Rattle.fax_files.specs.declared.Cause.TheVariants.{File, Strip}
use Rattle.fax_files.specs.declared.PageForm.{PageForm}
use Rattle.fax_files.specs.laws.TiffFiles.{IsWholeForm}
use Rattle.fax_files.specs.views.Page.{IsPageForm}
use Rattle.fax_files.specs.Page.{most_rows, strip_form}
use Rattle.fax_files.specs.views.Chain.{ChainState}
use Rattle.fax_files.specs.views.Tiff.{TiffDirectory, bytes_of}
use Rattle.fax_walk.specs.declared.end.End.{End}
use Rattle.fax_walk.specs.declared.end.End.TheVariants.{Fault}
use Rattle.fax_walk.specs.declared.opening.OpenFault.{OpenFault}
use Rattle.fax_walk.specs.Pages.{LongCursorValue, read_page, goes_on, ends_as}
use Rattle.fax_walk.specs.Items.{StripPosition, RowItem, RowPosition, IsRow, before, exchanged, first_at, long_at}
use Rattle.fax_walk.specs.Items.{place_after}
use Rattle.fax_walk.specs.code.RowPlaces.{IsInner, cursor_at, row_in_strip, strip_at, place_on}
use Rattle.fax_walk.specs.laws.InOrder.{LeadTo}
use Rattle.fax_walk.specs.code.Opening.{IsFilePage, UpcomingPage, page_with}
use Rattle.fax_walk.specs.views.Walk.{HasPage}
use Rattle.fax_walk.specs.code.Stages.{GivesRow, HasSkipped, IsNoInner, IsNoStrip, IsRefusal, IsOpen}
use Rattle.fax_walk.specs.code.Stages.{IsSamePage, IsStripOf}
use Rattle.fax_walk.specs.code.Stages.{KeepsPlace, PageState, ReadsPageRow, StopsAtRow, item_of, place_of, row_of}
use Rattle.fax_walk.proofs.InOrderLemmas.{leads_on}
use Rattle.fax_walk.proofs.PelsAfterLemmas.{pels_after}
use Rattle.fax_walk.proofs.StripPlaceLemmas.{in_strip}
use Rattle.fax_walk.proofs.RowLawLemmas.{exchanged_twice}

-- the strips of a page hold its rows, and each some of them
pub whole_of : (form : PageForm) → IsPageForm form → IsWholeForm form
whole_of form limits = grind arith

-- the place of a row of a page: a strip's first, or one inside its strip
pub at_first : (form : PageForm) (p r : ℕ) (inner : StripPosition) → r < form.rows → row_in_strip form r ≡ 0
    → place_on form p r inner ≡ first_at
    p r
at_first form p r inner below none = grind (arith, common_steps)

pub at_inner : (form : PageForm) (p r : ℕ) (inner : StripPosition) → r < form.rows → 0 < row_in_strip form r
    → place_on form p r inner ≡ record { page = p; row = r; inner = Some inner }
at_inner form p r inner below some = grind (arith, common_steps)

pub at_end : (form : PageForm) (p r : ℕ) (inner : StripPosition) → r ≡ form.rows → place_on form p r inner
    ≡ first_at (p + 1) 0
at_end form p r inner last = grind (arith, common_steps)

-- row i of strip s is expected, after which so many bits and this row stand before it
module _ (form : PageForm) (p s i r : ℕ) (inner : StripPosition) (r_is : r ≡ s * form.rows_per_strip + i)
    (upcoming : i < (strip_form form s).rows) where
  pub row_below : r < form.rows
  row_below = omega (arith, r_is, upcoming)

  pub numbers : (strip_at form r ≡ s) × (row_in_strip form r ≡ i)
  numbers = in_strip form.rows_per_strip s i r (omega (arith, upcoming)) r_is

  pub upcoming_at : (i ≡ 0 → inner ≡ before form.width None)
      → (o : Option StripPosition) × (place_on form p r inner ≡ record { page = p; row = r; inner = o })
      × (before form.width o ≡ inner)
  upcoming_at first = elim (cases_lt 0 i) [
    | inl some ↦ (Some inner, at_inner form p r inner row_below (omega (arith, some, numbers.1)), refl)
    | inr none ↦ (
      None,
      at_first form p r inner row_below (omega (arith, none, numbers.1)),
      sym
          (first (omega (arith, none))),
    )
  ]

module _ (page : PageState) (limits : IsPageForm page.form) (strip_is : IsStripOf page.form page.directory page.number
    page.strip) where
  abbrev n : ℕ
  n = page.form.rows_per_strip

  abbrev before_row : StripPosition
  before_row = record { bits = page.strip.place; reference = page.strip.reference }

  strip_rows : page.strip.form.rows ≡ min n (page.form.rows - page.number * n)
  strip_rows = ap (λ (f : StripForm). f.rows) strip_is.form_is

  module _ (upcoming : page.strip.row < page.strip.form.rows) where
    upcoming_now : page.strip.row < (strip_form page.form page.number).rows
    upcoming_now = omega (arith, upcoming, strip_rows)

    pub is_below : row_of page < page.form.rows
    is_below = row_below page.form page.page page.number page.strip.row (row_of page) before_row refl upcoming_now

    pub numbered : (strip_at page.form (row_of page) ≡ page.number)
        × (row_in_strip page.form (row_of page) ≡ page.strip.row)
    numbered = numbers page.form page.page page.number page.strip.row (row_of page) before_row refl upcoming_now

    stands : (o : Option StripPosition) × (place_of page ≡ record { page = page.page; row = row_of page; inner = o })
        × (before page.form.width o ≡ before_row)
    stands = upcoming_at page.form page.page page.number page.strip.row (row_of page) before_row refl upcoming_now
        (λ none. rw ((strip_is.first none).0, (strip_is.first none).1) refl)

    module _ (its : IsFilePage page.page page.chain page.directory page.form) where
      -- the next row is read
      module _ (strip : StripState) (pels : List Colour) (reads : ReadsRow page.strip strip)
          (pels_are : pels ≡ exchanged page.form strip.reference)
          (within : strip.place ≤ 8 * length strip.bytes) where
        abbrev item : RowItem
        item = record { page = page.page; form = page.form; row = row_of page; pels = pels; bits = strip.place }

        twice : exchanged page.form pels ≡ strip.reference
        twice = ap (exchanged page.form) pels_are ∙ exchanged_twice page.form strip.reference

        line : IsLine (strip_form page.form page.number) page.strip.row page.strip.reference
            (drop page.strip.place (bits page.form.order page.strip.bytes)) strip.reference
            (drop strip.place (bits page.form.order page.strip.bytes))
        line = rw (reads.same_form, reads.same_bytes, strip_is.form_is) at reads.line

        pub row_read : IsRow page.directory.file (place_of page) (goes_on item (place_after item))
        row_read = rw (stands.1, its.here (row_of page), numbered.0, strip_is.bytes_are) (
          refl,
          refl,
          rw reads.same_bytes at within,
          rw (numbered.0, numbered.1, stands.2, twice) line,
          refl,
          refl,
        )

        pub place_next : place_on page.form page.page (page.number * n + strip.row)
            (record { bits = strip.place; reference = strip.reference })
            ≡ place_after item
        place_next = grind (arith, common_steps, twice)

      -- it is not there
      pub row_fault : (fault : StripFault) (strip : StripState) → MeetsFault page.strip fault strip
          → IsRow page.directory.file (place_of page) (ends_as (Fault page.page (row_of page) (Strip fault)))
      row_fault fault strip meets = rw (stands.1, its.here (row_of page), numbered.0, strip_is.bytes_are) (
        fault,
        rw (numbered.1, stands.2) (rw strip_is.form_is at meets.cause),
        refl,
      )

  -- the strip is read to its end, and the page continues
  module _ (all_read : page.strip.row ≡ page.strip.form.rows) (upcoming : row_of page < page.form.rows) where
    next_row : row_of page ≡ (page.number + 1) * n
    next_row = omega (arith, all_read, upcoming, strip_rows, add-mul page.number 1 n)

    next_numbers : (strip_at page.form (row_of page) ≡ page.number + 1) × (row_in_strip page.form (row_of page) ≡ 0)
    next_numbers = in_strip n (page.number + 1) 0 (row_of page) limits.some_rows_per_strip (omega (arith, next_row))

    first_there : place_of page ≡ first_at page.page (row_of page)
    first_there = at_first page.form page.page (row_of page) _ upcoming next_numbers.1

    pub strip_outside : IsFilePage page.page page.chain page.directory page.form
        → bytes_of page.directory (page.number + 1) ≡ None
        → IsRow page.directory.file (place_of page) (ends_as (Fault page.page (row_of page) (File StripOutside)))
    strip_outside its outside =
        rw (first_there, its.here (row_of page), next_numbers.0, outside, next_numbers.0) (rw next_row refl)

    pub next_row_is : (strip : StripState) → strip.row ≡ 0 → (page.number + 1) * n + strip.row ≡ row_of page
    next_row_is strip none = omega (arith, none, next_row)

    pub next_place : (strip : StripState) → strip.row ≡ 0
        → place_on page.form page.page ((page.number + 1) * n + strip.row)
        (record { bits = strip.place; reference = strip.reference })
        ≡ place_of page
    next_place strip none = grind (arith, common_steps, next_numbers)

-- so many rows of a page are read at most
pub rows_within : (page : PageState) → IsPageForm page.form → page.number < page.form.strips
    → page.strip.form ≡ strip_form page.form
    page.number
    → page.strip.row ≤ page.strip.form.rows → row_of page ≤ page.form.rows
rows_within page limits within form_is within_strip = grind arith

-- so few rows are read that they can be counted
pub few_read : (page : PageState) → IsPageForm page.form → page.number < page.form.strips
    → page.strip.form ≡ strip_form page.form page.number
    → page.strip.row ≤ page.strip.form.rows → page.page < 2 ^ 32 → page.read ≤ page.page * most_rows + row_of page
    → page.read < 2 ^ 53
few_read page limits within form_is within_strip some_page few = grind (arith, common_steps)

-- a page that is open, as its fields have it
abbrev pub state : ℕ → ChainState → TiffDirectory → PageForm → ℕ → ℕ → StripState → List Colour → ℕ → PageState
state page chain directory form first number strip shown read = record {
  page = page;
  chain = chain;
  directory = directory;
  form = form;
  first = first;
  number = number;
  strip = strip;
  shown = shown;
  read = read;
}

-- the next strip begins
pub next_keeps : (page : PageState) (strip : StripState) (shown : List Colour) → IsPageForm page.form
    → IsStripOf page.form page.directory page.number page.strip → page.strip.row ≡ page.strip.form.rows
    → row_of page < page.form.rows
    → strip.row ≡ 0 → (read : ℕ) → read ≡ page.read
    → KeepsPlace page (record page { number = page.number + 1; strip = strip; shown = shown; read = read })
next_keeps page strip shown limits strip_is all_read upcoming none now_read read_is = grind (
  arith,
  next_row_is,
  next_place,
)

-- the next strip is not there
pub next_stops : (page : PageState) → IsPageForm page.form → IsStripOf page.form page.directory page.number page.strip
    → IsFilePage page.page page.chain page.directory page.form → page.strip.row ≡ page.strip.form.rows
    → row_of page < page.form.rows
    → bytes_of page.directory (page.number + 1) ≡ None → StopsAtRow page
    (Fault page.page (row_of page) (File StripOutside))
next_stops page limits strip_is its all_read upcoming outside = grind (arith, strip_outside)

module _ (old page : PageState) (keeps : KeepsPlace old page) where
  -- a row is read at the place that was kept
  pub reads_kept : (strip : StripState) (shown : List Colour) → IsOpen old → IsPageForm page.form
      → IsStripOf page.form page.directory page.number page.strip
      → IsFilePage page.page page.chain page.directory page.form → ReadsRow page.strip strip
      → shown ≡ exchanged page.form strip.reference
      → (read : ℕ) → read ≡ page.read + 1 → ReadsPageRow old (record page { strip = strip; shown = shown; read = read })
  reads_kept strip shown is_open limits strip_is its reads shown_is now_read read_is =
      let new : PageState = record page { strip = strip; shown = shown; read = now_read } in
      let upcoming = reads.upcoming in
      let same = keeps.same in
      let item : RowItem = record {
        page = page.page;
        form = page.form;
        row = row_of page;
        pels = shown;
        bits =
            strip.place;
      } in
      let its_item : RowItem = item_of old (row_of old) new in
      let item_is : item ≡ its_item = rw (same.page, keeps.row, same.form) refl in
      let step = row_read page limits strip_is upcoming its strip shown reads shown_is reads.within in
      let after = place_next page limits strip_is upcoming its strip shown reads shown_is reads.within in
      let read : IsRow page.directory.file (place_of page) (goes_on its_item (place_of new)) =
      rw (← item_is, after) step in
      record {
        upcoming = subst (λ (f : PageForm). row_of old < f.rows) same.form
            (rw keeps.row at (is_below page limits strip_is upcoming));
        same = record { page = same.page; form = same.form; first = same.first; directory = same.directory };
        still_open = record { no_fault = reads.still_no_fault; first = rw (same.first, same.form) is_open.first };
        step = subst (λ (d : TiffDirectory). IsRow d.file (place_of old) (goes_on its_item (place_of new)))
            same.directory
            (subst (λ (t : RowPosition). IsRow page.directory.file t (goes_on its_item (place_of new))) keeps.place
            read);
        next_row = omega (arith, reads.next_row, keeps.row);
        one_more = omega (arith, keeps.read, read_is);
        after = after ∙ ap place_after item_is;
      }

  pub stops_kept : (end : End) → StopsAtRow page end → StopsAtRow old end
  stops_kept end stops = grind (arith, common_steps)

-- a fault is met at the row where the reader of the strip stays
pub fault_stops : (page : PageState) (strip : StripState) (fault : StripFault) → IsOpen page → IsPageForm page.form
    → IsStripOf page.form page.directory page.number page.strip
    → IsFilePage page.page page.chain page.directory page.form
    → IsAdvance page.strip (Err fault) strip → (row : ℕ) → row ≡ page.number * page.form.rows_per_strip + strip.row
    → StopsAtRow page (Fault page.page row (Strip fault))
fault_stops page strip fault is_open limits strip_is its (inl again) row upcoming = grind arith
fault_stops page strip fault is_open limits strip_is its (inr meets) row upcoming =
    rw (upcoming, meets.told)
    (record {
      stop = row_fault page limits strip_is meets.upcoming its fault strip meets;
      final_end = (
        Strip fault,
        refl,
      );
    })

module _ (old now new : PageState) (items : List RowItem) (skips : HasSkipped old now items)
    (reads : ReadsPageRow now new) where
  abbrev its_item : RowItem
  its_item = item_of now (row_of now) new

  same_on : IsSamePage old new
  same_on = grind (arith, common_steps)

  lead_on : LeadTo (IsRow old.directory.file) (place_of old) (items ++ its_item ∷ []) (place_of new)
  lead_on = grind (arith, common_steps, leads_on)

  pub one_skipped : row_of new ≤ new.first → HasSkipped old new (items ++ its_item ∷ [])
  one_skipped before = grind (arith, common_steps, lead_on)

  pub row_given : IsFilePage new.page new.chain new.directory new.form → new.first < row_of new → new.read < 2 ^ 53
      → GivesRow old new
  row_given its past few = grind (arith, same_on, lead_on)

-- the next page is opened at the strip that holds a row
module _ (upcoming : UpcomingPage) (first : ℕ) (its : IsFilePage upcoming.page upcoming.chain upcoming.directory
    upcoming.form)
    (limits : IsPageForm upcoming.form)
    (there : first < upcoming.form.rows) where
  abbrev number : ℕ
  number = strip_at upcoming.form first

  abbrev begins : ℕ
  begins = number * upcoming.form.rows_per_strip

  begin_numbers : (strip_at upcoming.form begins ≡ number) × (row_in_strip upcoming.form begins ≡ 0)
  begin_numbers = in_strip upcoming.form.rows_per_strip number 0 begins limits.some_rows_per_strip (omega arith)

  pub refused_strip : bytes_of upcoming.directory number ≡ None → IsNoStrip upcoming first
      (Fault upcoming.page begins (File StripOutside))
  refused_strip outside = record {
    stop = rw (its.here begins, begin_numbers.0, outside, begin_numbers.0) refl;
    cause = File StripOutside;
    final_end = refl;
  }

-- the next page is there
pub upcoming_there : (p : ℕ) (chain : ChainState) (directory : TiffDirectory) (form : PageForm)
    → IsFilePage p chain directory form
    → HasPage directory.file p
upcoming_there p chain directory form its = rw (its.here 0) tt

pub refused_after : (file : List ℕ) (upcoming : UpcomingPage) (p : ℕ) (result : Result PageState OpenFault)
    → upcoming.page ≡ p
    → upcoming.directory.file ≡ file → IfErr result (IsRefusal (IsNoStrip upcoming 0))
    → IfErr result (IsRefusal (λ end. IsRow file (first_at p 0) (ends_as end)))
refused_after file upcoming p result page_is file_is refused = grind arith

-- runs that are those of a row are a place's
pub inner_is : (width : ℕ) (bytes : List ℕ) (place : LongCursorValue) (reference : List Colour)
    → place.bits ≤ 8 * length bytes
    → length reference ≡ width → runs_of reference ≡ place.runs
    → IsInner width bytes place × (reference ≡ pels_of_runs White place.runs)
inner_is width bytes place reference within width_is runs = grind (arith, common_steps, pels_after)

-- a place inside a strip of the next page
module _ (upcoming : UpcomingPage) (place : LongCursorValue) (its : IsFilePage upcoming.page upcoming.chain
    upcoming.directory upcoming.form)
    (same_page : upcoming.page ≡ place.at.page)
    (below : place.at.row < upcoming.form.rows) (some : 0 < row_in_strip upcoming.form place.at.row) where
  abbrev its_number : ℕ
  its_number = strip_at upcoming.form place.at.row

  its_here : read_page upcoming.directory.file place.at ≡ Ok (page_with upcoming.directory upcoming.form)
  its_here = rw same_page at (its.here place.at.row)

  pub no_strip : bytes_of upcoming.directory its_number ≡ None
      → IsNoInner upcoming place (Fault upcoming.page (its_number * upcoming.form.rows_per_strip) (File StripOutside))
  no_strip outside = grind (arith, its_here)

-- the place inside the strip after the row that was read last
module _ (page : PageState) (limits : IsPageForm page.form) (within : page.number < page.form.strips)
    (strip_is : IsStripOf page.form page.directory page.number page.strip) where
  abbrev long_of : Option LongCursorValue
  long_of = let at = place_of page in long_at (cursor_at at) at.inner

  none_first : (p r : ℕ) → place_of page ≡ first_at p r → None ≡ long_of
  none_first p r is = rw is refl

  pub long_none : (page.strip.row ≡ 0) ⊎ (page.strip.row ≡ page.strip.form.rows) → None ≡ long_of
  long_none (inl none) =
      let begins = (whole_of page.form limits).needed page.number within in
      let numbers = in_strip page.form.rows_per_strip page.number 0 (row_of page) limits.some_rows_per_strip
      (omega (arith, none)) in
      none_first page.page (row_of page) (at_first page.form page.page (row_of page) _ (omega (arith, begins, none))
      numbers.1)
  long_none (inr all) = grind (arith, cases_lt, none_first, first_there, rows_within, at_end)

  module _ (some : 0 < page.strip.row) (upcoming : page.strip.row < page.strip.form.rows) where
    inside : place_of page
        ≡ record {
          page = page.page;
          row = row_of page;
          inner = Some
              (record { bits = page.strip.place; reference = page.strip.reference });
        }
    inside = grind (arith, at_inner, is_below, numbered)

    pub long_some : (bits : ℕ) → bits ≡ page.strip.place → bits ≤ 4294967295
        → Some (record {
          at = record { page = page.page; row = row_of page };
          bits = bits;
          runs =
              runs_of page.strip.reference;
        }) ≡ long_of
    long_some bits is few = rw (inside, ← is) (grind (arith, nat_tests, few))
