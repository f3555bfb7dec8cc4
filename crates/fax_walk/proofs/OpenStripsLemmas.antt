-- Rows that are put on a page, strip by strip.
use Rattle.std.proofs.Common.{◌≡◌, ℕ, zero, suc, ◌+◌, ◌*◌, ◌<◌, ◌≤◌, min, List, [], ◌∷◌, ◌++◌, length, take, drop}
use Rattle.std.proofs.Common.{Option, Some}
use Rattle.std.specs.List.{range_with_len}
use Rattle.std.proofs.Common.{map, None, Vec, refl, sym, ap, ◌∙◌, subst, arith, length-drop, length-append}
use Rattle.std.proofs.Common.{replicate, append_assoc}
use Rattle.std.specs.declared.alloc.Global.{Global}
use Rattle.std.proofs.lemmas.List.FromFn.{map-range_with_len_more}
use Rattle.std.proofs.lemmas.List.{take-append-le, drop-append-le, drop_all, take_all, length_push}
use Rattle.std.proofs.lemmas.List.{length-replicate, replicate-append-replicate}
use Rattle.fax_bits.specs.declared.Colour.{Colour}
use Rattle.fax_bits.specs.declared.Colour.TheVariants.{White}
use Rattle.fax_page.specs.Lines.{white_row}
use Rattle.fax_page.specs.Strip.{coded_strip}
use Rattle.fax_page.specs.views.Writer.{WriterState, PutsRow, PutsRows, FinishesAs, writer_beginning}
use Rattle.fax_page.specs.laws.Writer.{HasPut, WritesRowByRow}
use Rattle.fax_files.specs.declared.PageForm.{PageForm}
use Rattle.fax_files.specs.Page.{strip_form}
use Rattle.fax_files.specs.views.Writing.{contents}
use Rattle.fax_walk.specs.declared.open_strips.StripsWriter.{StripsWriter}
use Rattle.fax_walk.specs.code.StripsWriter.{coded_of, AreInStrip, HasPutRows, TakesRow, TakesWhiteRows, PutsWhiteRows}

-- rows after n strips do not change them
strips_more : (form : PageForm) (k n : ℕ) (rows more : List (List Colour)) → n * form.rows_per_strip ≤ length rows
    → map (coded_of form k (rows ++ more)) (range_with_len 0 n) ≡ map (coded_of form k rows) (range_with_len 0 n)
strips_more form k zero rows more far = refl
strips_more form k (suc n) rows more far =
    let place = n * form.rows_per_strip in
    let before : place ≤ length rows = omega arith in
    let here : form.rows_per_strip ≤ length (drop place rows) = omega (arith, length-drop place rows) in
    let last : coded_of form k (rows ++ more) n ≡ coded_of form k rows n =
    ap (λ (l : List (List Colour)). coded_strip (strip_form form n) k (take form.rows_per_strip l))
    (drop-append-le place rows more before)
    ∙ ap (coded_strip (strip_form form n) k) (take-append-le form.rows_per_strip (drop place rows) more here) in
    let m : suc n ≡ n + 1 = omega arith in
    ap (λ (i : ℕ). map (coded_of form k (rows ++ more)) (range_with_len 0 i)) m
    ∙ rw (
      map-range_with_len_more (coded_of form k (rows ++ more)) 0 n n (omega arith),
      map-range_with_len_more (coded_of form k rows) 0 n n (omega arith),
      strips_more form k n rows more before,
      last,
    ) refl
    ∙ ap (λ (i : ℕ). map (coded_of form k rows) (range_with_len 0 i)) (sym m)

contents_next : (strips : List (Vec ℕ Global)) (bytes : Vec ℕ Global)
    → contents (strips ++ bytes ∷ []) ≡ contents strips ++ bytes.items ∷ []
contents_next [] bytes = refl
contents_next (first ∷ strips) bytes = ap (λ (l : List (List ℕ)). first.items ∷ l) (contents_next strips bytes)

module _ (writes : WritesRowByRow) (form : PageForm) (k : ℕ) (rows : List (List Colour)) (page : StripsWriter)
    (put : HasPutRows form k rows page)
    (upcoming : length rows < form.rows) where
  abbrev pub n : ℕ
  n = length page.done.items

  abbrev pub in_strip : ℕ
  in_strip = form.rows_per_strip

  abbrev Places : Type 0
  Places = (n * in_strip ≤ length rows) × (length rows < n * in_strip + in_strip)

  places_by : (writer : Option WriterState) → AreInStrip form k n rows writer → Places
  places_by writer is = grind (arith, length-drop)

  places : Places
  places = places_by page.writer put.in_strip

  one_upcoming : n < form.strips
  one_upcoming = grind arith

  -- a strip's writer that the next row can be put to
  abbrev pub IsReady : WriterState → Type 0
  IsReady writer = HasPut (strip_form form n) k (drop (n * in_strip) rows) writer

  pub ready_started : (writer : WriterState) → page.writer ≡ Some writer → IsReady writer
  ready_started writer is = let started = rw is at put.in_strip in started.2.has_put

  pub ready_new : (writer : WriterState) → page.writer ≡ None
      → writer ≡ writer_beginning (strip_form page.form n) page.k → IsReady writer
  ready_new writer none is = grind (arith, drop_all)

  -- one row fits into its strip
  pub one_fits : length rows + 1 ≤ min ((n + 1) * in_strip) form.rows
  one_fits = omega (arith, places)

  pub row_goes_on : (row : List Colour) (old new : WriterState) → IsReady old → PutsRow old row new
      → HasPut (strip_form form n) k (drop (n * in_strip) rows ++ row ∷ []) new
  row_goes_on row old new ready puts =
      writes.goes_on (strip_form form n) k (drop (n * in_strip) rows) row old new ready puts

  pub white_goes_on : (m : ℕ) (old new : WriterState) → IsReady old
      → PutsRows old (replicate m (white_row old.form.width)) new
      → HasPut (strip_form form n) k (drop (n * in_strip) rows ++ replicate m (white_row form.width)) new
  white_goes_on m old new ready puts =
      writes.goes_on_by_rows (strip_form form n) k (drop (n * in_strip) rows) (replicate m (white_row form.width)) old
      new ready
      (subst (λ w. PutsRows old (replicate m (white_row w)) new) (ap (λ (w : WriterState). w.form.width) ready) puts)

  -- rows that are put to the strip that is open, one or more, as far as it goes
  module _ (added : List (List Colour)) (m : ℕ) (new : WriterState) (m_is : length added ≡ m) (some : 0 < m)
      (fits : length rows + m ≤ min ((n + 1) * in_strip) form.rows)
      (goes_on : HasPut (strip_form form n) k (drop (n * in_strip) rows ++ added) new) where
    abbrev more : List (List Colour)
    more = rows ++ added

    count : length more ≡ length rows + m
    count = length-append rows added ∙ ap (λ i. length rows + i) m_is

    rest_is : drop (n * in_strip) more ≡ drop (n * in_strip) rows ++ added
    rest_is = drop-append-le (n * in_strip) rows added places.0

    has_put : HasPut (strip_form form n) k (drop (n * in_strip) more) new
    has_put = rw rest_is goes_on

    same_strips : map (coded_of form k rows) (range_with_len 0 n) ≡ map (coded_of form k more) (range_with_len 0 n)
    same_strips = sym (strips_more form k n rows added places.0)

    pub kept : (length rows + m ≡ min ((n + 1) * in_strip) form.rows → ⊥)
        → HasPutRows form k more (record page { writer = Some new; rows = page.rows + m })
    kept not_whole = record {
      form_is = put.form_is;
      k_is = put.k_is;
      limits = put.limits;
      some_k = put.some_k;
      count = omega (arith, put.count, count);
      within = omega (arith, count);
      strips = put.strips;
      done = put.done ∙ same_strips;
      in_strip = (
        omega (arith, places, count),
        omega (arith, places, count, not_whole),
        record {
          has_put = has_put;
          some = omega (arith, length-drop (n * in_strip) more, count, places);
          fewer = omega (arith, length-drop (n * in_strip) more, count, places, not_whole);
        },
      );
    }

    pub whole : (done : Vec (Vec ℕ Global) Global) (bytes : Vec ℕ Global) → done.items ≡ page.done.items ++ bytes ∷ []
        → length rows + m ≡ min ((n + 1) * in_strip) form.rows → FinishesAs new bytes.items
        → HasPutRows form k more (record page { done = done; writer = None; rows = page.rows + m })
    whole done bytes done_is all ends =
        let strips_are : length done.items ≡ n + 1 = ap length done_is ∙ length_push page.done.items bytes in
        let all_rows : take in_strip (drop (n * in_strip) more) ≡ drop (n * in_strip) more =
        take_all in_strip (drop (n * in_strip) more) (omega (arith, length-drop (n * in_strip) more, count, places)) in
        let coded : bytes.items ≡ coded_strip (strip_form form n) k (drop (n * in_strip) more) =
        writes.finishes (strip_form form n) k (drop (n * in_strip) more) new bytes.items has_put ends in
        record {
          form_is = put.form_is;
          k_is = put.k_is;
          limits = put.limits;
          some_k = put.some_k;
          count = omega (arith, put.count, count);
          within = omega (arith, count);
          strips = omega (arith, strips_are, one_upcoming);
          done = rw (
            strips_are,
            done_is,
            contents_next page.done.items bytes,
            put.done,
            same_strips,
            coded,
            map-range_with_len_more (coded_of form k more) 0 n n (omega arith),
            all_rows,
          ) refl;
          in_strip = rw strips_are (omega (arith, all, count));
        }

pub more_white : (old middle new : StripsWriter) (a b m : ℕ) → PutsWhiteRows old a middle → PutsWhiteRows middle b new
    → a + b ≡ m
    → PutsWhiteRows old m new
more_white old middle new a b m first next all form k rows put within =
    let white = white_row form.width in
    let some = rows ++ replicate a white in
    let count : length some ≡ length rows + a =
    length-append rows (replicate a white) ∙ ap (λ i. length rows + i) (length-replicate a white) in
    let rows_are : some ++ replicate b white ≡ rows ++ replicate m white =
    append_assoc rows (replicate a white) (replicate b white)
    ∙ ap (λ (l : List (List Colour)). rows ++ l) (replicate-append-replicate a b white)
    ∙ ap (λ i. rows ++ replicate i white) all in
    subst (λ l. HasPutRows form k l new) rows_are
    (next form k some (first form k rows put (omega (arith, all, within))) (omega (arith, count, all, within)))

-- the next row is expected where white rows are, whatever rows were put
pub next_upcoming : (page : StripsWriter) (m : ℕ) → TakesWhiteRows page m → 0 < m
    → (form : PageForm) (k : ℕ) (rows : List (List Colour)) → HasPutRows form k rows page
    → length rows < form.rows
next_upcoming page m takes some form k rows put =
    omega (
      arith,
      some,
      takes.upcoming,
      takes.put.count,
      put.count,
      ap (λ (f : PageForm). f.rows) (sym takes.put.form_is ∙ put.form_is),
    )

pub takes_white_row : (page : StripsWriter) (m : ℕ) (takes : TakesWhiteRows page m) → 0 < m
    → TakesRow page (white_row takes.form.width)
takes_white_row page m takes some = record {
  form = takes.form;
  k = takes.k;
  rows = takes.rows;
  put = takes.put;
  upcoming = omega (arith, takes.upcoming);
  width = length-replicate takes.form.width White;
}
