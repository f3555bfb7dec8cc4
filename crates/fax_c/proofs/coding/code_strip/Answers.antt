use Rattle.std.proofs.Common.{◌≡◌, ℕ, ◌+◌, ◌-◌, ◌*◌, List, [], ◌∷◌, ◌++◌, take, drop, ap, arith, refl, ◌∙◌}
use Rattle.std.specs.Prelude.{Result, IfOk}
use Rattle.std.specs.List.{between}
use Rattle.std.proofs.lemmas.List.FromFn.{length-map-range_with_len, map-range_with_len_more}
use Rattle.fax_rows.specs.Coded.{unpacked_row}
use Rattle.fax_page.specs.declared.StripForm.{StripForm}
use Rattle.fax_page.specs.laws.Writer.{HasPut}
use Rattle.fax_page.specs.views.Writer.{WriterState}
use Rattle.fax_c.specs.Raster.{raster_row, rows_of_raster}
use Rattle.fax_c.proofs.coding.code_strip.Goals as goal

if_ok-weaker : {T E : Type 0} {P Q : T → Type 0} (r : Result T E) → ((v : T) → P v → Q v) → IfOk r P → IfOk r Q
if_ok-weaker r more holds = grind arith

-- the bytes of a row in a raster
cut : (xs : List ℕ) (at len n : ℕ) → len ≡ n → between at (at + len) xs ≡ take n (drop at xs)
cut xs at len n same =
    let count : at + len - at ≡ n = omega (arith, same) in
    ap (λ k. take k (drop at xs)) count

upcoming_row : (form : StripForm) (k stride first i : ℕ) (raster : List ℕ) (writer : WriterState)
    → HasPut form k (rows_of_raster form.width stride raster first i) writer → writer.row ≡ i
upcoming_row form k stride first i raster writer put =
    ap (λ (w : WriterState). w.row) put ∙ length-map-range_with_len (raster_row form.width stride raster) first i

pub put_row-requires-clause-upcoming : goal.put_row-requires-clause-upcoming
put_row-requires-clause-upcoming c =
    let put = c.loop-i.invariant.put in
    let upcoming = upcoming_row c.args.form c.args.k c.args.stride c.args.first c.loop-i.i c.args.raster.now
    c.loop-i.writer put
    in
    let rows = ap (λ (w : WriterState). w.form.rows) put in
    omega (arith, upcoming, rows, c.loop-i-test.true)

pub loop-i-preserved : goal.loop-i-preserved
loop-i-preserved c =
    let form = c.args.form in
    let raster = c.args.raster.now in
    let i = c.loop-i.i in
    let row = c.set_packed.new.self in
    let all = rows_of_raster form.width c.args.stride raster c.args.first i in
    let row_is : row ≡ raster_row form.width c.args.stride raster (c.args.first + i) =
    rw (c.set_packed.ensures.pels, c.loop-i.invariant.width) (ap (unpacked_row form.width)
    (cut raster ((c.args.first + i) * c.args.stride) c.packed_len-len.result _ c.packed_len-len.ensures)) in
    let more : rows_of_raster form.width c.args.stride raster c.args.first (i + 1) ≡ all ++ row ∷ [] =
    rw row_is (map-range_with_len_more (raster_row form.width c.args.stride raster) c.args.first i _ refl) in
    record {
      width = c.set_packed.ensures.same_width ∙ c.loop-i.invariant.width;
      put = rw more (c.strips_are_written_row_by_row.ensures.goes_on form c.args.k all row c.loop-i.writer
          c.put_row.new.self c.loop-i.invariant.put c.in_ok-put_row.ensures);
    }

pub finish-requires : goal.finish-requires
finish-requires c =
    let put = c.loop-i.invariant.put in
    let upcoming = upcoming_row c.args.form c.args.k c.args.stride c.args.first c.loop-i.i c.args.raster.now
    c.loop-i.writer put
    in
    let rows = ap (λ (w : WriterState). w.form.rows) put in
    record { all_put = λ fine. omega (arith, upcoming, rows, c.loop-i-test.false, c.loop-i.auto.i-end) }

pub returns : goal.returns
returns c =
    let put = c.loop-i.invariant.put in
    let i_is : c.loop-i.i ≡ c.args.form.rows = omega (arith, c.loop-i-test.false, c.loop-i.auto.i-end) in
    let all = rows_of_raster c.args.form.width c.args.stride c.args.raster.now c.args.first c.args.form.rows in
    let whole = rw i_is at put in
    if_ok-weaker c.finish.result
    (λ bytes. c.strips_are_written_row_by_row.ensures.finishes _ c.args.k all c.loop-i.writer bytes.items whole)
    c.finish.ensures
