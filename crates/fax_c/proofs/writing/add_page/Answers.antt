use Rattle.std.proofs.Common.{◌∙◌, ◌+◌, Err, List, ℕ, ap, arith, drop, inl, inr, length, refl, sym, take}
use Rattle.fax_files.specs.views.Writing.{contents}
use Rattle.fax_c.specs.Raster.{page_strips}
use Rattle.fax_c.proofs.AddPageLemmas.{page_added, page_len, strips_are_counted, told_is}
use Rattle.fax_c.proofs.writing.add_page.Goals as goal

pub write_page-requires-clause-strips : goal.write_page-requires-clause-strips
write_page-requires-clause-strips c =
    rw c.deref.ensures.value
    (strips_are_counted c.args.form.now c.args.k c.args.stride c.args.raster.now c.in-Ok.strips.items c.in-Ok.ensures)

pub returns-in-Err-OutputTooLarge : goal.returns-in-Err-OutputTooLarge
returns-in-Err-OutputTooLarge c =
    let strips = ap contents c.deref.ensures.value ∙ c.in-Ok.ensures in
    let too_large = c.write_page.ensures.too_large.0 (c.in-Err-OutputTooLarge.is
    ∙ ap Err c.in-Err-OutputTooLarge.field-0-is) in
    let long = rw strips at too_large in
    let len = page_len c.args.written.now c.args.file.now c.args.form.now
    (page_strips c.args.form.now c.args.k c.args.stride c.args.raster.now) c.place_of-start.result.0
    (c.requires.writing, c.requires.held)
    (ap (λ p. p.0) c.place_of-start.ensures) in
    inr (refl, refl, inr (inl (refl, omega (arith, long, len))))

pub returns-then-not-has_room : goal.returns-then-not-has_room
returns-then-not-has_room c =
    let strips = ap contents c.deref.ensures.value ∙ c.in-Ok.ensures in
    let page = rw strips at c.in-Ok-write_page.ensures.bytes in
    let len = page_len c.args.written.now c.args.file.now c.args.form.now
    (page_strips c.args.form.now c.args.k c.args.stride c.args.raster.now) c.place_of-start.result.0
    (c.requires.writing, c.requires.held)
    (ap (λ p. p.0) c.place_of-start.ensures) in
    let none = c.has_room.ensures.none c.if-not-has_room.true in
    let count = ap (λ (l : List ℕ). length l) page in
    let within = c.in-Ok-write_page.ensures.within in
    inr (refl, refl, inl (refl, omega (arith, within, count, len), omega (arith, none, c.len.ensures, count, len)))

pub returns : goal.returns
returns c =
    let at = c.place_of-start.ensures in
    let old = c.args.file.now in
    let mid = c.put_header.new.file in
    let strips = ap contents c.deref.ensures.value ∙ c.in-Ok.ensures in
    let page = rw strips at c.in-Ok-write_page.ensures.bytes in
    let place = rw strips at c.in-Ok-write_page.ensures.directory in
    let all = page_added c.args.written.now old mid c.put_page.new.file c.args.form.now
    (page_strips c.args.form.now c.args.k c.args.stride c.args.raster.now) c.deref-2.result.now
    c.in-Ok-write_page.page.directory
    c.place_of-start.result.0 c.place_of-start.result.1 (c.requires.writing, c.requires.held) (ap (λ p. p.0) at)
    (ap (λ p. p.1) at)
    (ap (λ p. take p.0 mid) at ∙ c.put_header.ensures.front)
    (ap (λ p. drop p.0 mid) at ∙ c.put_header.ensures.rest ∙ sym (ap (λ p. drop p.0 old) at))
    (c.deref-2.ensures.value ∙ page) place c.put_page.ensures in
    let count = ap (λ (l : List ℕ). length l) c.deref-2.ensures.value in
    let room = c.has_room.ensures.some c.if-not-has_room.false in
    let within = c.in-Ok-write_page.ensures.within in
    inl (
      refl,
      omega (arith, within, count, all.1),
      omega (arith, room, c.len.ensures, count, all.1),
      all.0,
      told_is c.args.written.now (c.place_of-start.result.0 + c.len-2.result) _ c.in-Ok-write_page.page.link _
          (omega (arith, c.len-2.ensures, count, all.1)) (c.in-Ok-write_page.ensures.link ∙ all.2),
    )
