use Rattle.std.proofs.Common.{◌≡◌, ◌+◌, ap, ◌++◌, [], ◌∷◌, length, refl, sym, ◌∙◌, arith}
use Rattle.std.proofs.lemmas.List.{length-append}
use Rattle.std.specs.Prelude.{Result, OnOk, false}
use Rattle.std.specs.Result.{is_err}
use Rattle.fax_files.specs.code.PageParts.{joined_strips}
use Rattle.fax_files.specs.views.Writing.{contents, given_page}
use Rattle.fax_files.proofs.TiffWriterLemmas.{too_long, size, added_bytes, is_short, new_link, not_too_large}
use Rattle.fax_files.proofs.TiffWriterLemmas.{still_writing}
use Rattle.fax_files.proofs.PageByPageLemmas.{page_added}
use Rattle.fax_files.proofs.tiff_writer.TiffWriter.add_page_with.Goals as goal

OnOk-at_not_err : {A E : Type 0} {P : Type 0} (r : Result A E) → is_err r ≡ false → OnOk r P → P
OnOk-at_not_err r not_err p = grind arith

pub returns-in_default-clause-too_large : goal.returns-in_default-clause-too_large
returns-in_default-clause-too_large c =
    let start : c.len-start.result ≡ length c.self.inside.bytes.items = omega (arith, c.len-start.ensures) in
    let long = too_long c.self.inside.bytes.items c.self.inside.link c.self.inside.total c.self.inside.added 0
    c.args.form.now
    c.args.strips.now c.args.bad c.self.invariant.link_inside c.requires.limits c.requires.exchanged c.requires.strips
    (rw start at c.in_default.ensures.none) in
    rw (← c.self.view_is) (λ _. long, λ _. refl)

pub returns-then-page_end-from-clause-too_large : goal.returns-then-page_end-from-clause-too_large
returns-then-page_end-from-clause-too_large c =
    let start : c.len-start.result ≡ length c.self.inside.bytes.items = omega (arith, c.len-start.ensures) in
    let end = rw start at c.in-Some.ensures.found in
    let size = size c.self.inside.bytes.items c.self.inside.link c.self.inside.total c.self.inside.added c.in-Some.end
    c.args.form.now
    c.args.strips.now c.args.bad c.self.invariant.link_inside c.requires.limits c.requires.exchanged c.requires.strips
    end in
    rw (← c.self.view_is) (
      λ _. omega (
        arith,
        size,
        c.page_end-page_end.ensures,
        c.from.ensures,
        c.if-page_end-from.true,
      ),
      λ _. refl,
    )

pub returns-in_default-page_tail-clause-too_large : goal.returns-in_default-page_tail-clause-too_large
returns-in_default-page_tail-clause-too_large c =
    let start : c.len-start.result ≡ length c.self.inside.bytes.items = omega (arith, c.len-start.ensures) in
    let end = rw start at c.in-Some.ensures.found in
    rw (← c.self.view_is) (not_too_large _ _ (λ e. absurd cc) (is_short c.self.inside.bytes.items
    c.self.inside.link c.self.inside.total c.self.inside.added c.in-Some.end c.args.form.now c.args.strips.now
    c.args.bad
    c.self.invariant.link_inside c.requires.limits c.requires.exchanged c.requires.strips end _
    c.page_end-page_end.ensures (omega (arith, c.from.ensures, c.if-page_end-from.false))))

pub returns-then-is_err-clause-too_large : goal.returns-then-is_err-clause-too_large
returns-then-is_err-clause-too_large c =
    let start : c.len-start.result ≡ length c.self.inside.bytes.items = omega (arith, c.len-start.ensures) in
    let end = rw start at c.in-Some.ensures.found in
    rw (← c.self.view_is) (not_too_large _ _ (λ e. absurd cc) (is_short c.self.inside.bytes.items
    c.self.inside.link c.self.inside.total c.self.inside.added c.in-Some.end c.args.form.now c.args.strips.now
    c.args.bad
    c.self.invariant.link_inside c.requires.limits c.requires.exchanged c.requires.strips end _
    c.page_end-page_end.ensures (omega (arith, c.from.ensures, c.if-page_end-from.false))))

pub returns-then-is_err-2-clause-too_large : goal.returns-then-is_err-2-clause-too_large
returns-then-is_err-2-clause-too_large c =
    let start : c.len-start.result ≡ length c.self.inside.bytes.items = omega (arith, c.len-start.ensures) in
    let end = rw start at c.in-Some.ensures.found in
    rw (← c.self.view_is) (not_too_large _ _ (λ e. absurd cc) (is_short c.self.inside.bytes.items
    c.self.inside.link c.self.inside.total c.self.inside.added c.in-Some.end c.args.form.now c.args.strips.now
    c.args.bad
    c.self.invariant.link_inside c.requires.limits c.requires.exchanged c.requires.strips end _
    c.page_end-page_end.ensures (omega (arith, c.from.ensures, c.if-page_end-from.false))))

pub returns-clause-too_large : goal.returns-clause-too_large
returns-clause-too_large c =
    let start : c.len-start.result ≡ length c.self.inside.bytes.items = omega (arith, c.len-start.ensures) in
    let end = rw start at c.in-Some.ensures.found in
    rw (← c.self.view_is) (not_too_large _ _ (λ e. absurd cc) (is_short c.self.inside.bytes.items
    c.self.inside.link c.self.inside.total c.self.inside.added c.in-Some.end c.args.form.now c.args.strips.now
    c.args.bad
    c.self.invariant.link_inside c.requires.limits c.requires.exchanged c.requires.strips end _
    c.page_end-page_end.ensures (omega (arith, c.from.ensures, c.if-page_end-from.false))))

pub set_link-requires : goal.set_link-requires
set_link-requires c =
    let start : c.len-start.result ≡ length c.self.inside.bytes.items = omega (arith, c.len-start.ensures) in
    let end = rw start at c.in-Some.ensures.found in
    let laid = rw start at c.page_layout-at.ensures in
    let put = OnOk-at_not_err c.append.result (sym c.is_err-2.ensures.value ∙ c.if-is_err-2.false) c.append.ensures.ok
    in
    let now_is = rw c.reserve.ensures.items at put in
    rw now_is (omega (
      arith,
      c.self.invariant.link_inside,
      length-append c.self.inside.bytes.items
          (joined_strips (contents c.args.strips.now) ++ c.deref.result.now),
    ))

pub invariant_of-self-2 : goal.invariant_of-self-2
invariant_of-self-2 c =
    let start : c.len-start.result ≡ length c.self.inside.bytes.items = omega (arith, c.len-start.ensures) in
    let end = rw start at c.in-Some.ensures.found in
    let laid = rw start at c.page_layout-at.ensures in
    let put = OnOk-at_not_err c.append.result (sym c.is_err-2.ensures.value ∙ c.if-is_err-2.false) c.append.ensures.ok
    in
    let now_is = rw c.reserve.ensures.items at put in
    let tail = c.deref.ensures.value ∙ (rw start at c.in-Ok.ensures) in
    let bytes = c.set_link.ensures ∙ added_bytes c.self.inside.bytes.items c.self.inside.link c.self.inside.total
    c.self.inside.added
    c.in-Some.end c.args.form.now c.args.strips.now c.args.bad c.self.invariant.link_inside c.requires.limits
    c.requires.exchanged
    c.requires.strips end _ laid _ _ tail now_is in
    let link = ap (λ n. c.page_layout-at.result.directory + n) c.to_next_offset.ensures.exact
    ∙ new_link c.self.inside.bytes.items c.self.inside.link c.self.inside.total c.self.inside.added
    c.in-Some.end c.args.form.now
    c.args.strips.now c.args.bad c.self.invariant.link_inside c.requires.limits c.requires.exchanged c.requires.strips
    end _ laid
    in
    let still =
    still_writing c.self.inside.bytes.items c.self.inside.link c.self.inside.total c.self.inside.added c.in-Some.end
    c.args.form.now
    c.args.strips.now c.args.bad c.self.invariant.link_inside c.requires.limits c.requires.exchanged c.requires.strips
    end _ laid _
    bytes
    (omega (arith, c.page_end-page_end.ensures, c.from.ensures, c.if-page_end-from.false)) in
    record {
      pages = c.self.invariant.pages ++ given_page c.args.form.now c.args.strips.now c.args.bad ∷ [];
      added = rw (bytes, link) (page_added c.self.inside.total c.self.invariant.pages _
          (given_page c.args.form.now c.args.strips.now c.args.bad) c.self.invariant.added);
      link_inside = omega (arith, still.0, c.to_next_offset.ensures.exact);
      header = omega (arith, c.self.invariant.header, still.2);
      limit = still.1;
    }

pub returns-clause-ok : goal.returns-clause-ok
returns-clause-ok c =
    let start : c.len-start.result ≡ length c.self.inside.bytes.items = omega (arith, c.len-start.ensures) in
    let end = rw start at c.in-Some.ensures.found in
    let laid = rw start at c.page_layout-at.ensures in
    let put = OnOk-at_not_err c.append.result (sym c.is_err-2.ensures.value ∙ c.if-is_err-2.false) c.append.ensures.ok
    in
    let now_is = rw c.reserve.ensures.items at put in
    let tail = c.deref.ensures.value ∙ (rw start at c.in-Ok.ensures) in
    let bytes = c.set_link.ensures ∙ added_bytes c.self.inside.bytes.items c.self.inside.link c.self.inside.total
    c.self.inside.added
    c.in-Some.end c.args.form.now c.args.strips.now c.args.bad c.self.invariant.link_inside c.requires.limits
    c.requires.exchanged
    c.requires.strips end _ laid _ _ tail now_is in
    let link = ap (λ n. c.page_layout-at.result.directory + n) c.to_next_offset.ensures.exact
    ∙ new_link c.self.inside.bytes.items c.self.inside.link c.self.inside.total c.self.inside.added
    c.in-Some.end c.args.form.now
    c.args.strips.now c.args.bad c.self.invariant.link_inside c.requires.limits c.requires.exchanged c.requires.strips
    end _ laid
    in
    rw (← c.self.view_is, bytes, link) refl
