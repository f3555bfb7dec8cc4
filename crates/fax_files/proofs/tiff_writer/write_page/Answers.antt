use Rattle.std.proofs.Common.{◌∙◌, ℕ, List, None, ◌++◌, ap, arith, length, refl}
use Rattle.fax_files.specs.code.PageParts.{joined_strips}
use Rattle.fax_files.specs.views.Writing.{contents}
use Rattle.fax_files.proofs.TiffWriterLemmas.{not_too_large, page_size, page_too_long, whole_page}
use Rattle.fax_files.proofs.tiff_writer.write_page.Goals as goal

pub returns-in_default-clause-too_large : goal.returns-in_default-clause-too_large
returns-in_default-clause-too_large c =
    let long = page_too_long c.args.start c.args.total c.args.number c.args.form.now c.args.strips.now None
    c.requires.header c.requires.limits c.requires.exchanged c.requires.strips c.in_default.ensures.none in
    (λ _. long, λ _. refl)

pub returns-then-page_end-from-clause-too_large : goal.returns-then-page_end-from-clause-too_large
returns-then-page_end-from-clause-too_large c =
    let size = page_size c.args.start c.args.total c.args.number c.args.form.now c.args.strips.now None
    c.requires.header
    c.requires.limits
    c.requires.exchanged c.requires.strips c.in-Some.end c.in-Some.ensures.found in
    (λ _. omega (arith, size, c.page_end.ensures, c.from.ensures, c.if-page_end-from.true), λ _. refl)

pub returns-in_default-page_tail-clause-too_large : goal.returns-in_default-page_tail-clause-too_large
returns-in_default-page_tail-clause-too_large c =
    let size = page_size c.args.start c.args.total c.args.number c.args.form.now c.args.strips.now None
    c.requires.header
    c.requires.limits
    c.requires.exchanged c.requires.strips c.in-Some.end c.in-Some.ensures.found in
    not_too_large _ _ (λ e. absurd cc) (omega (
      arith,
      size,
      c.page_end.ensures,
      c.from.ensures,
      c.if-page_end-from.false,
    ))

pub returns-in_default-append-clause-too_large : goal.returns-in_default-append-clause-too_large
returns-in_default-append-clause-too_large c =
    let size = page_size c.args.start c.args.total c.args.number c.args.form.now c.args.strips.now None
    c.requires.header
    c.requires.limits
    c.requires.exchanged c.requires.strips c.in-Some.end c.in-Some.ensures.found in
    not_too_large _ _ (λ e. absurd cc) (omega (
      arith,
      size,
      c.page_end.ensures,
      c.from.ensures,
      c.if-page_end-from.false,
    ))

pub returns-clause-too_large : goal.returns-clause-too_large
returns-clause-too_large c =
    let size = page_size c.args.start c.args.total c.args.number c.args.form.now c.args.strips.now None
    c.requires.header
    c.requires.limits
    c.requires.exchanged c.requires.strips c.in-Some.end c.in-Some.ensures.found in
    not_too_large _ _ (λ e. absurd cc) (omega (
      arith,
      size,
      c.page_end.ensures,
      c.from.ensures,
      c.if-page_end-from.false,
    ))

pub returns-clause-bytes : goal.returns-clause-bytes
returns-clause-bytes c =
    let tail = c.deref.ensures.value ∙ c.in-Ok.ensures in
    let bytes = c.in-Ok-append.ensures.ok ∙ ap (λ l. l ++ (joined_strips (contents c.args.strips.now)
    ++ c.deref.result.now)) c.new-bytes.ensures.items in
    whole_page c.args.start c.args.total c.args.number c.args.form.now c.args.strips.now None c.requires.header
    c.requires.limits
    c.requires.exchanged c.requires.strips c.in-Some.end c.in-Some.ensures.found c.page_layout-at.result
    c.page_layout-at.ensures
    c.deref.result.now c.append.new.bytes.items tail bytes

pub returns-clause-within : goal.returns-clause-within
returns-clause-within c =
    let tail = c.deref.ensures.value ∙ c.in-Ok.ensures in
    let bytes = c.in-Ok-append.ensures.ok ∙ ap (λ l. l ++ (joined_strips (contents c.args.strips.now)
    ++ c.deref.result.now)) c.new-bytes.ensures.items in
    let whole = whole_page c.args.start c.args.total c.args.number c.args.form.now c.args.strips.now None
    c.requires.header
    c.requires.limits
    c.requires.exchanged c.requires.strips c.in-Some.end c.in-Some.ensures.found c.page_layout-at.result
    c.page_layout-at.ensures
    c.deref.result.now c.append.new.bytes.items tail bytes in
    let size = page_size c.args.start c.args.total c.args.number c.args.form.now c.args.strips.now None
    c.requires.header
    c.requires.limits
    c.requires.exchanged c.requires.strips c.in-Some.end c.in-Some.ensures.found in
    omega (
      arith,
      size,
      ap (λ (l : List ℕ). length l) whole,
      c.page_end.ensures,
      c.from.ensures,
      c.if-page_end-from.false,
    )
