use Rattle.std.proofs.Common.{◌≡◌, ◌%◌, [], ◌++◌, length, refl, sym, ◌∙◌, append-nil, arith}
use Rattle.std.specs.Prelude.{replicate}
use Rattle.fax_files.specs.Layout.{offsets_from, array_bytes}
use Rattle.fax_files.specs.code.PageParts.{lengths_of}
use Rattle.fax_files.specs.views.Writing.{contents}
use Rattle.fax_files.proofs.WrittenStripLemmas.{length-offsets_from, length-lengths_of}
use Rattle.fax_files.proofs.WritingLemmas.{tail_put, length-contents, array_of_many, array_of_one}
use Rattle.fax_files.proofs.written.page_tail.Goals as goal
use Rattle.fax_files.proofs.written.page_tail.Goals.{then-end-eq1+in_ok-extend_from_slice, else-end-eq1}
use Rattle.fax_files.proofs.written.page_tail.Goals.{then-at-ne1+in_ok-put_offsets+in_ok-put_byte_counts, else-at-ne1}

pub returns : goal.returns
returns c =
    let strips = contents c.args.placed.strips.now in
    let offsets = offsets_from c.args.placed.start strips in
    let offsets_len : length offsets ≡ c.args.at.now.strips =
    length-offsets_from c.args.placed.start strips ∙ length-contents c.args.placed.strips.now ∙ sym c.requires.strips in
    let lengths_len : length (lengths_of strips) ≡ c.args.at.now.strips =
    length-lengths_of strips ∙ length-contents c.args.placed.strips.now ∙ sym c.requires.strips in
    let pad : c.if-end-eq1.tail.items ≡ replicate (c.args.placed.end % 2) 0 =
    elim c.if-end-eq1.branch [
      | then-end-eq1+in_ok-extend_from_slice w
          ↦ rw (w.tail-is, w.in_ok-extend_from_slice.ensures.items, c.new-tail.ensures.items, w.if-end-eq1.true) refl
      | else-end-eq1 w ↦ (let even : c.args.placed.end % 2 ≡ 0 =
          omega (arith, w.if-end-eq1.false) in rw (w.tail-is, c.new-tail.ensures.items, even) refl)
    ] in
    let arrays : c.if-at-ne1.tail.items ≡ c.put_rational-2.new.out.items ++ array_bytes offsets
    ++ array_bytes (lengths_of strips) =
    elim c.if-at-ne1.branch [
      | then-at-ne1+in_ok-put_offsets+in_ok-put_byte_counts w ↦
          rw (
            w.tail-is,
            w.in_ok-put_byte_counts.ensures,
            w.in_ok-put_offsets.ensures,
            array_of_many offsets (λ e. w.if-at-ne1.true (sym offsets_len ∙ e)),
            array_of_many (lengths_of strips) (λ e. w.if-at-ne1.true (sym lengths_len ∙ e)),
          ) refl
      | else-at-ne1 w ↦
          rw (
            w.tail-is,
            array_of_one offsets (offsets_len ∙ w.if-at-ne1.false),
            array_of_one (lengths_of strips)
                (lengths_len ∙ w.if-at-ne1.false),
          )
          (sym (append-nil (c.put_rational-2.new.out.items ++ []) ∙ append-nil c.put_rational-2.new.out.items))
    ] in
    tail_put _ _ _ _ _ _ _ _ _ _ _ _ pad c.in_ok-put_directory.ensures c.in_ok-put_rational.ensures
    c.in_ok-put_rational-2.ensures arrays
