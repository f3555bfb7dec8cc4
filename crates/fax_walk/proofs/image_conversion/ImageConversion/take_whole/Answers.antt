use Rattle.std.proofs.Common.{◌≡◌, ◌-◌, ◌++◌, List, ℕ, length, drop, refl, sym, ap, ◌∙◌, arith, append_assoc}
use Rattle.std.proofs.Common.{[], append-nil, length-append}
use Rattle.std.proofs.lemmas.List.{drop_at}
use Rattle.fax_files.specs.views.Pbm.{PbmState, image_of}
use Rattle.fax_walk.proofs.ImageLemmas.{front, has_bytes, image_taken, split}
use Rattle.fax_walk.proofs.image_conversion.ImageConversion.take_whole.Goals as goal

pub loop-image-init : goal.loop-image-init
loop-image-init c = rw c.new-reader.ensures (record {
  none = refl;
  done = [];
  split = refl;
  so_far = λ before is. rw (append-nil before) is;
  options = refl;
})

pub overflow_add-self : goal.overflow_add-self
overflow_add-self c =
    let (before, is, few) = c.requires in
    let done = c.loop-image.invariant.done in
    let so_far = c.loop-image.invariant.so_far before is in
    let image = c.in-Ok-Some.image in
    let read = rw c.in-Ok-Some.field-0-is at c.in-Ok-Some.ensures.image in
    let some = has_bytes c.loop-image.reader.remaining (image_of image.width image.rows image.raster.now)
    c.next_image.new.self.remaining read.image_is in
    omega (
      arith,
      few,
      some,
      so_far.few,
      length-append before done,
      length-append done c.loop-image.reader.remaining,
      ap (λ (l : List ℕ). length l) c.loop-image.invariant.split,
    )

pub convert_image-requires : goal.convert_image-requires
convert_image-requires c =
    let so_far = c.loop-image.invariant.so_far c.requires.0 c.requires.1 in
    (_, record { options_are = refl; written = so_far.written })

pub loop-image-preserved : goal.loop-image-preserved
loop-image-preserved c =
    let image = c.in-Ok-Some.image in
    let shown = image_of image.width image.rows image.raster.now in
    let remaining = c.next_image.new.self.remaining in
    let read = rw c.in-Ok-Some.field-0-is at c.in-Ok-Some.ensures.image in
    let done = c.loop-image.invariant.done in
    let its = front c.loop-image.reader.remaining shown remaining read.image_is in
    record {
      none = read.good;
      done = done ++ its;
      split = c.loop-image.invariant.split
          ∙ ap (λ (l : List ℕ). done ++ l) (split c.loop-image.reader.remaining shown remaining read.image_is)
          ∙ sym (append_assoc done its remaining);
      so_far = λ before is.
          let so_far = c.loop-image.invariant.so_far before is in
          rw (append_assoc before done its) at (image_taken c.loop-image.reader.remaining shown remaining read.image_is
          (before ++ done) _ _ _ c.convert_image.new.output so_far
          (c.in_ok-convert_image-in-Ok-Some.ensures _ (record { options_are = refl; written = so_far.written })));
      options = c.loop-image.invariant.options;
    }

pub returns-in-Err-clause-fault : goal.returns-in-Err-clause-fault
returns-in-Err-clause-fault c =
    let first = c.in-Err.ensures.fault.first c.loop-image.invariant.none in
    let kept = c.remaining.ensures ∙ ap (λ (r : PbmState). r.remaining) c.in-Err.ensures.fault.kept in
    let done = c.loop-image.invariant.done in
    let remaining = c.loop-image.reader.remaining in
    let len = length-append done remaining in
    let bytes = c.loop-image.invariant.split in
    let rest : drop (length c.args.bytes.now - length c.remaining.result.now) c.args.bytes.now ≡ remaining =
    rw (kept, bytes) (drop_at done remaining (length (done ++ remaining) - length remaining) (omega (arith, len))) in
    record { within = omega arith; remaining = rw rest first }
