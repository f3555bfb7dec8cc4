use Rattle.std.proofs.Common.{◌≡◌, ◌≤◌, ◌++◌, [], List, ℕ, length, drop, refl, ap, arith, ◌∙◌, append_assoc}
use Rattle.std.proofs.Common.{length-append}
use Rattle.std.proofs.KnownBytes.{Consumes-trans}
use Rattle.std.proofs.lemmas.List.{drop_all}
use Rattle.fax_files.specs.Directory.{max_file}
use Rattle.fax_tool.specs.code.InputBuffer.{HeldBytes}
use Rattle.fax_tool.proofs.streams.transfer.read_rest.Goals as goal

pub loop-file-smaller : goal.loop-file-smaller
loop-file-smaller g c =
    let more = c.in_ok-ended.ensures.more in
    let limit : c.fill.new.self.taken ≤ max_file =
    rw (← c.held-in-loop-file-2.view_is) c.held-in-loop-file-2.invariant.limit in
    grind (arith, more.taken_is, more.some, c.if-ended.false, c.drop_front.ensures, limit)

pub loop-file-preserved : goal.loop-file-preserved
loop-file-preserved g c =
    let old = c.loop-file.invariant in
    let more = c.in_ok-ended.ensures.more in
    let held = c.loop-file.held.bytes in
    let none : drop (length held) held ≡ [] = drop_all (length held) held (omega arith) in
    let bytes : c.fill.new.self.bytes ≡ more.text =
    more.bytes_are ∙ rw (c.drop_front.ensures, c.bytes-in-loop-file.ensures, none) refl in
    let file : c.extend_from_slice.new.self.items ≡ c.loop-file.file.items ++ held =
    grind (arith, c.extend_from_slice.ensures, c.bytes.ensures, c.is_err.ensures, c.if-is_err.false) in
    record {
      text = old.text ++ more.text;
      bytes_are = rw (file, bytes) (ap (λ (l : List ℕ). l ++ more.text) old.bytes_are
          ∙ append_assoc c.args.held.bytes old.text more.text);
      moved = Consumes-trans _ (g.R.Source.remaining c.loop-file.input) _ old.text more.text old.moved more.moved;
      all = omega (
        arith,
        more.taken_is,
        old.all,
        ap (λ (l : List ℕ). length l) file,
        ap (λ (l : List ℕ). length l) bytes,
        length-append c.loop-file.file.items held,
        ap (λ (h : HeldBytes). h.taken) c.drop_front.ensures,
      );
      taken = c.in_ok-ended.ensures.taken;
      counts = c.in_ok-ended.ensures.counts;
      end = more.end;
    }
