-- Bytes that stand at a place of a file.
use Rattle.std.proofs.lemmas.Grind.{common_steps}
use Rattle.std.proofs.Common.{rules, ◌≡◌, ℕ, ◌+◌, ◌-◌, ◌^◌, ◌<◌, ◌≤◌, List, [], ◌++◌, length, take, drop, Some, refl}
use Rattle.std.proofs.Common.{sym, ap, ◌∙◌}
use Rattle.std.proofs.Common.{append_assoc, arith}
use Rattle.std.proofs.lemmas.List.{length-append, length-drop, length-take-le, take-append-drop, drop_at}
use Rattle.std.proofs.lemmas.List.{drop-append-le}
use Rattle.std.proofs.Math.Seq.{take-append_seam, take-append-add}
use Rattle.byteorder.specs.Endian.{little_bytes}
use Rattle.byteorder.specs.Numbers.{little_number-reads_back}
use Rattle.fax_files.specs.declared.Endian.TheVariants.{Little}
use Rattle.fax_files.specs.Directory.{number_at}
use Rattle.fax_files.specs.code.Steps.{bytes_at}
use Rattle.fax_files.specs.Layout.{four}
use Rattle.fax_files.specs.code.PageParts.{with_four_at}

-- these bytes stand at a place of a file
pub record HasBytesAt (file : List ℕ) (offset : ℕ) (bytes : List ℕ) : Type 0 where
  pub before : List ℕ
  pub after : List ℕ
  pub there : file ≡ before ++ (bytes ++ after)
  pub offset_is : length before ≡ offset

-- the same place by another name
pub at_offset : {file : List ℕ} {p q : ℕ} {bytes : List ℕ} → p ≡ q → HasBytesAt file p bytes → HasBytesAt file q bytes
at_offset e h = record { before = h.before; after = h.after; there = h.there; offset_is = h.offset_is ∙ e }

-- the first part of what stands there
pub at_left : {file : List ℕ} {p : ℕ} (xs ys : List ℕ) → HasBytesAt file p (xs ++ ys) → HasBytesAt file p xs
at_left xs ys h = grind (arith, append_assoc)

-- the rest of it
pub at_right : {file : List ℕ} {p : ℕ} (xs ys : List ℕ) → HasBytesAt file p (xs ++ ys)
    → HasBytesAt file (p + length xs) ys
at_right xs ys h = record {
  before = h.before ++ xs;
  after = h.after;
  there =
      h.there ∙ ap (λ (l : List ℕ). h.before ++ l) (append_assoc xs ys h.after)
      ∙ sym (append_assoc h.before xs (ys ++ h.after));
  offset_is = length-append h.before xs ∙ ap (λ (n : ℕ). n + length xs) h.offset_is;
}

-- bytes that stand at a place lie in the file
pub at_inside : {file : List ℕ} {p : ℕ} (bytes : List ℕ) → HasBytesAt file p bytes → p + length bytes ≤ length file
at_inside bytes h = grind (arith, length-append)

-- all that stands from the place on
pub at_drop : {file : List ℕ} {p : ℕ} (bytes : List ℕ) → (h : HasBytesAt file p bytes) → drop p file ≡ bytes ++ h.after
at_drop bytes h = ap (drop _) h.there ∙ drop_at h.before (bytes ++ h.after) _ h.offset_is

-- a file's first bytes
pub at_start : (xs ys : List ℕ) → HasBytesAt (xs ++ ys) 0 xs
at_start xs ys = record { before = []; after = ys; there = refl; offset_is = refl }

-- a file's last bytes
pub at_end : (xs ys : List ℕ) → HasBytesAt (xs ++ ys) (length xs) ys
at_end xs ys = search rules

-- a file that grows keeps its bytes
pub at_grown : {file : List ℕ} {p : ℕ} (bytes more : List ℕ) → HasBytesAt file p bytes
    → HasBytesAt (file ++ more) p bytes
at_grown bytes more h = grind (arith, append_assoc)

-- a number that stands at a place is read there
pub number_there : (n : ℕ) {file : List ℕ} {p x : ℕ} → HasBytesAt file p (little_bytes n x) → x < 256 ^ n
    → number_at Little n file p ≡ x
unfolding number_at
number_there n {x = x} h lt = rw (at_drop (little_bytes n x) h) (little_number-reads_back n x h.after lt)

-- bytes that stand at a place are found there
pub bytes_there : {file : List ℕ} {p : ℕ} (bytes : List ℕ) → HasBytesAt file p bytes
    → bytes_at file p (length bytes) ≡ Some bytes
bytes_there {file} {p} bytes h = grind (arith, common_steps)

-- the bytes that a file has at a place stand there
pub at_slice : (file : List ℕ) (p n : ℕ) → p + n ≤ length file → HasBytesAt file p (take n (drop p file))
at_slice file p n le = record {
  before = take p file;
  after = drop n (drop p file);
  there = sym (ap (λ (l : List ℕ). take p file ++ l) (take-append-drop n (drop p file)) ∙ take-append-drop p file);
  offset_is = length-take-le p file (omega arith);
}

pub length-slice : (file : List ℕ) (p n : ℕ) → p + n ≤ length file → length (take n (drop p file)) ≡ n
length-slice file p n le = length-take-le n (drop p file) (omega (arith, length-drop p file))

-- and what stands there is what it has
pub slice_there : {file : List ℕ} {p : ℕ} (bytes : List ℕ) → HasBytesAt file p bytes
    → take (length bytes) (drop p file) ≡ bytes
slice_there bytes h = ap (take (length bytes)) (at_drop bytes h) ∙ take-append_seam bytes h.after

-- bytes that stand outside of a place to which four bytes are written stay
pub length-patched : (file : List ℕ) (link n : ℕ) → link + 4 ≤ length file
    → length (with_four_at file link n) ≡ length file
length-patched file link n le = grind (arith, length-append, length-take-le, length-drop)

-- what is written there stands there
pub at_patch : (file : List ℕ) (link n : ℕ) → link + 4 ≤ length file
    → HasBytesAt (with_four_at file link n) link (four n)
at_patch file link n le = grind (arith, append_assoc, length-take-le)

-- bytes before the place stay
pub at_before_patch : {file : List ℕ} {p : ℕ} (bytes : List ℕ) (link n : ℕ) → p + length bytes ≤ link
    → HasBytesAt file p bytes → HasBytesAt (with_four_at file link n) p bytes
at_before_patch {file} {p} bytes link n le h =
    let k : link ≡ length (h.before ++ bytes) + (link - (p + length bytes)) =
    omega (arith, h.offset_is, length-append h.before bytes) in
    let front : take link file ≡ h.before ++ (bytes ++ take (link - (p + length bytes)) h.after) =
    ap (take link) (h.there ∙ sym (append_assoc h.before bytes h.after))
    ∙ ap (λ (m : ℕ). take m ((h.before ++ bytes) ++ h.after)) k
    ∙ take-append-add (h.before ++ bytes) h.after (link - (p + length bytes))
    ∙ append_assoc h.before bytes _ in
    let start : HasBytesAt (take link file) p bytes = record {
      before = h.before;
      after = _;
      there = front;
      offset_is =
          h.offset_is;
    } in
    at_grown bytes (drop (link + 4) file) (at_grown bytes (four n) start)

-- bytes after it stay too
pub at_after_patch : {file : List ℕ} {p : ℕ} (bytes : List ℕ) (link n : ℕ) → link + 4 ≤ p
    → HasBytesAt file p bytes → HasBytesAt (with_four_at file link n) p bytes
at_after_patch {file} {p} bytes link n le h =
    let inside = at_inside bytes h in
    let back : drop (link + 4) file ≡ drop (link + 4) h.before ++ (bytes ++ h.after) =
    ap (drop (link + 4)) h.there ∙ drop-append-le (link + 4) h.before (bytes ++ h.after) (omega (arith, h.offset_is)) in
    record {
      before = take link file ++ four n ++ drop (link + 4) h.before;
      after = h.after;
      there = ap (λ (l : List ℕ). take link file ++ four n ++ l) back
          ∙ sym (append_assoc (take link file ++ four n) (drop (link + 4) h.before) (bytes ++ h.after));
      offset_is =
          omega (
            arith,
            h.offset_is,
            length-append (take link file ++ four n) (drop (link + 4) h.before),
            length-append (take link file)
                (four n),
            length-take-le link file (omega (arith, inside)),
            length-drop (link + 4) h.before,
          );
    }
