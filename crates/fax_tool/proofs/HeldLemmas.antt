-- Bytes that are held.
use Rattle.std.proofs.lemmas.Grind.{common_steps}
use Rattle.std.proofs.Common.{◌≡◌, ℕ, ◌+◌, ◌-◌, ◌≤◌, List, ◌++◌, length, take, drop, sym, ap, ◌∙◌, arith}
use Rattle.std.proofs.lemmas.List.{drop-take, length-append, length-take-le}
use Rattle.std.proofs.lemmas.List.Edits.{take-paste}
use Rattle.std.specs.List.{copy_within}
use Rattle.std.proofs.Math.Seq.{take-append-add, take-append_seam}
use borrow.Rule.Slice.PartMut.{put_mid}

-- bytes are dropped from the front
pub dropped : (room : List ℕ) (len count : ℕ) → count ≤ len → len ≤ length room
    → take (len - count) (copy_within room count len 0) ≡ drop count (take len room)
dropped room len count few within =
    let sum : count + (len - count) ≡ len = omega (arith, few) in
    let none : len - count ≡ 0 + (len - count) = omega arith in
    ap (λ n. take n (copy_within room count len 0)) none
    ∙ take-paste room 0 (drop count room) (len - count) (omega arith) (grind (arith, common_steps))
    ∙ sym (ap (λ n. drop count (take n room)) (sym sum) ∙ drop-take count (len - count) room)

-- a call has put bytes into the room after those that are held
module _ (room buffer : List ℕ) (len : ℕ) (within : len ≤ length room) (wide : length buffer ≡ length room - len) where
  abbrev put : List ℕ
  put = put_mid len (length room - len) room buffer

  put_is : put ≡ take len room ++ buffer
  put_is = grind (arith, common_steps)

  pub whole : (size : ℕ) → size ≡ length room → take size (put ++ drop (length put) room) ≡ take len room ++ buffer
  whole size is =
      let count : size ≡ length put =
      omega (
        arith,
        is,
        within,
        wide,
        ap (λ (l : List ℕ). length l) put_is,
        length-append (take len room) buffer,
        length-take-le len room within,
      ) in
      rw count (take-append_seam put _) ∙ put_is

  pub held_more : (count : ℕ) → count ≤ length buffer
      → take (len + count) (take len room ++ buffer) ≡ take len room ++ take count buffer
  held_more count few =
      let len_is = length-take-le len room within in
      ap (λ n. take (n + count) (take len room ++ buffer)) (sym len_is) ∙ take-append-add (take len room) buffer count
