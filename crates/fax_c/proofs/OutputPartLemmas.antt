-- Parts of an output that are written one after another.
use Rattle.std.proofs.Common.{◌≡◌, ℕ, ◌+◌, ◌≤◌, List, ◌++◌, length, take, drop, replicate, ◌∙◌, arith, append_assoc}
use Rattle.std.proofs.Common.{length-append, length-take}
use Rattle.std.proofs.lemmas.Grind.{common_steps}
use Rattle.std.proofs.Math.Seq.{take-append_seam, drop-append-add}

-- bytes, and zeros after them, are written at a place
pub part_put : (out held : List ℕ) (at zeros : ℕ) → at + length held ≤ length out
    → take (at + length held) (take at out ++ held ++ drop (at + length held) out)
    ++ replicate zeros 0 ++ drop (at + length held + zeros) (take at out ++ held ++ drop (at + length held) out)
    ≡ take at out ++ ((held ++ replicate zeros 0) ++ drop (at + length held + zeros) out)
part_put out held at zeros room =
    let front = take at out ++ held in
    let rest = drop (at + length held) out in
    let len : at + length held ≡ length front =
    omega (arith, room, length-append (take at out) held, length-take at out) in
    let past : drop (length front + zeros) (front ++ rest) ≡ drop (at + length held + zeros) out =
    drop-append-add front rest zeros ∙ grind (arith, common_steps) in
    let before : take (length front) (front ++ rest) ≡ front = take-append_seam front rest in
    grind (arith, append_assoc, len, past, before)

-- more bytes are written after others, and then those are written
pub more_put : (done part old : List ℕ) → length done + length part ≤ length old
    → take (length done) (done ++ drop (length done) old)
    ++ (part ++ drop (length done + length part) (done ++ drop (length done) old))
    ≡ (done ++ part) ++ drop (length (done ++ part)) old
more_put done part old room =
    let rest = drop (length done) old in
    let before : take (length done) (done ++ rest) ≡ done = take-append_seam done rest in
    let past : drop (length done + length part) (done ++ rest) ≡ drop (length (done ++ part)) old =
    drop-append-add done rest (length part) ∙ grind (arith, common_steps) in
    grind (arith, append_assoc, before, past)
