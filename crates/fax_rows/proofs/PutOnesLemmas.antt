-- The places of the changes of a word, put together.
use Rattle.std.proofs.lemmas.Grind.{common_steps}
use Rattle.std.proofs.Common.{◌≡◌, ℕ, zero, suc, ◌+◌, ◌-◌, ◌^◌, ◌<◌, ◌≤◌, List, [], ◌∷◌, ◌++◌, length, take, get_or}
use Rattle.std.proofs.Common.{if◌then◌else◌, Bool, false, nat_eq, ap, sym, ◌∙◌, subst, arith}
use Rattle.std.specs.Int.{bit_at}
use Rattle.std.proofs.lemmas.List.{append-nil, append_assoc, get_or-take, get_or_push, length-append, length-take-le}
use Rattle.fax_rows.specs.Coded.{colour_of_bit}
use Rattle.fax_rows.specs.code.Ones.{ones_among}
use Rattle.fax_rows.specs.code.PackedWord.{word_bit}
use Rattle.fax_rows.specs.code.ChangeLists.{IsAscending}
use Rattle.fax_rows.specs.code.Unpacked.{IsUnpackedTo}
use Rattle.fax_rows.proofs.PackedLemmas.{unpacked_run}
use Rattle.fax_rows.proofs.TurnLemmas.{toggled-push_left, toggled-push_right}
use Rattle.fax_rows.proofs.UnpackedWordLemmas.{bit_before, change_bit, changes_of, equal_bits, turns_bit}

-- the places of the changes among the first r pels of a word are put after the old ones
pub record HasPut (old changes : List ℕ) (from before word r : ℕ) : Type 0 where
  pub ascending : IsAscending changes (length changes)
  pub last : 1 < length changes → get_or changes (length changes - 1) 0 < from + r
  pub unpacked : (b : List Bool) → IsUnpackedTo b old from (colour_of_bit (word_bit before 63))
      → ((i : ℕ) → i < 64 → word_bit word i ≡ get_or b (from + i) false)
      → IsUnpackedTo b changes (from + r) (colour_of_bit (bit_before before word r))

-- a place after the last one continues ascending
ascending_on : (changes : List ℕ) (column : ℕ) → IsAscending changes (length changes)
    → (1 < length changes → get_or changes (length changes - 1) 0 < column)
    → IsAscending (changes ++ column ∷ []) (length (changes ++ column ∷ []))
ascending_on changes column up right = grind (arith, common_steps)

-- a pel more: its place is put where it has another colour than the one before it
pel_put : (one : Bool) (old changes : List ℕ) (from before word r : ℕ) → r < 64
    → one ≡ turns_bit (word_bit word r) (bit_before before word r) → HasPut old changes from before word r
    → HasPut old (changes ++ (if one then (from + r) ∷ [] else [])) from before word (suc r)
pel_put one old changes from before word r inside is put =
    grind (
      arith,
      equal_bits,
      bit_before,
      append-nil,
      unpacked_run,
      ascending_on,
      length-append,
      get_or_push,
      toggled-push_left,
      toggled-push_right,
    )

-- the places of the changes among the first r pels are those of these pels
pels_put : (old : List ℕ) (from before word r : ℕ) → word < 2 ^ 64 → r ≤ 64 → HasPut old old from before word 0
    → HasPut old (old ++ ones_among from 63 (changes_of before word) r) from before word r
pels_put old from before word zero fits within put = rw (append-nil old) put
pels_put old from before word (suc r) fits within put =
    let change_bits = changes_of before word in
    let one = nat_eq (bit_at change_bits (63 - r)) 1 in
    subst (λ ps. HasPut old ps from before word (suc r))
    (append_assoc old (ones_among from 63 change_bits r) (if one then (from + r) ∷ [] else []))
    (pel_put one old (old ++ ones_among from 63 change_bits r) from before word r (omega arith)
    (change_bit before word r fits (omega arith))
    (pels_put old from before word r fits (omega arith) put))

-- the places of a row before a word
none_put : (changes : List ℕ) (end from before word : ℕ) → IsAscending changes end
    → (1 < end → get_or changes (end - 1) 0 < from)
    → HasPut (take end changes) (take end changes) from before word 0
none_put changes end from before word up left_hand = grind (arith, common_steps)

-- the changes of a word are put
pub record IsWordPut (old new : List ℕ) (end next from before word : ℕ) : Type 0 where
  pub ascending : IsAscending new next
  pub left_hand : 1 < next → get_or new (next - 1) 0 < from + 64
  pub put : HasPut (take end old) (take next new) from before word 64

pub word_put : (old new : List ℕ) (end next from before word : ℕ) → word < 2 ^ 64 → next ≤ length new
    → IsAscending old end
    → (1 < end → get_or old (end - 1) 0 < from)
    → take next new ≡ take end old ++ ones_among from 63 (changes_of before word) 64
    → IsWordPut old new end next from before word
word_put old new end next from before word fits within up left_hand is =
    let put = subst (λ ps. HasPut (take end old) ps from before word 64) (sym is)
    (pels_put (take end old) from before word 64 fits (omega arith) (none_put old end from before word up left_hand)) in
    let len = length-take-le next new within in
    let here = put.ascending in
    record {
      ascending = record {
        started = omega (arith, len, here.started);
        within = within;
        first = sym (get_or-take next new 0 0 (omega (arith, len, here.started))) ∙ here.first;
        steps = λ i some h. rw (sym (get_or-take next new i 0 (omega arith)), sym (get_or-take next new (i + 1) 0 h))
            (here.steps i some (omega (arith, len)));
      };
      left_hand = λ h.
          let column : get_or (take next new) (length (take next new) - 1) 0 ≡ get_or new (next - 1) 0 =
          ap (λ n. get_or (take next new) (n - 1) 0) len ∙ get_or-take next new (next - 1) 0 (omega arith) in
          omega (arith, column, put.last (omega (arith, len)));
      put = put;
    }
