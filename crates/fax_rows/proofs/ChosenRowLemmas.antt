-- A row that is read by steps that T.4 would have chosen has the bits that are written.
use Rattle.std.proofs.Common.{◌≡◌, ℕ, ◌<◌, ◌≤◌, List, [], ◌++◌, length, Bool, refl, ap, sym, ◌∙◌, append_assoc}
use Rattle.std.proofs.Common.{append-nil, arith}
use Rattle.std.specs.Prelude.{Option, None}
use Rattle.fax_bits.specs.declared.Colour.{Colour}
use Rattle.fax_bits.specs.declared.FillOrder.TheVariants.{MsbFirst}
use Rattle.fax_bits.specs.views.Sink.{Sink}
use Rattle.fax_rows.specs.Coded.{two_dimensional_bits}
use Rattle.fax_rows.specs.Rows.{Position, first_pel}
use Rattle.fax_rows.specs.code.CodingElements.{step_bits_from}
use Rattle.fax_rows.specs.code.Chosen.{ExtendsPosition, IsCanonicalStep}
use Rattle.fax_rows.proofs.ChangeLemmas.{first_of}
use Rattle.fax_rows.proofs.PlacedLemmas.{IsPutToPlace, place_begins, place_goes_on, place_ends}

-- these bits alone, as if they were put
abbrev pub alone : List Bool → Sink
alone bits = record { order = MsbFirst; bits = bits }

-- the bits begin with those that are written up to a0
pub record IsWrittenUpTo (reference row : List Colour) (b : List Bool) (a0 : Option ℕ) (rest : List Bool) : Type 0 where
  pub front : List Bool
  pub bits : b ≡ front ++ rest
  pub put : IsPutToPlace reference row (alone []) a0 [] (alone front)

-- they do so for each row that continues from here
abbrev pub IsChosenSoFar : List Colour → List Bool → Position → List Bool → Type 0
IsChosenSoFar reference b at rest =
    (row : List Colour) → length row ≡ length reference → ExtendsPosition row at
    → IsWrittenUpTo reference row b at.a0 rest

pub chosen_begins : (reference : List Colour) (b : List Bool) (at : Position) → at.a0 ≡ None
    → IsChosenSoFar reference b at b
chosen_begins reference b at start row len goes = rw start record
    { front = []; bits = refl; put = place_begins reference row (alone []) }

pub chosen_goes_on : (reference : List Colour) (b : List Bool) (old : Position) (mid : List Bool) (new : Position)
    (rest : List Bool)
    → IsChosenSoFar reference b old mid → IsCanonicalStep reference old mid new rest → first_pel old < length reference
    → IsChosenSoFar reference b new rest
chosen_goes_on reference b old mid new rest so_far chosen unfinished row len goes =
    let step = chosen row len goes in
    let before = so_far row len step.before in
    let more = step_bits_from reference row old.a0 in
    let inside : first_of old.a0 < length row = omega (arith, len, unfinished) in
    rw step.place record {
      front = before.front ++ more;
      bits = before.bits ∙ ap (λ c. before.front ++ c) step.bits ∙ sym (append_assoc before.front more rest);
      put = place_goes_on reference row (sym len) (alone []) (alone before.front) (alone (before.front ++ more)) old.a0
          [] before.put
          inside _ [] refl (record { done = more; appended = refl; parts = sym (append-nil more) });
    }

pub chosen_ends : (reference row : List Colour) (b : List Bool) (at : Position) (rest : List Bool)
    → IsChosenSoFar reference b at rest
    → length row ≡ length reference → ExtendsPosition row at → length row ≤ first_pel at
    → b ≡ two_dimensional_bits reference row ++ rest
chosen_ends reference row b at rest so_far len goes over =
    let all = so_far row len goes in
    let put = place_ends reference row (alone []) (alone all.front) (alone all.front) at.a0 [] all.put over
    (ap alone (sym (append-nil all.front))) in
    all.bits ∙ ap (λ (s : Sink). s.bits ++ rest) put
