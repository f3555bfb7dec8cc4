-- A row in two-dimensional coding, put step by step.
use Rattle.std.proofs.lemmas.Grind.{common_steps}
use Rattle.std.proofs.Common.{◌≡◌, ℕ, zero, suc, ◌+◌, ◌-◌, ◌<◌, ◌≤◌, List, [], ◌++◌, length, Bool, arith}
use Rattle.std.specs.Prelude.{Option, Some, None}
use Rattle.fax_bits.specs.declared.Colour.{Colour}
use Rattle.fax_bits.specs.views.Sink.{Sink, Appends, AppendsPrefix, AppendsAllBut}
use Rattle.fax_rows.specs.code.CodingElements.{step_bits_from, a0_after_step}
use Rattle.fax_rows.specs.Coded.{step_bits, two_dimensional_bits}
use Rattle.fax_rows.proofs.ChangeLemmas.{first_of}
use Rattle.fax_rows.proofs.ChoiceLemmas.{passed, passed_within, a0_ahead}
use Rattle.fax_rows.proofs.PutBitsLemmas.{put_begins, put_goes_on, put_pending}
use Rattle.fax_rows.proofs.WrittenLemmas.{step_bits-end, step_bits-more}

-- the steps before a0 are put, but for the pending bits, and those that are left are enough to end
-- the row
pub record IsPutToPlace (reference row : List Colour) (old : Sink) (a0 : Option ℕ) (pending : List Bool) (new : Sink) :
    Type 0 where
  pub limit : ℕ
  pub enough : length row + 1 ≤ passed a0 + limit
  pub within : first_of a0 ≤ length row
  pub so_far : AppendsAllBut old (two_dimensional_bits reference row) (pending ++ step_bits limit reference row a0) new

pub place_begins : (reference row : List Colour) (sink : Sink) → IsPutToPlace reference row sink None [] sink
place_begins reference row sink = record {
  limit = length row + 1;
  enough = omega arith;
  within = omega arith;
  so_far = put_begins sink (two_dimensional_bits reference row);
}

module _ (reference row : List Colour) (old mid new : Sink) (a0 : Option ℕ) (pending : List Bool)
    (elements : IsPutToPlace reference row old a0 pending mid) (over : length row ≤ first_of a0) where
  none : step_bits elements.limit reference row a0 ≡ []
  none = step_bits-end elements.limit reference row a0 (omega (arith, elements.within))

  pub place_ends : Appends mid pending new → Appends old (two_dimensional_bits reference row) new
  place_ends more = put_pending old mid new _ pending _ elements.so_far none more

-- a step is left inside the row
record IsStepLeft (reference row : List Colour) (old : Sink) (a0 : Option ℕ) (pending : List Bool) (new : Sink) : Type 0
  where
    limit : ℕ
    enough : length row ≤ passed a0 + limit
    so_far : AppendsAllBut old (two_dimensional_bits reference row) (pending ++ step_bits (suc limit) reference row a0)
        new

step_left : (reference row : List Colour) (old : Sink) (a0 : Option ℕ) (pending : List Bool) (new : Sink) (limit : ℕ)
    → first_of a0 < length row → length row + 1 ≤ passed a0 + limit
    → AppendsAllBut old (two_dimensional_bits reference row) (pending ++ step_bits limit reference row a0) new
    → IsStepLeft reference row old a0 pending new
step_left reference row old a0 pending new zero inside enough so_far =
    absurd (omega (arith, passed_within a0 (length row) inside))
step_left reference row old a0 pending new (suc limit) inside enough so_far = grind (arith, common_steps)

module _ (reference row : List Colour) (same_width : length reference ≡ length row) (old mid new : Sink) (a0 : Option ℕ)
    (pending : List Bool) (elements : IsPutToPlace reference row old a0 pending mid) (inside : first_of a0 < length row)
  where
    remaining : IsStepLeft reference row old a0 pending mid
    remaining = step_left reference row old a0 pending mid elements.limit inside elements.enough elements.so_far

    pub place_goes_on : (column : ℕ) (pending' : List Bool) → column ≡ a0_after_step reference row a0
        → AppendsAllBut mid (pending ++ step_bits_from reference row a0) pending' new
        → IsPutToPlace reference row old (Some column) pending' new
    place_goes_on column pending' is more = grind (arith, a0_ahead, remaining, put_goes_on, step_bits-more)

    pub place_stops : AppendsPrefix mid (pending ++ step_bits_from reference row a0) new
        → AppendsPrefix old (two_dimensional_bits reference row) new
    place_stops more = grind (arith, common_steps, remaining, step_bits-more)

-- each step passes a place
pub step_smaller : (reference row : List Colour) → length reference ≡ length row → (a0 : Option ℕ)
    → first_of a0 < length row
    → (column : ℕ) → column ≡ a0_after_step reference row a0 → (next : Option ℕ) → next ≡ Some column
    → length row + 1 - passed next < length row + 1 - passed a0
step_smaller reference row same_width a0 inside column is next next_is = grind (arith, a0_ahead)
