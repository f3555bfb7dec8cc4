-- Bits that are put part by part.
use Rattle.std.proofs.Common.{arith, ◌≡◌, ℕ, List, [], ◌∷◌, ◌++◌, Bool, ap, sym, ◌∙◌, append_assoc}
use Rattle.std.proofs.lemmas.Grind.{common_steps}
use Rattle.std.specs.Prelude.{Result, OnErr}
use Rattle.fax_bits.specs.declared.Colour.{Colour}
use Rattle.fax_bits.specs.declared.Colour.TheVariants.{White, Black}
use Rattle.fax_bits.specs.Written.{run_bits}
use Rattle.fax_bits.specs.views.Sink.{Sink, Appends, AppendsPrefix, AppendsAllBut}
use Rattle.fax_rows.specs.Coded.{alternating_bits}
use Rattle.fax_rows.specs.Rows.{other}

pub put_begins : (sink : Sink) (all : List Bool) → AppendsAllBut sink all all sink
put_begins sink all = grind (arith, common_steps)

-- bits are put in two parts, some of them pending before, between and after
module _ (old mid new : Sink) (front first second pending : List Bool)
    (one : AppendsAllBut old (front ++ first) pending mid) where
  pub pair_put : (remaining : List Bool) → AppendsAllBut mid (pending ++ second) remaining new
      → AppendsAllBut old (front ++ (first ++ second)) remaining new
  pair_put remaining two = grind (arith, common_steps)

  -- and where a growth was refused, the first of them
  pub pair_stops : AppendsPrefix mid (pending ++ second) new → AppendsPrefix old (front ++ (first ++ second)) new
  pair_stops two = grind (arith, common_steps)

-- some of the missing bits are pending, and more are put after them: the first of the others
pub put_goes_on : (old mid new : Sink) (all pending remaining first missing pending' : List Bool)
    → AppendsAllBut old all (pending ++ remaining) mid → remaining ≡ first ++ missing
    → AppendsAllBut mid (pending ++ first) pending' new
    → AppendsAllBut old all (pending' ++ missing) new
put_goes_on old mid new all pending remaining first missing pending' so_far is more = grind (arith, common_steps)

-- where a growth was refused, the first bits are put
pub put_stops : (old mid new : Sink) (all pending remaining first missing : List Bool)
    → AppendsAllBut old all (pending ++ remaining) mid
    → remaining ≡ first ++ missing → AppendsPrefix mid (pending ++ first) new → AppendsPrefix old all new
put_stops old mid new all pending remaining first missing so_far is more = grind (arith, common_steps)

-- none but the pending bits are missing, and they are put too
pub put_pending : (old mid new : Sink) (all pending remaining : List Bool) → AppendsAllBut old all (pending
    ++ remaining) mid
    → remaining ≡ []
    → Appends mid pending new → Appends old all new
put_pending old mid new all pending remaining so_far none more = grind (arith, common_steps)

-- and where a growth was refused for them
pub pending_stops : {old mid new : Sink} {all remaining : List Bool} → AppendsAllBut old all remaining mid → new ≡ mid
    → AppendsPrefix old all new
pending_stops so_far same = grind (arith, common_steps)

-- a fact holds also where it is asked for after an error alone
pub on_err : {T E P : Type 0} (r : Result T E) → P → OnErr r P
on_err r fact = grind arith

-- the bits of the remaining runs: those of the first, and those of the others
pub row_bits_go_on : (colour : Colour) (n : ℕ) (remaining runs : List ℕ) → remaining ≡ n ∷ runs
    → alternating_bits colour remaining ≡ run_bits colour n ++ alternating_bits (other colour) runs
unfolding alternating_bits
row_bits_go_on colour n remaining runs is = ap (alternating_bits colour) is

-- those of a white run, of the black one after it, and of the others
pub row_pair_goes_on : (white black : ℕ) (remaining middle runs : List ℕ) → remaining ≡ white ∷ middle → middle ≡ black
    ∷ runs
    → alternating_bits White remaining ≡ (run_bits White white ++ run_bits Black black) ++ alternating_bits White runs
row_pair_goes_on white black remaining middle runs is is' =
    row_bits_go_on White white remaining middle is ∙ ap (λ b. run_bits White white ++ b)
    (row_bits_go_on Black black middle runs is')
    ∙ sym (append_assoc (run_bits White white) (run_bits Black black) (alternating_bits White runs))

-- and where none is left
pub row_bits_end : (colour : Colour) (remaining : List ℕ) → remaining ≡ [] → alternating_bits colour remaining ≡ []
unfolding alternating_bits
row_bits_end colour remaining none = ap (alternating_bits colour) none
