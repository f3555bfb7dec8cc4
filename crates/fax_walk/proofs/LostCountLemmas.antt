-- How many rows of a page are lost, and how many one after another.
use Rattle.std.proofs.Common.{◌≡◌, ℕ, zero, suc, ◌+◌, List, [], ◌∷◌, ◌++◌, length, replicate, Ok, Err, refl, sym}
use Rattle.std.proofs.Common.{ap, ◌∙◌, arith, append_assoc, append-nil, length-append}
use Rattle.std.specs.Prelude.{max}
use Rattle.std.proofs.Math.Nat.{le-max_left, le-max_right}
use Rattle.std.proofs.lemmas.List.{length_push, length-replicate}
use Rattle.fax_rows.specs.Rows.{Colour}
use Rattle.fax_walk.specs.declared.salvaged_file.LostCount.{LostCount}
use Rattle.fax_walk.specs.Pages.{Cause}
use Rattle.fax_walk.specs.Salvaged.{PageRow}
use Rattle.fax_walk.specs.SalvagedFile.{longest_from, longest_lost, count_lost}
use Rattle.fax_walk.specs.code.OnPaper.{IsLostCount, after_found, after_lost}

max_assoc : (a b c : ℕ) → max a (max b c) ≡ max (max a b) c
max_assoc a b c = omega (
  arith,
  le-max_left a (max b c),
  le-max_right a (max b c),
  le-max_left b c,
  le-max_right b c,
  le-max_left a b,
  le-max_right a b,
  le-max_left (max a b) c,
  le-max_right (max a b) c,
)

-- a stretch of rows, and others after it
longest_over : (n before : ℕ) (cause : Cause) (rest : List PageRow)
    → longest_from before (replicate n (Err cause) ++ rest) ≡ longest_from (before + n) rest
longest_over zero before cause rest = ap (λ n. longest_from n rest) (omega arith)
longest_over (suc n) before cause rest =
    longest_over n (before + 1) cause rest ∙ ap (λ n. longest_from n rest) (omega arith)

lost_append : (first rest : List PageRow) → count_lost (first ++ rest) ≡ count_lost first + count_lost rest
lost_append [] rest = omega arith
lost_append (Ok row ∷ first) rest = lost_append first rest
lost_append (Err cause ∷ first) rest = omega (arith, lost_append first rest)

lost_all : (n : ℕ) (cause : Cause) → count_lost (replicate n (Err cause)) ≡ n
lost_all zero cause = refl
lost_all (suc n) cause = ap suc (lost_all n cause)

module _ (passed : List PageRow) (lost : LostCount) (is : IsLostCount passed lost) where
  -- after a row that is found
  pub found_counted : (row : List Colour) → IsLostCount (passed ++ Ok row ∷ []) (after_found lost)
  found_counted row =
      let count = length_push passed (Ok row) in
      record {
        rows = omega (arith, is.rows, lost_append passed (Ok row ∷ []));
        few = omega (arith, is.few, count);
        short = omega arith;
        longest = λ rest.
            ap longest_lost (append_assoc passed (Ok row ∷ []) rest) ∙ is.longest (Ok row ∷ rest)
            ∙ max_assoc lost.longest lost.stretch (longest_from 0 rest);
      }

  -- after more rows that are lost
  pub lost_counted : (n : ℕ) (cause : Cause) → IsLostCount (passed ++ replicate n (Err cause)) (after_lost lost n)
  lost_counted n cause =
      let more = replicate n (Err cause) in
      let count : length (passed ++ more) ≡ length passed + n =
      length-append passed more ∙ ap (λ k. length passed + k) (length-replicate n (Err cause)) in
      record {
        rows = omega (arith, is.rows, lost_append passed more, lost_all n cause);
        few = omega (arith, is.few, count);
        short = omega (arith, is.short, count);
        longest = λ rest.
            ap longest_lost (append_assoc passed more rest) ∙ is.longest (more ++ rest)
            ∙ ap (max lost.longest) (longest_over n lost.stretch cause rest);
      }

  -- after the last one
  pub all_counted : max lost.longest lost.stretch ≡ longest_lost passed
  all_counted = sym (is.longest []) ∙ ap longest_lost (append-nil passed)
