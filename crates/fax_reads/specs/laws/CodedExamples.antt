-- Worked runs and rows, and the codes that T.4 chooses for them, which were worked out by T.4.
use Rattle.std.specs.Prelude.{◌≡◌, ℕ, List, codes}
use Rattle.fax_bits.specs.declared.Colour.TheVariants.{White}
use Rattle.fax_bits.specs.Written.{run_bits}
use Rattle.fax_rows.specs.Coded.{one_dimensional_bits, two_dimensional_bits}
use Rattle.fax_reads.specs.laws.Examples.{pels, spelled}

-- a white run has these codes, by a make-up code of 2560 as often as it fits (T.4, table 3b)
abbrev pub IsRunOf : ℕ → List ℕ → Type 0
IsRunOf n text = run_bits White n ≡ spelled text

-- a row has these codes in one-dimensional coding, and over a reference row in two dimensions
abbrev pub IsRowOf : List ℕ → List ℕ → Type 0
IsRowOf row text = one_dimensional_bits (pels row) ≡ spelled text

abbrev pub IsOver : List ℕ → List ℕ → List ℕ → Type 0
IsOver reference row text = two_dimensional_bits (pels reference) (pels row) ≡ spelled text

-- all of them
pub record AreChosenSo : Type 0 where
  pub make_up_alone : IsRunOf 2560 (codes "000000011111 00110101")
  pub longest_terminating : IsRunOf 2623 (codes "000000011111 00110100")
  pub two_make_ups : IsRunOf 2624 (codes "000000011111 11011 00110101")
  pub make_up_twice : IsRunOf 5200 (codes "000000011111 000000011111 11011 101010")
  pub three_runs : IsRowOf (codes "WWWBBWWW") (codes "1000 11 1000")
  pub begins_black : IsRowOf (codes "BBBBBBBB") (codes "00110101 000101")
  pub pass : IsOver (codes "WWWBBWWW") (codes "WWWWWWWW") (codes "0001 1")
  pub no_pass_where_b2_is_a1 : IsOver (codes "WWBBWWWW") (codes "WWWWBBWW")
      (codes "000011 000010 1")
  pub first_pel : IsOver (codes "BBWWWWWW") (codes "BBBWWWWW") (codes "1 011 1")
  pub horizontal : IsOver (codes "WWWWWWWW") (codes "WWWBBWWW") (codes "001 1000 11 1")
