-- Numbers that stand for words, as `faxpages.h` has them.
-- A definition without a citation is this project's profile.
use Rattle.std.specs.Prelude.{ℕ, Bool, true, false}
use Rattle.fax_bits.specs.declared.FillOrder.{FillOrder}
use Rattle.fax_bits.specs.declared.FillOrder.TheVariants.{MsbFirst, LsbFirst}
use Rattle.fax_page.specs.declared.Coding.{Coding}
use Rattle.fax_page.specs.declared.Coding.TheVariants.{Mh, Mr, Mmr}
use Rattle.fax_walk.specs.declared.options.Target.{Target}
use Rattle.fax_walk.specs.declared.options.Target.TheVariants as To

-- how rows are coded
abbrev pub coding_number : Coding → ℕ
coding_number Mh = 1
coding_number Mr = 2
coding_number Mmr = 3

-- which bit of a byte is first (TIFF 6.0, FillOrder)
abbrev pub order_number : FillOrder → ℕ
order_number MsbFirst = 1
order_number LsbFirst = 2

-- whether something is so
abbrev pub bool_number : Bool → ℕ
bool_number false = 0
bool_number true = 1

-- what a file is turned into: raw PBM, or TIFF in a coding
abbrev pub target_number : Target → ℕ
target_number To.Pbm = 0
target_number To.Mh = coding_number Mh
target_number To.Mr = coding_number Mr
target_number To.Mmr = coding_number Mmr
