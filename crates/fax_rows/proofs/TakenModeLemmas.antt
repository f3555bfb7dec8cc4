-- A mode that is read has the bits that are written.
use Rattle.std.proofs.Common.{◌≡◌, ℕ, ◌<◌, List, ◌++◌, length, Bool, true, refl, ap, sym, ◌∙◌, arith}
use Rattle.std.specs.Prelude.{Some, slice_get, nat_abs, nat_le}
use Rattle.std.proofs.lemmas.Option.{slice_get_read}
use Rattle.fax_bits.specs.declared.codes.CodeEntry.{CodeEntry}
use Rattle.fax_bits.specs.declared.mode_codes.ModeCode.{ModeCode}
use Rattle.fax_bits.specs.declared.mode_codes.ModeCode.TheVariants.{Vertical}
use Rattle.fax_bits.specs.Bits.{code_bits}
use Rattle.fax_bits.specs.Codes.{bits_of, Decodes}
use Rattle.fax_bits.specs.Written.{mode_bits}
use Rattle.fax_bits.specs.Tables.{modes}

-- a1 is at most 3 pels from b1
abbrev pub is_near : ModeCode → Bool
is_near (Vertical d) = nat_le (nat_abs d) 3
is_near _ = true

-- an entry whose bits are those that are written for its mode
record IsOwn (entry : CodeEntry ModeCode) : Type 0 where
  bits : bits_of entry ≡ mode_bits entry.meaning
  near : is_near entry.meaning ≡ true

own_at : (column : ℕ) → column < 10 → (entry : CodeEntry ModeCode) → slice_get modes column ≡ Some entry → IsOwn entry
unfolding modes mode_bits code_bits
own_at column h entry found = grind arith

within_table : (column : ℕ) → column < length modes → column < 10
unfolding modes
within_table column within = within

-- a mode that is taken
pub record IsOwnMode (b : List Bool) (mode : ModeCode) (rest : List Bool) : Type 0 where
  pub bits : b ≡ mode_bits mode ++ rest
  pub near : is_near mode ≡ true

pub mode_taken : {b : List Bool} {mode : ModeCode} {rest : List Bool} → Decodes modes b mode rest
    → IsOwnMode b mode rest
mode_taken {rest = rest} takes =
    let column = takes.listed.0 in
    let at = slice_get_read modes (length modes) column takes.entry refl takes.listed.1 (sym takes.listed.2) in
    let is = own_at column (within_table column takes.listed.1) takes.entry at in
    record {
      bits = takes.spelled ∙ ap (λ c. c ++ rest) (is.bits ∙ ap mode_bits takes.means);
      near = ap is_near (sym takes.means) ∙ is.near;
    }
