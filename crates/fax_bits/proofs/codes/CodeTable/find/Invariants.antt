use Rattle.fax_bits.specs.Bits.{code_bits, StartsWith}
use Rattle.fax_bits.specs.Codes.{bits_of}
use Rattle.fax_bits.proofs.TableLemmas.{EachBelow}
use Rattle.fax_bits.proofs.codes.CodeTable.find.Given as goal

-- no entry gone through so far begins the bits
abbrev pub invariant-loop-i : goal.invariant-loop-i
invariant-loop-i g l = EachBelow (λ entry. StartsWith (code_bits l.n l.window) (bits_of entry) → ⊥)
    g.Self.CodeTable.table l.i
