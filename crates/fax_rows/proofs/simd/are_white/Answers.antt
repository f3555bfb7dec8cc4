use Rattle.std.proofs.Common.{ℕ, sym, ◌∙◌, arith, not, nat_eq}
use mir.Syntax.{w8}
use Rattle.std.proofs.lemmas.Bool.{eqb-true}
use Rattle.std.proofs.lemmas.Simd.{length-chunk, bitmask_splat}
use Rattle.fax_rows.proofs.FirstOtherLemmas.{lanes_white}
use Rattle.fax_rows.proofs.simd.are_white.Goals as goal

pub returns : goal.returns
returns c = λ none.
    let bytes = c.args.bytes.now in
    let mask = bitmask_splat w8 (λ (a b : ℕ). not (nat_eq a b)) _ 64 0
    (length-chunk c.args.at 64 bytes c.requires) (omega arith) in
    lanes_white c.bits_stand_by_index.ensures bytes c.args.at c.requires (sym mask ∙ eqb-true _ 0 none)
