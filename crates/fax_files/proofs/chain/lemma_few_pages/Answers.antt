use Rattle.std.proofs.Common.{◌<◌, ◌^◌, ℕ, get_or, arith}
use Rattle.fax_files.specs.views.Chain.{chain_of}
use Rattle.fax_files.proofs.ChainLaws.{has_one_chain}
use Rattle.fax_files.proofs.ChainPlaces.{few_places}
use Rattle.fax_files.proofs.chain.lemma_few_pages.Goals as goal

pub returns : goal.returns
returns c =
    let tiff = c.args.tiff.now in
    let bytes : (k : ℕ) → get_or c.args.file.now k 0 < 256 = λ k. omega (arith, c.type_inv.file k) in
    let first : tiff.head.first < 2 ^ 32 = omega (arith, c.first-first.ensures, c.first-first.type_inv) in
    few_places tiff.head.endian tiff.file (rw c.requires at bytes) tiff.head.first (chain_of tiff).offsets
    (chain_of tiff).end (has_one_chain tiff.head tiff.file).is first
