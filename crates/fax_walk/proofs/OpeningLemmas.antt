-- Pages as a chain hands them out.
use Rattle.std.proofs.Common.{arith, ◌≡◌, ℕ, Option, Some, None, Result, Ok, Err, sym, ◌∙◌}
use Rattle.std.specs.Prelude.{slice_get}
use Rattle.fax_files.specs.declared.FileFault.{FileFault}
use Rattle.fax_files.specs.views.Chain.{ChainState, answer_at, chain_of, upcoming_answer}
use Rattle.fax_files.specs.views.Tiff.{TiffFile, TiffDirectory, directory_of}

-- a directory that is returned stands at the place that is asked for
answered : (tiff : TiffFile) (place : Option ℕ) (end : Option FileFault) (directory : TiffDirectory)
    → Ok (Some directory) ≡ answer_at tiff place end → (place ≡ Some directory.offset)
    × (directory ≡ directory_of tiff directory.offset)
answered tiff place end directory is = grind arith

-- no directory is returned where there is none, and the chain ends properly
none_answered : (tiff : TiffFile) (place : Option ℕ) (end : Option FileFault) → Ok None ≡ answer_at tiff place end
    → (place ≡ None) × (end ≡ None)
none_answered tiff place end is = grind arith

-- a fault is returned where there is no directory, and the chain ends with it
fault_answered : (tiff : TiffFile) (place : Option ℕ) (end : Option FileFault) (met : FileFault)
    → Err met ≡ answer_at tiff place end
    → (place ≡ None) × (end ≡ Some met)
fault_answered tiff place end met is = grind arith

-- what a chain answers
module _ (chain : ChainState) (answer : Result (Option TiffDirectory) FileFault) (upcoming : answer
    ≡ upcoming_answer chain) where
  abbrev place : Option ℕ
  place = slice_get (chain_of chain.tiff).offsets chain.yielded

  abbrev end : Option FileFault
  end = (chain_of chain.tiff).end

  pub upcoming_some : (directory : TiffDirectory) → answer ≡ Ok (Some directory)
      → (place ≡ Some directory.offset) × (directory ≡ directory_of chain.tiff directory.offset)
  upcoming_some directory is = answered chain.tiff place end directory (sym is ∙ upcoming)

  pub upcoming_none : answer ≡ Ok None → (place ≡ None) × (end ≡ None)
  upcoming_none is = none_answered chain.tiff place end (sym is ∙ upcoming)

  pub upcoming_fault : (met : FileFault) → answer ≡ Err met → (place ≡ None) × (end ≡ Some met)
  upcoming_fault met is = fault_answered chain.tiff place end met (sym is ∙ upcoming)
