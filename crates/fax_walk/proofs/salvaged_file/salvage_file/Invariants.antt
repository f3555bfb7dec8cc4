use Rattle.std.proofs.Common.{◌-◌, length}
use Rattle.fax_files.specs.views.Chain.{chain_of}
use Rattle.fax_walk.specs.code.OnPaper.{IsSalvaging}
use Rattle.fax_walk.proofs.salvaged_file.salvage_file.Given as goal

abbrev pub invariant-loop-after : goal.invariant-loop-after
invariant-loop-after l = IsSalvaging l.fn.file l.fn.options l.chain l.output l.some

abbrev pub decreases-loop-after : goal.decreases-loop-after
decreases-loop-after l = length (chain_of l.chain.tiff).offsets - l.chain.yielded
