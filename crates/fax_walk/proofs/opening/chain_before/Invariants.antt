use Rattle.fax_walk.specs.code.Opening.{IsChainBefore}
use Rattle.fax_walk.proofs.opening.chain_before.Given as goal

-- the chain has at least the directories that were returned
abbrev pub invariant-loop-number : goal.invariant-loop-number
invariant-loop-number l = IsChainBefore l.file l.number l.chain
