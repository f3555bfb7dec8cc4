use Rattle.fax_walk.specs.code.SalvageFile.{chain_measure}
use Rattle.fax_walk.proofs.SalvageFileLemmas.{IsSalvaging}
use Rattle.fax_walk.proofs.salvage.Salvage.next_item.Given as goal

abbrev pub invariant-pages : goal.invariant-pages
invariant-pages l =
    IsSalvaging l.fn.self l.self-inside.file.now l.self-inside.chain l.self-inside.page l.self-inside.yielded
    l.self-inside.whole

abbrev pub decreases-pages : goal.decreases-pages
decreases-pages l = chain_measure l.self-inside.chain
