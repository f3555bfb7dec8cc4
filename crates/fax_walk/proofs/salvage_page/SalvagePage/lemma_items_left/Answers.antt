use Rattle.std.proofs.Common.{refl}
use Rattle.fax_walk.proofs.salvage_page.SalvagePage.lemma_items_left.Goals as goal

pub returns : goal.returns
returns c = rw (← c.self.view_is) (_, (c.lemma_rows_left.ensures.0, c.lemma_rows_left.ensures.1, refl))
