use Rattle.fax_walk.proofs.shown_rows.ShownRows.place.Goals as goal

pub returns : goal.returns
returns c = rw (← c.self.view_is) c.place.ensures
