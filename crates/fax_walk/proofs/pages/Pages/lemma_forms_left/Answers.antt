use Rattle.fax_walk.proofs.PagesLemmas.{forms_left}
use Rattle.fax_walk.proofs.pages.Pages.lemma_forms_left.Goals as goal

pub returns : goal.returns
returns c =
    let p = c.self.inside in
    rw (← c.self.view_is)
    (forms_left p.file.now p.origin p.yielded p.cursor p.stage c.form_tails_are_one.ensures.one c.self.invariant)
