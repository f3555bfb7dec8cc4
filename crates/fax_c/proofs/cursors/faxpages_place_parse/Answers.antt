use Rattle.std.proofs.Common.{◌∙◌, inl, inr, refl, sym}
use Rattle.fax_c.proofs.PlaceTextLemmas.{no_text, place_read}
use Rattle.fax_c.proofs.cursors.faxpages_place_parse.Goals as goal

pub returns-in_default : goal.returns-in_default
returns-in_default c = inr (refl, refl, inr (inl (refl, no_text c.args.text.now c.in_default.ensures.cases.0)))

pub returns-in-Ok-parse-2 : goal.returns-in-Ok-parse-2
returns-in-Ok-parse-2 c =
    place_read c.args.text.now c.in-Ok-parse-2.found c.args.place.now c.tell_place.new.place c.args.runs.now
    c.tell_place.new.runs
    c.tell_place.result c.cursors_are_named.ensures.one c.in-Ok-parse-2.ensures.range
    (sym c.in-Ok.ensures.cases.0 ∙ c.in-Ok-parse-2.ensures.ok) c.tell_place.ensures
