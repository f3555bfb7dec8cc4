use Rattle.fax_c.proofs.StripLemmas.{none_for}
use Rattle.fax_c.proofs.strip_rows.read_strip.Goals as goal

pub returns-in-Some : goal.returns-in-Some
returns-in-Some c =
    none_for c.args.form c.args.strip.now c.args.stride
    (record { place = c.args.place.now; runs = c.args.runs.now; raster = c.args.out.now }) c.in-Some.stop
    c.cursor.result c.nothing.result c.cursor.ensures c.nothing.ensures
    (c.in-Some.ensures c.args.strip.now c.args.runs.now)
