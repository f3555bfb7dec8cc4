use Rattle.fax_c.proofs.PagesEndedLemmas.{adds_to_pages}
use Rattle.fax_c.proofs.writing.faxpages_add_page.Goals as goal

pub returns-clause-pages : goal.returns-clause-pages
returns-clause-pages c =
    adds_to_pages
    (record { form = c.args.form.now; k = c.args.k; raster = c.args.raster.now; stride = c.args.stride })
    c.args.file.now c.add_given.new.file c.args.written.now
    c.add_given.new.written c.add_given.result c.add_given.ensures
