use Rattle.fax_c.proofs.PagesEndedLemmas.{ends_whole}
use Rattle.fax_c.proofs.page_total.faxpages_end_pages.Goals as goal

pub returns-clause-whole : goal.returns-clause-whole
returns-clause-whole c =
    ends_whole c.totals_are_told.ensures c.args.file.now c.end_pages.new.file c.args.written.now
    c.end_pages.new.written c.end_pages.result c.end_pages.ensures
