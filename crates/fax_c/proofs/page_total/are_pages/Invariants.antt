use Rattle.std.proofs.Common.{◌+◌, ◌-◌, ◌≤◌, length}
use Rattle.fax_files.specs.views.Writing.{ArePagesAfter}
use Rattle.fax_c.proofs.page_total.are_pages.Given as goal

-- what is left of the pages stands from the link on
abbrev pub invariant-loop : goal.invariant-loop
invariant-loop l =
    (l.link + 4 ≤ length l.fn.file)
    × (ArePagesAfter l.fn.file (l.fn.count - l.counter) l.link l.fn.last
    → ArePagesAfter l.fn.file l.fn.count 4 l.fn.last)
    × (ArePagesAfter l.fn.file l.fn.count 4 l.fn.last → ArePagesAfter l.fn.file (l.fn.count - l.counter) l.link
    l.fn.last)
