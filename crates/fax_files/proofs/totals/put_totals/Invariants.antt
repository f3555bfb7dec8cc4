use Rattle.std.proofs.Common.{◌≡◌, ℕ, ◌+◌, ◌-◌, ◌≤◌, length}
use Rattle.fax_files.specs.views.Writing.{ArePagesAfter, with_totals}
use Rattle.fax_files.proofs.totals.put_totals.Given as goal

-- the pages that are left stand from the link on, and once they say so too, all do
abbrev pub invariant-loop : goal.invariant-loop
invariant-loop l =
    (l.link + 4 ≤ length l.file)
    × ((last : ℕ) × ArePagesAfter l.file (l.fn.pages - l.counter) l.link last)
    × (with_totals l.fn.pages (l.fn.pages - l.counter) l.link l.file ≡ with_totals l.fn.pages l.fn.pages 4 l.fn.file)
