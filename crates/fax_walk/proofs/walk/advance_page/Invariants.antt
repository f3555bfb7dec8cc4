use Rattle.std.proofs.Common.{ℕ, ◌≡◌, ◌⊎◌}
use Rattle.fax_walk.specs.declared.cursor.Cursor.{Cursor}
use Rattle.fax_walk.specs.code.Walk.{GoesOnFrom, IsUpcomingOn, IsOpenOrNone, pages_to_open}
use Rattle.fax_walk.proofs.walk.advance_page.Given as goal

-- the walk continues from where it stood, on the page that was open or on the next one, whose rows
-- are expected
abbrev pub invariant-pages : goal.invariant-pages
invariant-pages l = record {
  is_open : IsOpenOrNone l.page;
  goes_on : (yielded : ℕ) (cursor : Cursor) → GoesOnFrom l.fn.file l.fn.origin yielded cursor l.initial.page
      → GoesOnFrom l.fn.file l.fn.origin yielded cursor l.page;
  there : (l.page ≡ l.initial.page) ⊎ IsUpcomingOn l.page;
}

abbrev pub decreases-pages : goal.decreases-pages
decreases-pages l = pages_to_open l.page
