-- What a reader of pages still returns.
use Rattle.std.specs.Prelude.{List}
use Rattle.fax_walk.specs.declared.end.End.{End}
use Rattle.fax_walk.specs.laws.InOrder.{IsLeftOf}
use Rattle.fax_walk.specs.Pages.{FormItem, IsFormTail}
use Rattle.fax_walk.specs.views.Pages.{PagesView}

-- what a reader of pages still returns: these forms in order, and then this end
abbrev pub AreFormsLeft : PagesView → List FormItem → End → Type 0
AreFormsLeft pages = IsLeftOf (IsFormTail pages.file pages.origin) pages.yielded pages.final_end
