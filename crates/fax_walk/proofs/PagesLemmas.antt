-- Steps of a reader of pages.
use Rattle.std.proofs.Common.{◌≡◌, ℕ, ◌+◌, ◌^◌, ◌<◌, Bool, List, [], ◌∷◌, ◌++◌, length, Option, Some, None}
use Rattle.std.proofs.Common.{Result, Ok, Err}
use Rattle.std.proofs.Common.{refl, sym, ap, ◌∙◌, arith, append-nil, append_assoc}
use Rattle.std.proofs.lemmas.Bool.Decides.{nat_tests}
use Rattle.std.proofs.lemmas.List.{length_push}
use Rattle.std.specs.Prelude.{IfOk, IfErr}
use Rattle.fax_files.specs.declared.PageForm.{PageForm}
use Rattle.fax_files.specs.views.Chain.{ChainState}
use Rattle.fax_files.specs.views.Tiff.{TiffDirectory}
use Rattle.fax_walk.specs.declared.cursor.Cursor.{Cursor}
use Rattle.fax_walk.specs.declared.end.End.{End}
use Rattle.fax_walk.specs.Pages.{AreFrom, FormItem, IsForm, IsFormTail, goes_on, ends_as}
use Rattle.fax_walk.specs.code.Pages.{final_end_of, IsSoundReader, GoesOnAt, HasYielded, IsPageAfter, IsFirstUpcoming}
use Rattle.fax_walk.specs.code.Pages.{IsUpcomingIn}
use Rattle.fax_walk.specs.code.Pages.{EndsNow}
use Rattle.fax_walk.specs.views.InOrder.{EndsAfter, HasEndedAs}
use Rattle.fax_walk.specs.declared.end.End.TheVariants.{EndOfPages}
use Rattle.fax_walk.specs.declared.end.WalkFault.{WalkFault}
use Rattle.fax_walk.specs.code.Walk.{answer_of}
use Rattle.fax_walk.specs.views.Pages.{IsCursorOfPages, PagesView, YieldsPage, IsNextPage}
use Rattle.fax_walk.specs.laws.FormsLeft.{AreFormsLeft}
use Rattle.fax_walk.specs.laws.Tails.{CursorsHaveOneFormTail, FormTailOfPage}
use Rattle.fax_files.specs.views.Page.{IsPageForm}
use Rattle.fax_walk.specs.code.Opening.{UpcomingPage, IsFilePage, IsChainBefore, IsNamed, EndsAt}
use Rattle.fax_walk.proofs.InOrderLemmas.{get_after}
use Rattle.fax_walk.proofs.LeftLemmas.{left_after, left_ended}
use Rattle.fax_walk.specs.declared.pages.PagesStage.{PagesStage}
use Rattle.fax_walk.specs.declared.pages.PagesStage.TheVariants.{Before, After, Ended}

-- a page of a file is the form of its number
pub form_here : (p : ℕ) (chain : ChainState) (directory : TiffDirectory) (form : PageForm)
    → IsFilePage p chain directory form
    → IsForm directory.file p (goes_on (record { page = p; form = form }) (p + 1))
form_here p chain directory form its = rw (its.here 0) refl

module _ (file : List ℕ) (at : Cursor) (upcoming : UpcomingPage) (named : IsNamed file at (Some upcoming)) where
  -- a reader from a page's first row begins with that page
  pub begins_here : at.row ≡ 0 → IsFirstUpcoming file at upcoming
  begins_here first = grind (arith, nat_tests)

  begins_next : 0 < at.row → GoesOnAt file at [] (at.page + 1)
  begins_next some forms end are = grind (arith, nat_tests)

module _ (file : List ℕ) (at : Cursor) (upcoming : UpcomingPage) (named : IsNamed file at (Some upcoming))
    (its : IsFilePage upcoming.page upcoming.chain upcoming.directory upcoming.form) where
  number : upcoming.chain.yielded ≡ at.page + 1
  number = its.after.yielded ∙ ap (λ (n : ℕ). n + 1) named.1

  chain_file : upcoming.chain.tiff.file ≡ file
  chain_file = its.after.file_is ∙ named.0

  -- from a later row with the page after it
  pub begins_after : 0 < at.row → (result : Result UpcomingPage End) → IfOk result (IsPageAfter upcoming.chain)
      → IfOk result (IsFirstUpcoming file at)
  begins_after some is after = grind (arith, number, begins_next, chain_file)

  pub ends_after : 0 < at.row → (result : Result UpcomingPage End)
      → IfErr result (λ end. IsForm upcoming.chain.tiff.file upcoming.chain.yielded (ends_as end))
      → IfErr result (IsFormTail file at [])
  ends_after some is after = grind (arith, begins_next, chain_file, number)

-- from a cursor on there are no pages
pub no_forms : (file : List ℕ) (at : Cursor) (end : End) → EndsAt file at end → IsFormTail file at [] end
no_forms file at end is = grind (arith, nat_tests)

-- after the forms that lead to a page the pages end
ended_after : (file : List ℕ) (origin : Cursor) (yielded p : ℕ) (end : End) → HasYielded file origin yielded p
    → IsForm file p (ends_as end)
    → EndsAfter (IsFormTail file origin) yielded end
ended_after file origin yielded p end come is =
    (come.forms ++ [], come.on [] end is, ap (λ (l : List FormItem). length l) (append-nil come.forms) ∙ come.count)

pub ends_later : (file : List ℕ) (origin : Cursor) (yielded : ℕ) (final_end : Option End) (chain : ChainState)
    (result : Result UpcomingPage End)
    → final_end ≡ None
    → HasYielded file origin yielded chain.yielded × IsChainBefore file chain.yielded chain → IfErr result
    (λ end. IsForm chain.tiff.file chain.yielded (ends_as end))
    → IfErr result (EndsNow (record { file = file; origin = origin; yielded = yielded; final_end = final_end }))
ends_later file origin yielded final_end chain (Ok upcoming) untold sound after = after
ends_later file origin yielded final_end chain (Err end) untold sound after =
    (ended_after file origin yielded chain.yielded end sound.0 (rw (sound.1.file_is) at after), rw untold tt)

-- what is returned from a page on
module _ (tails : CursorsHaveOneFormTail) (of_page : FormTailOfPage) where
  forms_on : (file : List ℕ) (p : ℕ) → (forms : List FormItem) × (end : End) × AreFrom (IsForm file) p forms end
  forms_on file p =
      let one = tails file (record { page = p; row = 0 }) in
      (one.items, one.end, (of_page file p one.items one.end).0 one.is)

  -- the next page is returned
  pub page_given : (pages : PagesView) (upcoming : UpcomingPage) → IsUpcomingIn pages upcoming
      → IsFilePage upcoming.page upcoming.chain upcoming.directory upcoming.form
      → IsPageForm upcoming.form → upcoming.page + 1 < 2 ^ 32
      → YieldsPage pages (record { page = upcoming.page; form = upcoming.form })
      (record pages { yielded = pages.yielded + 1; final_end = None })
  page_given pages upcoming is its limits short =
      let item : FormItem = record { page = upcoming.page; form = upcoming.form } in
      let more = forms_on pages.file (upcoming.page + 1) in
      let from : AreFrom (IsForm pages.file) upcoming.page (item ∷ more.0) more.1 = (
        upcoming.page + 1,
        rw (is.file_is) at (form_here upcoming.page upcoming.chain upcoming.directory upcoming.form
            its),
        more.2,
      ) in (
        record {
          untold = is.untold;
          number = (
            is.come.forms ++ item ∷ more.0,
            more.1,
            is.come.on (item ∷ more.0) more.1 from,
            get_after is.come.forms item more.0 pages.yielded is.come.count,
          );
          few = omega (arith, is.come.few, short);
          new_is = ap (λ (t : Option End). record pages { yielded = pages.yielded + 1; final_end = t }) (sym is.untold);
        },
        limits,
      )

-- what is left of a reader of pages
untold : (file : List ℕ) (origin : Cursor) (yielded : ℕ) (cursor : Cursor) → CursorsHaveOneFormTail
    → IsCursorOfPages (record { file = file; origin = origin; yielded = yielded; final_end = None }) cursor
    → (forms : List FormItem) × (end : End)
    × AreFormsLeft (record { file = file; origin = origin; yielded = yielded; final_end = None }) forms end
untold file origin yielded cursor tails is =
    left_after IsFormTail (record { file = file; origin = origin; yielded = yielded; final_end = None }) (λ at. at)
    (λ item. record { page = item.page + 1; row = 0 }) cursor (tails file origin) is

pub forms_left : (file : List ℕ) (origin : Cursor) (yielded : ℕ) (cursor : Cursor) (stage : PagesStage)
    → CursorsHaveOneFormTail
    → IsSoundReader file origin yielded cursor stage
    → (forms : List FormItem) × (end : End)
    × AreFormsLeft (record { file = file; origin = origin; yielded = yielded; final_end = final_end_of stage }) forms
    end
forms_left file origin yielded cursor Before tails sound = untold file origin yielded cursor tails sound.cursor_is
forms_left file origin yielded cursor (After chain) tails sound = untold file origin yielded cursor tails
    sound.cursor_is
forms_left file origin yielded cursor (Ended end) tails sound = grind (arith, left_ended)

-- one page more was returned
pub given_more : (file : List ℕ) (origin : Cursor) (yielded : ℕ) (upcoming : UpcomingPage)
    → HasYielded file origin yielded upcoming.page
    → upcoming.directory.file ≡ file → IsFilePage upcoming.page upcoming.chain upcoming.directory upcoming.form
    → HasYielded file origin (yielded + 1) upcoming.chain.yielded
    × IsChainBefore file upcoming.chain.yielded upcoming.chain
given_more file origin yielded upcoming come file_is its = (
  record {
    forms = come.forms ++ record { page = upcoming.page; form = upcoming.form } ∷ [];
    on = λ forms end are.
        rw (append_assoc come.forms (record { page = upcoming.page; form = upcoming.form } ∷ []) forms)
        (come.on (record { page = upcoming.page; form = upcoming.form } ∷ forms) end (
          upcoming.page + 1,
          rw file_is at (form_here upcoming.page upcoming.chain upcoming.directory upcoming.form its),
          rw its.after.yielded at are,
        ));
    count = length_push come.forms (record { page = upcoming.page; form = upcoming.form })
        ∙ ap (λ (n : ℕ). n + 1) come.count;
    few = omega (arith, come.few, its.after.yielded);
  },
  rw (file_is, ← its.after.yielded) at its.after,
)

-- what is returned where the pages have ended
pub ended_properly : (old new : PagesView) (end : End) (more : Bool) → HasEndedAs IsFormTail old end new
    → Ok more ≡ answer_of end
    → HasEndedAs IsFormTail old EndOfPages new
ended_properly old new end more ended is = grind arith

pub ended_so : (old new : PagesView) (end : End) (fault : WalkFault) → HasEndedAs IsFormTail old end new
    → Err fault ≡ answer_of end
    → IsNextPage old (Err fault) new
ended_so old new end fault ended is = grind arith
