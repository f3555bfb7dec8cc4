-- What is asked of a file's pages has one answer, and so have its forms.
use Rattle.std.proofs.lemmas.Grind.{common_steps}
use Rattle.std.proofs.Common.{◌-◌, ◌<◌, ◌≤◌, ◌⊎◌, inl, inr, ◌≡◌, ℕ, zero, suc, ◌+◌, List, [], ◌∷◌, length, drop, Option}
use Rattle.std.proofs.Common.{Some, None, Result}
use Rattle.std.proofs.Common.{Ok, Err, refl, sym, ap, ◌∙◌, subst, arith, true}
use Rattle.std.proofs.lemmas.List.{drop-drop}
use Rattle.std.proofs.lemmas.Option.{slice_get_cases, slice_get_within}
use Rattle.std.specs.Prelude.{MatchResult, slice_get, ◌↔◌, ◌==◌}
use Rattle.std.proofs.lemmas.Bool.Decides.{nat_tests}
use Rattle.fax_files.specs.declared.FileFault.{FileFault}
use Rattle.fax_files.specs.declared.Cause.{Cause}
use Rattle.fax_files.specs.declared.Cause.TheVariants.{File}
use Rattle.fax_files.specs.Directory.{ChainRead, Header, header, read_chain}
use Rattle.fax_files.specs.Page.{page}
use Rattle.fax_files.specs.laws.TiffFiles.{FilesHaveOneChain}
use Rattle.fax_walk.specs.declared.cursor.Cursor.{Cursor}
use Rattle.fax_walk.specs.declared.end.End.{End}
use Rattle.fax_walk.specs.declared.end.End.TheVariants.{Fault, EndOfPages}
use Rattle.fax_walk.specs.Pages.{AreFrom, FormItem, FilePage, IsForm, IsFormTail, NextItem, chain_end, ends_as}
use Rattle.fax_walk.specs.Pages.{first_page}
use Rattle.fax_walk.specs.Pages.{goes_on, page_with_form, read_page}
use Rattle.fax_walk.specs.laws.Tails.{FilesHaveOneForms, CursorsHaveOneFormTail, FormTailOfPage, FormTailOfStart}
use Rattle.fax_walk.specs.laws.Tails.{FormsStandByNumber}
use Rattle.fax_walk.specs.laws.Tails.{FormTailsGoOn}
use Rattle.fax_bits.specs.laws.Codes.{IsOne}
use Rattle.fax_walk.proofs.InOrderLemmas.{get_dropped, IsOneAnswer, IsSingle, IsListed, listed_by, one_list}
use Rattle.fax_walk.proofs.InOrderLemmas.{split_at_number}

-- an equation has one answer
pub only_it : {A : Type 0} (it : A) → IsOneAnswer (λ (other : A). other ≡ it)
only_it it = record { it = it; is = refl; one = λ other same. same }

-- what stands at a number of a list, where so much is dropped before it
first_dropped : (n : ℕ) (xs : List ℕ) → slice_get xs n ≡ slice_get (drop n xs) 0
first_dropped n xs = let none : n + 0 ≡ n = omega arith in rw none at (sym (get_dropped n 0 xs))

pub next_dropped : (n : ℕ) (xs : List ℕ) (y : ℕ) (ys : List ℕ) → drop n xs ≡ y ∷ ys → drop (n + 1) xs ≡ ys
next_dropped n xs y ys e = sym (drop-drop 1 n xs) ∙ ap (drop 1) e

pub proper_end : (pages : ℕ) → chain_end pages None (record { page = pages; row = 0 }) ≡ EndOfPages
proper_end pages = let test : (pages == pages) ≡ true = grind (arith, nat_tests) in rw test refl

-- past the end of a list there is no element
pub none_past : (offsets : List ℕ) (i : ℕ) → slice_get offsets i ≡ None → length offsets ≤ i
none_past offsets i none = grind (arith, slice_get_cases)

-- the page that a cursor names stands in the chain of its file's directories
pub record IsInChain (file : List ℕ) (at : Cursor) (here : FilePage) : Type 0 where
  pub head : Header
  pub is_head : header file ≡ Ok head
  pub there : slice_get (read_chain head file).offsets at.page ≡ Some here.offset
  pub endian : head.endian ≡ here.endian
  pub fields : page here.endian file here.offset ≡ Ok here.form

-- an end is that of the chain, for a cursor after all of it
pub record IsPastChain (file : List ℕ) (at : Cursor) (end : End) : Type 0 where
  pub head : Header
  pub is_head : header file ≡ Ok head
  pub none : slice_get (read_chain head file).offsets at.page ≡ None
  pub end_is : end ≡ chain_end (length (read_chain head file).offsets) (read_chain head file).end at

module _ (file : List ℕ) (at : Cursor) where
  pub in_chain : (here : FilePage) → read_page file at ≡ Ok here → IsInChain file at here
  unfolding read_page
  in_chain here is = grind arith

  -- an end is the header's fault, that of a page's fields, or the chain's end
  pub cases_end : (end : End) → read_page file at ≡ Err end
      → ((fault : FileFault) × (header file ≡ Err fault) × (end ≡ Fault 0 0 (File fault)))
      ⊎ ((refused : FileFault) × (end ≡ Fault at.page 0 (File refused))) ⊎ IsPastChain file at end
  unfolding read_page
  cases_end end is = grind arith

proper_past : (n pages : ℕ) (fault : Option FileFault) → EndOfPages
    ≡ chain_end pages fault (record { page = n; row = 0 })
    → (fault ≡ None) × (n ≡ pages)
proper_past n pages fault e = grind (arith, nat_tests)

-- the proper end is after the last page of the chain, which has no fault
pub proper_after : (file : List ℕ) (n : ℕ) → read_page file (record { page = n; row = 0 }) ≡ Err EndOfPages
    → (head : Header) × (header file ≡ Ok head) × ((read_chain head file).end ≡ None)
    × (n ≡ length (read_chain head file).offsets)
proper_after file n there = elim (cases_end file (record { page = n; row = 0 }) EndOfPages there) [
  | inl (fault, is_head, e) ↦ absurd cc
  | inr (inl (refused, e)) ↦ absurd cc
  | inr (inr past) ↦
      let chain = read_chain past.head file in
      let ends = proper_past n (length chain.offsets) chain.end past.end_is in
      (past.head, past.is_head, ends.0, ends.1)
]

-- what follows from a page that is there, and from an end, follows
pub by_page : {A : Type 0} {on_page : FilePage → Type 0} {at_end : End → Type 0} (file : List ℕ) (at : Cursor)
    → MatchResult (read_page file at) on_page at_end
    → ((here : FilePage) → read_page file at ≡ Ok here → on_page here → A)
    → ((end : End) → read_page file at ≡ Err end → at_end end → A) → A
by_page {A} {on_page} {at_end} file at is there ended = by_found (read_page file at) refl is
  where
    by_found : (found : Result FilePage End) → read_page file at ≡ found → MatchResult found on_page at_end → A
    by_found (Ok here) page is = there here page is
    by_found (Err end) page is = ended end page is

-- what is single on each page is single on the page that is found
pub single_on_page : {A : Type 0} (found : Result FilePage End) (asked : FilePage → A → Type 0) (ended : End → A)
    → ((here : FilePage) → IsSingle (asked here)) → IsSingle (λ (x : A). MatchResult found (λ here. asked here x)
    (λ end. x ≡ ended end))
single_on_page (Err end) asked ended single x y is is' = is ∙ sym is'
single_on_page (Ok here) asked ended single x y is is' = single here x y is is'

-- what has one answer on each page has one on the page that is found
pub one_on_page : {A : Type 0} (found : Result FilePage End) (asked : FilePage → A → Type 0) (ended : End → A)
    → ((here : FilePage) → IsOneAnswer (asked here))
    → IsOneAnswer (λ (answer : A). MatchResult found (λ here. asked here answer) (λ end. answer ≡ ended end))
one_on_page (Err end) asked ended answers = only_it (ended end)
one_on_page (Ok here) asked ended answers = answers here

pub one_form : (file : List ℕ) (p : ℕ) → IsOneAnswer (IsForm file p)
one_form file p =
    one_on_page (read_page file (record { page = p; row = 0 }))
    (λ here (step : NextItem FormItem ℕ). step ≡ goes_on (record { page = p; form = here.form }) (p + 1)) ends_as
    (λ here. only_it (goes_on (record { page = p; form = here.form }) (p + 1)))

-- page p comes next: it is the first one, or the one after a page
abbrev pub IsUpcoming : List ℕ → ℕ → Type 0
IsUpcoming file p = (p ≡ 0) ⊎ ((at : Cursor) × (here : FilePage) × (read_page file at ≡ Ok here) × (p ≡ at.page + 1))

-- the end in the place of the next page: a proper one, or a fault there
abbrev pub EndsUpcoming : ℕ → End → Type 0
EndsUpcoming p end = (end ≡ EndOfPages) ⊎ ((cause : Cause) × (end ≡ Fault p 0 cause))

module _ (file : List ℕ) (p : ℕ) (upcoming : IsUpcoming file p) (end : End) where
  in_upcoming : (head : Header) → header file ≡ Ok head → p ≤ length (read_chain head file).offsets
  in_upcoming head is_head = elim upcoming [
    | inl none ↦ omega (arith, none)
    | inr (at, here, page, next) ↦
        let found = in_chain file at here page in
        let both : ◌≡◌ {A = Result Header FileFault} (Ok found.head) (Ok head) = sym found.is_head ∙ is_head in
        let same : found.head ≡ head = cc in
        let within = slice_get_within (read_chain head file).offsets at.page here.offset (rw same at found.there) in
        omega (arith, next, within)
  ]

  past : (pages : ℕ) → pages ≡ p → (fault : Option FileFault)
      → end ≡ chain_end pages fault (record { page = p; row = 0 })
      → EndsUpcoming p end
  past pages all fault e = grind arith

  pub end_upcoming : read_page file (record { page = p; row = 0 }) ≡ Err end → EndsUpcoming p end
  end_upcoming there = elim (cases_end file (record { page = p; row = 0 }) end there) [
    | inl (fault, bad, e) ↦ elim upcoming [
      | inl none ↦ inr (File fault, rw none e)
      | inr (at, here, page, next) ↦ let found = in_chain file at here page in absurd (cc (bad, found.is_head))
    ]
    | inr (inl (refused, e)) ↦ inr (File refused, e)
    | inr (inr after) ↦
        let chain = read_chain after.head file in
        let all = none_past chain.offsets p after.none in
        past (length chain.offsets) (omega (arith, all, in_upcoming after.head after.is_head)) chain.end after.end_is
  ]

-- the page that a cursor names in a file with this header
module _ (file : List ℕ) (head : Header) (is_head : header file ≡ Ok head) where
  abbrev chain : ChainRead
  chain = read_chain head file

  pub none_here : (at : Cursor) → slice_get chain.offsets at.page ≡ None
      → read_page file at ≡ Err (chain_end (length chain.offsets) chain.end at)
  unfolding read_page
  none_here at none = rw (is_head, none, read_page) refl

  pub page_here : (at : Cursor) (q : ℕ) → slice_get chain.offsets at.page ≡ Some q
      → read_page file at ≡ page_with_form head.endian q at.page (page head.endian file q)
  unfolding read_page
  page_here at q there = rw (is_head, there, read_page) refl

  pub no_page : (at : Cursor) → drop at.page chain.offsets ≡ []
      → read_page file at ≡ Err (chain_end (length chain.offsets) chain.end at)
  no_page at e = none_here at (rw e at (first_dropped at.page chain.offsets))

  pub some_page : (at : Cursor) (q : ℕ) (later : List ℕ) → drop at.page chain.offsets ≡ q ∷ later
      → read_page file at ≡ page_with_form head.endian q at.page (page head.endian file q)
  some_page at q later e = page_here at q (rw e at (first_dropped at.page chain.offsets))

module _ (chains : FilesHaveOneChain) (file : List ℕ) where
  -- a page's number is below that of the file's bytes
  pub page_few : (at : Cursor) (here : FilePage) → read_page file at ≡ Ok here → at.page < length file
  page_few at here is =
      let found = in_chain file at here is in
      let within = slice_get_within (read_chain found.head file).offsets at.page here.offset found.there in
      omega (arith, within, (chains found.head file).few)

  pub form_falls : (p : ℕ) (item : FormItem) (to : ℕ) → IsForm file p (goes_on item to)
      → length file - to < length file - p
  form_falls p item to h = grind (arith, page_few)

  forms_listed : (p : ℕ) → IsListed (IsForm file) p
  forms_listed = listed_by (IsForm file) (one_form file) (λ p. length file - p) form_falls

pub one_forms : FilesHaveOneChain → FilesHaveOneForms
one_forms chains file = one_list (IsForm file) (one_form file) 0 (forms_listed chains file 0)

pub one_form_tail : FilesHaveOneChain → CursorsHaveOneFormTail
one_form_tail chains file at = by_begin (first_page file at)
  where
    by_begin : (begin : Result ℕ End) → IsOne (λ forms end.
        MatchResult begin (λ p. AreFrom (IsForm file) p forms end) (λ none. (forms ≡ []) × (end ≡ none)))
    by_begin (Err none) =
        record { items = []; end = none; is = (refl, refl); one = λ others other tail. tail }
    by_begin (Ok p) = one_list (IsForm file) (one_form file) p (forms_listed chains file p)

module _ (file : List ℕ) where
  -- a reader that begins at a page returns what follows from it on
  from_page : (p : ℕ) (forms : List FormItem) (end : End) → (found : Result FilePage End)
      → read_page file (record { page = p; row = 0 }) ≡ found
      → IsFormTail file (record { page = p; row = 0 }) forms end
      ↔ AreFrom (IsForm file) p forms end
  from_page p forms end (Ok here) is = rw (is, first_page) (λ h. h, λ h. h)
  from_page p [] end (Err none) is = rw (is, first_page) (grind arith)
  from_page p (x ∷ forms) end (Err none) is = rw (is, first_page) (grind arith)

  to_forms : (p : ℕ) (forms : List FormItem) (end : End) → IsFormTail file (record { page = p; row = 0 }) forms end
      → AreFrom (IsForm file) p forms end
  to_forms p forms end = (from_page p forms end (read_page file (record { page = p; row = 0 })) refl).0

  of_forms : (p : ℕ) (forms : List FormItem) (end : End) → AreFrom (IsForm file) p forms end
      → IsFormTail file (record { page = p; row = 0 }) forms end
  of_forms p forms end = (from_page p forms end (read_page file (record { page = p; row = 0 })) refl).1

  form_page : (p : ℕ) (item : FormItem) (to : ℕ) → IsForm file p (goes_on item to) → (item.page ≡ p) × (to ≡ p + 1)
  form_page p item to h = grind arith

  stand_by_number : (forms : List FormItem) (p n : ℕ) (item : FormItem) (end : End) → AreFrom (IsForm file) p forms end
      → slice_get forms n ≡ Some item
      → item.page ≡ p + n
  stand_by_number [] p n item end are there = absurd cc
  stand_by_number (x ∷ forms) p zero item end (to, step, rest) there = grind arith
  stand_by_number (x ∷ forms) p (suc n) item end (to, step, rest) there =
      grind (arith, common_steps, stand_by_number forms to n item end rest there)

pub forms_stand_by_number : FormsStandByNumber
forms_stand_by_number file forms end n item are there = grind (arith, stand_by_number)

pub form_tail_of_start : FormTailOfStart
form_tail_of_start file forms end = (to_forms file 0 forms end, of_forms file 0 forms end)

pub form_tail_of_page : FormTailOfPage
form_tail_of_page file p forms end = (to_forms file p forms end, of_forms file p forms end)

pub form_tails_go_on : FormTailsGoOn
form_tails_go_on file at all end n item tail there = by_begin (first_page file at) tail
  where
    by_begin : (begin : Result ℕ End)
        → MatchResult begin (λ p. AreFrom (IsForm file) p all end) (λ none. (all ≡ []) × (end ≡ none))
        → IsFormTail file (record { page = item.page + 1; row = 0 }) (drop (n + 1) all) end
    by_begin (Err none) is =
        let nothing : ◌≡◌ {A = Option FormItem} None (Some item) = rw is.0 at there in absurd cc
    by_begin (Ok from) are =
        let split = split_at_number (IsForm file) from 0 all all end n item are refl there in
        let next = form_page file split.at item split.to split.step in
        of_forms file (item.page + 1) (drop (n + 1) all) end
        (subst (λ (p : ℕ). AreFrom (IsForm file) p (drop (n + 1) all) end) (next.1 ∙ ap (λ (n : ℕ). n + 1) (sym next.0))
        split.rest)
