-- A damaged file that is gone through, page after page.
use Rattle.std.proofs.Common.{◌≡◌, ℕ, ◌+◌, List, [], ◌∷◌, ◌++◌, length, drop, Option, Some, None, Result, Ok, Err, refl}
use Rattle.std.proofs.Common.{sym}
use Rattle.std.proofs.Common.{ap, ◌∙◌, arith, suc, ◌*◌, ◌≤◌, ◌<◌, append_assoc, append-nil, subst}
use Rattle.std.specs.Prelude.{slice_get, flat_map, ◌&&◌}
use Rattle.std.proofs.lemmas.List.{drop_all, length_push}
use Rattle.std.specs.Prelude.{◌^◌}
use Rattle.fax_rows.specs.Rows.{Colour}
use Rattle.fax_walk.specs.declared.salvage.SalvageItem.{SalvageItem}
use Rattle.fax_walk.specs.declared.salvage.SalvageItem.TheVariants as Item
use Rattle.fax_walk.specs.views.SalvageItems.{SalvageView, YieldsRemaining, IsBetweenPages, IsNextLeft, item_of}
use Rattle.std.proofs.Common.{zero}
use Rattle.fax_page.specs.laws.Salvage.{SalvagesStripsOneWay}
use Rattle.fax_walk.specs.laws.Salvaged.{IsSalvagedOneWay}
use Rattle.fax_walk.proofs.InOrderLemmas.{ended_at, get_after, leads_both}
use Rattle.fax_walk.proofs.RowLawLemmas.{LinesAreRead}
use Rattle.fax_walk.proofs.SalvageWholeLemmas.{page_led}
use Rattle.fax_bits.specs.laws.Codes.{AreBitsByIndex}
use Rattle.fax_walk.specs.laws.InOrder.{LeadTo}
use Rattle.fax_walk.specs.Items.{IsRow, first_at}
use Rattle.fax_walk.specs.code.SalvageFile.{IsWhollyRead, was_clean}
use Rattle.std.proofs.Common.{Bool, true, false}
use Rattle.fax_walk.proofs.SalvageLawLemmas.{pages_left}
use Rattle.fax_files.specs.declared.FileFault.{FileFault}
use Rattle.fax_files.specs.declared.PageForm.{PageForm}
use Rattle.fax_files.specs.views.Chain.{ChainState, after_answer, upcoming_answer}
use Rattle.fax_files.specs.views.Page.{IsPageForm}
use Rattle.fax_files.specs.views.Tiff.{TiffDirectory, directory_of, form_of}
use Rattle.fax_files.specs.Directory.{read_chain}
use Rattle.fax_files.specs.Page.{page as fields_of, most_rows}
use Rattle.fax_walk.specs.declared.salvage.ChainStep.TheVariants.{Broken, Ends, Entered, Refused}
use Rattle.fax_walk.specs.Salvaged.{SalvagedItem, page_refused, page_items, IsPageLeftAs, ArePagesLeft, IsSalvaged}
use Rattle.fax_walk.specs.code.Opening.{IsChainBefore}
use Rattle.fax_walk.specs.code.SalvageFile.{AreFewYielded, AreLeftInFile, AreLeftOnPage, IsDirectoryNext}
use Rattle.fax_walk.specs.code.SalvageFile.{GivesItem, shown_last}
use Rattle.fax_walk.specs.code.SalvageFile.{IsYielded, IsInFile, IsNextPage}
use Rattle.fax_walk.specs.code.SalvagePage.{SalvagePageState, EndsOnPage, GivesOfPage, IsLeftOnPage, IsPageStarted}
use Rattle.fax_walk.specs.code.SalvagePage.{with_lost, with_waiting, row_after}
use Rattle.fax_walk.proofs.EndingLemmas.{found, goes_on, proper_end_at}
use Rattle.fax_walk.specs.code.SalvageFile.{IsLastPassed}
use Rattle.fax_walk.proofs.OpeningLemmas.{upcoming_fault, upcoming_none, upcoming_some}
use Rattle.fax_walk.proofs.PageLawLemmas.{none_past}

same_tiff : (chain new : ChainState) (answer : Result (Option TiffDirectory) FileFault) (directory : TiffDirectory)
    → answer ≡ Ok (Some directory) → new ≡ after_answer chain answer → new.tiff ≡ chain.tiff
same_tiff chain new answer directory is counted = grind arith

-- a page that is entered
pub entered_next : (chain new : ChainState) (answer : Result (Option TiffDirectory) FileFault)
    (directory : TiffDirectory) (form : PageForm) (its : SalvagePageState)
    → IsChainBefore chain.tiff.file chain.yielded chain
    → answer ≡ upcoming_answer chain → answer ≡ Ok (Some directory) → new ≡ after_answer chain answer
    → form_of directory ≡ Ok form → IsPageForm form → IsPageStarted directory form chain.yielded its
    → IsNextPage chain (Entered its new)
entered_next chain new answer directory form its before upcoming is counted form_is limits origin =
    grind (arith, upcoming_some, found, goes_on, same_tiff)

-- a page that is refused
pub refused_next : (chain new : ChainState) (answer : Result (Option TiffDirectory) FileFault) (directory :
    TiffDirectory)
    (fault : FileFault) → IsChainBefore chain.tiff.file chain.yielded chain
    → answer ≡ upcoming_answer chain → answer ≡ Ok (Some directory) → new ≡ after_answer chain answer
    → form_of directory ≡ Err fault → IsNextPage chain (Refused fault new)
refused_next chain new answer directory fault before upcoming is counted refused =
    grind (arith, upcoming_some, goes_on, same_tiff)

-- no page more
all_passed : (chain : ChainState) (offsets : List ℕ) → chain.yielded ≤ length offsets
    → slice_get offsets chain.yielded ≡ None → length offsets ≡ chain.yielded
all_passed chain offsets within none = grind (arith, none_past)

pub ends_next : (chain : ChainState) (answer : Result (Option TiffDirectory) FileFault)
    → IsChainBefore chain.tiff.file chain.yielded chain → answer ≡ upcoming_answer chain
    → answer ≡ Ok None → IsNextPage chain Ends
ends_next chain answer before upcoming is = grind (arith, all_passed, upcoming_none, proper_end_at)

pub broken_next : (chain : ChainState) (answer : Result (Option TiffDirectory) FileFault) (fault : FileFault)
    → IsChainBefore chain.tiff.file chain.yielded chain → answer ≡ upcoming_answer chain → answer ≡ Err fault
    → IsNextPage chain Broken
broken_next chain answer fault before upcoming is = grind (arith, all_passed, upcoming_fault)

-- the offset that stands after others
pub dropped_at : (offsets : List ℕ) (n q : ℕ) → slice_get offsets n ≡ Some q → drop n offsets ≡ q ∷ drop (n + 1) offsets
dropped_at [] zero q is = cc
dropped_at [] (suc n) q is = cc
dropped_at (x ∷ offsets) zero q is = cc
dropped_at (x ∷ offsets) (suc n) q is = grind (arith, dropped_at offsets n q is)

-- what stands after the first items
drop_front : (front rest : List SalvagedItem) → drop (length front) (front ++ rest) ≡ rest
drop_front [] rest = refl
drop_front (x ∷ front) rest = drop_front front rest

-- so many items were returned of whole pages
few_whole : (chain : ChainState) (page : Option SalvagePageState) (yielded : ℕ) → AreFewYielded chain page yielded
    → yielded ≤ chain.yielded * most_rows
few_whole chain page yielded few = grind arith

-- what the laws say of a file
pub record KnowsFile (file : List ℕ) : Type 0 where
  pub by_place : AreBitsByIndex
  pub lines_read : LinesAreRead
  pub salvages : SalvagesStripsOneWay
  pub one : IsSalvagedOneWay file

-- there is something left of a file, where there is of the page
rest_left : (file : List ℕ) (laws : KnowsFile file) (chain : ChainState) (now : Option SalvagePageState)
    (own : List SalvagedItem)
    → AreLeftOnPage now own → (items : List SalvagedItem) × AreLeftInFile file (Some chain) now items
rest_left file laws chain now own is =
    let others = pages_left laws.salvages chain.tiff.head.endian file chain.yielded
    (drop chain.yielded (read_chain chain.tiff.head file).offsets) in
    (own ++ others.0, (own, others.0, is, others.1, refl))

-- what is left of a file after a page that is gone through
module _ (file : List ℕ) (laws : KnowsFile file) (chain : ChainState) (page : Option SalvagePageState) (yielded : ℕ)
    (sound : IsYielded file (Some chain) page yielded) where
  abbrev chained : IsChainBefore file chain.yielded chain
  chained = sound.chain_is.0

  abbrev offsets : List ℕ
  offsets = (read_chain chain.tiff.head file).offsets

  abbrev Here : List SalvagedItem → Type 0
  Here items = AreLeftInFile file (Some chain) page items

  -- one item more is returned
  module _ (item : SalvageItem) (last : List Colour) (new : ChainState) (now : Option SalvagePageState)
      (on : (items : List SalvagedItem) → AreLeftInFile file (Some new) now items → Here (item_of item last
      ∷ items)) where
    handed_more : (items : List SalvagedItem) → AreLeftInFile file (Some new) now items
        → (done : List SalvagedItem) × (length done ≡ yielded + 1) × IsSalvaged file (done ++ items)
    handed_more items is =
        let done = sound.handed (item_of item last ∷ items) (on items is) in (
          done.0 ++ item_of item last ∷ [],
          length_push done.0 (item_of item last) ∙ ap (λ n. n + 1) done.1,
          rw (append_assoc done.0 (item_of item last ∷ []) items) done.2,
        )

    item_at : (rest : List SalvagedItem) → AreLeftInFile file (Some new) now rest → (items : List SalvagedItem)
        → IsSalvaged file items → slice_get items yielded ≡ Some (item_of item last)
    item_at rest is items salvaged =
        let done = sound.handed (item_of item last ∷ rest) (on rest is) in
        let same : items ≡ done.0 ++ item_of item last ∷ rest =
        laws.one.one items salvaged ∙ sym (laws.one.one (done.0 ++ item_of item last ∷ rest) done.2) in
        rw same (get_after done.0 (item_of item last) rest yielded done.1)

  module _ (ended : AreLeftOnPage page []) where
    -- no page is left
    pub all_handed : IsLastPassed chain → (items : List SalvagedItem) → IsSalvaged file items → length items ≡ yielded
    all_handed ends items is =
        let all : length offsets ≡ chain.yielded = rw chained.file_is at ends in
        let none : drop chain.yielded offsets ≡ [] = drop_all chain.yielded offsets (omega (arith, all)) in
        let later = subst (λ l. ArePagesLeft chain.tiff.head.endian file chain.yielded l []) (sym none) refl in
        let done = sound.handed [] ([], [], ended, later, refl) in
        let same : items ≡ done.0 =
        laws.one.one items is ∙ sym (laws.one.one (done.0 ++ []) done.2) ∙ append-nil done.0 in
        ap length same ∙ done.1

    -- what is left is that of whole pages
    pub between_pages : IsBetweenPages file yielded
    between_pages =
        let rest = pages_left laws.salvages chain.tiff.head.endian file chain.yielded (drop chain.yielded offsets) in
        let done = sound.handed rest.0 ([], rest.0, ended, rest.1, refl) in (
          chain.tiff.head,
          chain.yielded,
          chained.head,
          λ items is.
              let same : items ≡ done.0 ++ rest.0 = laws.one.one items is ∙ sym (laws.one.one (done.0 ++ rest.0) done.2)
              in
              let left : drop yielded items ≡ rest.0 =
              ap (λ n. drop n items) (sym done.1) ∙ ap (drop (length done.0)) same ∙ drop_front done.0 rest.0 in
              subst (ArePagesLeft chain.tiff.head.endian file chain.yielded (drop chain.yielded offsets)) (sym left)
              rest.1,
        )

    module _ (q : ℕ) (new : ChainState) (next : IsDirectoryNext chain q new) (few : chain.yielded < 2 ^ 32) where
      new_given : new.yielded ≡ chain.yielded + 1
      new_given = next.before.yielded

      new_before : IsChainBefore file new.yielded new
      new_before = rw (chained.file_is, ← new_given) at next.before

      -- the next page, and those after it
      upcoming_left : (fields : Result PageForm FileFault) → fields_of chain.tiff.head.endian chain.tiff.file q ≡ fields
          → (own later : List SalvagedItem) → IsPageLeftAs chain.tiff.head.endian file chain.yielded q fields own
          → ArePagesLeft new.tiff.head.endian file new.yielded
          (drop new.yielded (read_chain new.tiff.head file).offsets) later
          → Here (own ++ later)
      upcoming_left fields is own later remaining are =
          let at = dropped_at offsets chain.yielded q (rw chained.file_is at next.offset) in
          let fields_are : fields_of chain.tiff.head.endian file q ≡ fields = rw chained.file_is at is in
          let own_is =
          subst (λ f. IsPageLeftAs chain.tiff.head.endian file chain.yielded q f own) (sym fields_are) remaining in
          let later_are
          : ArePagesLeft chain.tiff.head.endian file (chain.yielded + 1) (drop (chain.yielded + 1) offsets) later =
          rw (next.tiff_is, new_given) at are in (
            [],
            own ++ later,
            ended,
            subst (λ l. ArePagesLeft chain.tiff.head.endian file chain.yielded l (own ++ later)) (sym at)
                (own, later, own_is, later_are, refl),
            refl,
          )

      -- it is refused
      module _ (fault : FileFault) (is : fields_of chain.tiff.head.endian chain.tiff.file q ≡ Err fault) where
        refused_on : (items : List SalvagedItem) → AreLeftInFile file (Some new) None items
            → Here (page_refused chain.yielded fault ∷ items)
        refused_on items (own, later, none, are, items_are) =
            let same : items ≡ later = items_are ∙ ap (λ (l : List SalvagedItem). l ++ later) none in
            rw same (upcoming_left (Err fault) is (page_refused chain.yielded fault ∷ []) later refl are)

        pub refused_in : IsYielded file (Some new) None (yielded + 1)
        refused_in = record {
          chain_is = (
            new_before,
            (
              let whole = few_whole chain page yielded sound.chain_is.1 in omega (arith, whole, new_given),
              omega (arith, new_given, few),
            ),
          );
          handed = handed_more (Item.Refused chain.yielded fault) [] new None refused_on;
        }

        pub refused_handed : (last : Option (List Colour)) (before after : Bool)
            → YieldsRemaining (record { file = file; yielded = yielded; last = last; whole = before })
            (Item.Refused chain.yielded fault)
            (record { file = file; yielded = yielded + 1; last = None; whole = after })
        refused_handed last before after =
            let rest = rest_left file laws new None [] refl in
            record {
              few = let whole = few_whole chain page yielded sound.chain_is.1 in omega (arith, whole, few);
              next = refl;
              same_file = refl;
              lends = λ place same. cc;
              item_is = item_at (Item.Refused chain.yielded fault) [] new None refused_on rest.0 rest.1;
            }

      -- it is entered
      module _ (form : PageForm) (its : SalvagePageState)
          (is : fields_of chain.tiff.head.endian chain.tiff.file q ≡ Ok form)
          (origin : IsPageStarted (directory_of chain.tiff q) form chain.yielded its) where
        entered_on : (items : List SalvagedItem) → AreLeftInFile file (Some new) (Some its) items → Here items
        entered_on items (own, later, on_page, are, items_are) =
            let all = origin.rows.all on_page.0 on_page.1 in
            let shown : with_waiting its (with_lost its.lost (page_items its.page (row_after its) on_page.0))
            ≡ page_items chain.yielded 0 on_page.0 =
            rw (origin.no_row, origin.none, origin.page_is, origin.rows.first) refl in
            let own_is : own ≡ page_items chain.yielded 0 (flat_map (λ rows. rows) all.0) =
            on_page.2 ∙ shown ∙ ap (page_items chain.yielded 0) all.2 in
            rw items_are
            (upcoming_left (Ok form) is own later (all.0, rw chained.file_is at all.1, own_is) are)

        pub entered_in : IsYielded file (Some new) (Some its) yielded
        entered_in = grind (arith, new_before, few_whole, new_given, entered_on)

-- an item of the page that is gone through
module _ (file : List ℕ) (laws : KnowsFile file) (yielded : ℕ) (chain : ChainState) (old new : SalvagePageState)
    (sound : IsYielded file (Some chain) (Some old) yielded) (item : SalvageItem) (gives : GivesOfPage old item new)
  where
    on : (items : List SalvagedItem) → AreLeftInFile file (Some chain) (Some new) items
        → AreLeftInFile file (Some chain) (Some old) (item_of item new.shown ∷ items)
    on items (own, others, is, are, items_are) = (
      item_of item new.shown ∷ own,
      others,
      gives.followed own is,
      are,
      ap (λ (l : List SalvagedItem). item_of item new.shown ∷ l) items_are,
    )

    in_file : IsYielded file (Some chain) (Some new) (yielded + 1)
    in_file = record {
      chain_is = (
        sound.chain_is.0,
        (omega (arith, sound.chain_is.1.0, gives.count), sound.chain_is.1.1, gives.few, sound.chain_is.1.3),
      );
      handed = handed_more file laws chain (Some old) yielded sound item new.shown chain (Some new) on;
    }

    hands_out : (last : Option (List Colour)) (whole now : Bool) → (own : List SalvagedItem) × IsLeftOnPage new own
        → YieldsRemaining (record { file = file; yielded = yielded; last = last; whole = whole }) item
        (record { file = file; yielded = yielded + 1; last = Some new.shown; whole = now })
    hands_out last whole now (own, is) =
        let rest = rest_left file laws chain (Some new) own is in
        record {
          few = let whole = few_whole chain (Some old) yielded sound.chain_is.1 in
              omega (arith, whole, sound.chain_is.1.3);
          next = refl;
          same_file = refl;
          lends = λ place same none. cc;
          item_is =
              item_at file laws chain (Some old) yielded sound item new.shown chain (Some new) on rest.0 rest.1;
        }

-- a file that is gone through
module _ (file : List ℕ) (laws : KnowsFile file) (yielded : ℕ) where
  -- an item is returned
  item_given : (now page : Option SalvagePageState) (chain : Option ChainState) (item : SalvageItem)
      (last : Option (List Colour)) (was whole : Bool) → IsInFile file chain page yielded whole
      → GivesItem page (Some item) now
      → YieldsRemaining (record { file = file; yielded = yielded; last = last; whole = was }) item
      (record { file = file; yielded = yielded + 1; last = shown_last now; whole = whole })
      × IsInFile file chain now (yielded + 1) whole
  item_given (Some new) (Some old) (Some chain) item last was whole sound (gives, remaining) = (
    hands_out file laws yielded chain old new sound.handed_out item gives last was whole remaining,
    record {
      handed_out = in_file file laws yielded chain old new sound.handed_out item gives;
      whole_is = λ is. rw (gives.page_is, gives.stays.0, gives.stays.1) (sound.whole_is is);
    },
  )
  item_given now (Some old) None item last was whole sound gives = let none = sound.handed_out.chain_is.1 in cc
  item_given now page chain item last was whole sound gives = absurd gives

  -- the page is left, and nothing of it is lost
  whole_left : (old new : SalvagePageState) (chain : ChainState) → EndsOnPage old new → new.rows.clean ≡ true
      → IsWhollyRead file (Some chain) (Some old) → IsWhollyRead file (Some chain) None
  whole_left old new chain ends clean (before, yielded, file_is, limits, here) =
      let strips = rw (ends.stays.0, ends.stays.1) at (ends.whole clean) in
      let led =
      page_led laws.by_place laws.lines_read old.rows.directory old.rows.form old.page limits (rw file_is here) strips
      in
      let lead = subst (λ (f : List ℕ). LeadTo (IsRow f) (first_at old.page 0) led.0 (first_at (old.page + 1) 0))
      file_is led.1 in
      rw yielded (
        before.0 ++ led.0,
        leads_both (IsRow file) (first_at 0 0) (first_at old.page 0) before.0 led.0 (first_at (old.page + 1) 0) before.1
            lead,
      )

  page_left : (now page : Option SalvagePageState) (chain : Option ChainState) (whole clean : Bool)
      → IsInFile file chain page yielded whole → GivesItem page None now → clean ≡ was_clean now
      → IsInFile file chain None yielded (whole && clean)
  page_left None None chain whole clean sound ends is_clean = grind arith
  page_left (Some new) (Some old) (Some chain) whole clean sound ends is_clean = record {
    handed_out = record {
      chain_is = (
        sound.handed_out.chain_is.0,
        (few_whole chain (Some old) yielded sound.handed_out.chain_is.1, sound.handed_out.chain_is.1.3),
      );
      handed = λ items (own, others, is, are, items_are). sound.handed_out.handed items
          ([], others, ends.ended, are, items_are ∙ ap (λ (l : List SalvagedItem). l ++ others) is);
    };
    whole_is = λ both. let parts : (whole ≡ true) × (clean ≡ true) = grind arith in
        whole_left old new chain ends (sym is_clean ∙ parts.1) (sound.whole_is parts.0);
  }
  page_left now (Some old) None whole clean sound ends is_clean = let none = sound.handed_out.chain_is.1 in cc
  page_left now page chain whole clean sound ends is_clean = absurd ends

-- a file is gone through, from where contracts saw it
pub record IsSalvaging (old : SalvageView) (file : List ℕ) (chain : Option ChainState) (page : Option SalvagePageState)
    (yielded : ℕ) (whole : Bool) : Type 0 where
  pub laws : KnowsFile file
  pub same_file : file ≡ old.file
  pub same_given : yielded ≡ old.yielded
  pub sound : IsInFile file chain page yielded whole

moved : (old : SalvageView) (file : List ℕ) (yielded : ℕ) (item : SalvageItem) (new : SalvageView) → file ≡ old.file
    → yielded ≡ old.yielded → YieldsRemaining (record old { file = file; yielded = yielded }) item new
    → YieldsRemaining old item new
moved old file yielded item new same_file same_given h = rw (same_file, same_given) at h

module _ {old : SalvageView} {file : List ℕ} {chain : Option ChainState} {page : Option SalvagePageState} {yielded : ℕ}
    {whole : Bool} (is : IsSalvaging old file chain page yielded whole) (now : Option SalvagePageState) where
  -- an item is returned
  pub item_in_file : (item : SalvageItem) → GivesItem page (Some item) now → IsInFile file chain now (yielded + 1) whole
  item_in_file item gives = (item_given file is.laws yielded now page chain item None true whole is.sound gives).1

  pub item_handed : (item : SalvageItem) → GivesItem page (Some item) now
      → YieldsRemaining old item (record { file = file; yielded = yielded + 1; last = shown_last now; whole = whole })
  item_handed item gives = moved old file yielded item _ is.same_file is.same_given
      (item_given file is.laws yielded now page chain item old.last old.whole whole is.sound gives).0

  -- the page is left
  pub left_in_file : (clean : Bool) → GivesItem page None now → clean ≡ was_clean now
      → IsSalvaging old file chain None yielded (whole && clean)
  left_in_file clean ends is_clean = record {
    laws = is.laws;
    same_file = is.same_file;
    same_given = is.same_given;
    sound = page_left file is.laws yielded now page chain whole clean is.sound ends is_clean;
  }

-- a page of it was left, and the chain stands after it
module _ {old : SalvageView} {file : List ℕ} {chain : ChainState} {yielded : ℕ} {whole : Bool}
    (is : IsSalvaging old file (Some chain) None yielded whole) where
  -- the next page is entered
  pub entered_in_file : (its : SalvagePageState) (new : ChainState) → IsNextPage chain (Entered its new)
      → chain.yielded < 2 ^ 32 → IsSalvaging old file (Some new) (Some its) yielded whole
  entered_in_file its new (q, form, next, fields, limits, origin, here) few = record {
    laws = is.laws;
    same_file = is.same_file;
    same_given = is.same_given;
    sound = record {
      handed_out =
          entered_in file is.laws chain None yielded is.sound.handed_out refl q new next few form its fields origin;
      whole_is = λ whole. rw (origin.page_is, origin.rows.directory_is, origin.rows.form_is) (
        is.sound.whole_is whole,
        next.before.yielded,
        is.sound.handed_out.chain_is.0.file_is,
        limits,
        rw is.sound.handed_out.chain_is.0.file_is at here,
      );
    };
  }

  -- none is left
  none_left : IsLastPassed chain → (items : List SalvagedItem) → IsSalvaged old.file items → length items ≡ old.yielded
  none_left last = rw (is.same_file, is.same_given) at
      (all_handed file is.laws chain None yielded is.sound.handed_out refl last)

  -- memory is refused for the next page
  pub refused_memory : IsBetweenPages old.file old.yielded
  refused_memory = rw (is.same_file, is.same_given) at
      (between_pages file is.laws chain None yielded is.sound.handed_out refl)

  pub ends_there : IsNextPage chain Ends
      → IsNextLeft old (Ok None) (record { file = file; yielded = yielded; last = None; whole = whole })
  ends_there ends = grind (arith, none_left, ended_at)

  pub broken_there : IsNextPage chain Broken
      → IsNextLeft old (Ok None) (record { file = file; yielded = yielded; last = None; whole = false })
  broken_there last = (none_left last, is.same_file, is.same_given, λ all. cc)

  pub broken_in_file : IsInFile file (Some chain) None yielded false
  broken_in_file = record { handed_out = is.sound.handed_out; whole_is = λ all. cc }

  module _ (fault : FileFault) (new : ChainState) (next : IsNextPage chain (Refused fault new))
      (few : chain.yielded < 2 ^ 32) where
    pub refused_in_file : IsInFile file (Some new) None (yielded + 1) false
    refused_in_file = record {
      handed_out =
          refused_in file is.laws chain None yielded is.sound.handed_out refl next.0 new next.1 few fault next.2;
      whole_is = λ all. cc;
    }

    pub refused_there : YieldsRemaining old (Item.Refused chain.yielded fault)
        (record { file = file; yielded = yielded + 1; last = None; whole = false })
    refused_there = moved old file yielded _ _ is.same_file is.same_given (refused_handed file is.laws chain None
        yielded
        is.sound.handed_out refl next.0 new next.1 few fault next.2 old.last old.whole false)
