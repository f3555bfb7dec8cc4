-- A search that goes along with a reader of a chain.
use Rattle.std.proofs.Common.{◌≡◌, ◌≢◌, ℕ, zero, suc, ◌+◌, ◌-◌, ◌*◌, ◌/◌, ◌%◌, ◌<◌, ◌≤◌, inl, inr, true, false}
use Rattle.std.proofs.Common.{length, Option, Some}
use Rattle.std.proofs.Common.{None, sym, ap, ◌∙◌, arith}
use Rattle.std.proofs.lemmas.Bool.Decides.{nat_tests}
use Rattle.fax_files.specs.declared.FileFault.{FileFault}
use Rattle.fax_files.specs.declared.FileFault.TheVariants.{DirectoryLoop}
use Rattle.fax_files.specs.declared.chain.Search.{Search}
use Rattle.fax_files.specs.declared.chain.Search.TheVariants.{Running, Known}
use Rattle.fax_files.specs.views.Tiff.{TiffFile}
use Rattle.fax_files.specs.views.Chain.{chain_of}
use Rattle.fax_files.specs.code.Chain.{next_of, offset, LeadsOn, cycle_start_of, turning_page, IsSearch}
use Rattle.fax_files.specs.code.Chain.{is_cycle_start}
use Rattle.fax_files.proofs.LoopLemmas.{along_places, leads, stops, the_places, no_turning_page}

module _ (tiff : TiffFile) where
  -- so many rounds on, a place has the same offset
  rounds : (j p i m : ℕ) → offset tiff (j + p) ≡ offset tiff j → j ≤ i → offset tiff (i + m * p) ≡ offset tiff i
  rounds j p i zero back from = let n : i + zero * p ≡ i = omega arith in ap (offset tiff) n
  rounds j p i (suc m) back from =
      let one : offset tiff (i + suc m * p) ≡ offset tiff (i + m * p) =
      along_places tiff (j + p) j (i + m * p - j) (i + suc m * p) (i + m * p) (omega arith) (omega arith) back in
      one ∙ rounds j p i m back from

  -- a chain that turns back has a place that is met again after as many steps, at its end at the
  -- latest
  pub met : (chain_of tiff).end ≡ Some DirectoryLoop
      → (k : ℕ) × (0 < k) × (k ≤ length (chain_of tiff).offsets) × (offset tiff k ≡ offset tiff (k + k))
  met loop = elim (the_places tiff).ends [
    | inl e ↦ absurd (cc (e.1, loop))
    | inr (inl e) ↦ absurd (cc (e.2, loop))
    | inr (inr (j, earlier, again, is_loop)) ↦
        let n = length (chain_of tiff).offsets in
        let p = n - j in
        let some : 0 < p = omega arith in
        let m = j / p + 1 in
        let count : p * (j / p) + j % p ≡ j = omega arith in
        let low : j % p < p = omega arith in
        let whole : m * p ≡ p * (j / p) + p = omega arith in
        let split : j + p ≡ n = omega arith in
        let back : offset tiff (j + p) ≡ offset tiff j = ap (offset tiff) split ∙ again in
        (m * p, omega arith, omega arith, sym (rounds j p (m * p) m back (omega arith)))
  ]

  turning : (end : Option FileFault) (pages yielded : ℕ) → Some yielded ≡ turning_page end pages
      → (end ≡ Some DirectoryLoop) × (yielded ≡ pages)
  turning end pages yielded e = grind arith

  -- while a search runs, the chain does not turn back at the reader's place
  pub running : (yielded fast : ℕ) → IsSearch tiff yielded (Running fast) → cycle_start_of tiff ≢ Some yielded
  running yielded fast search = λ here.
      let p = turning (chain_of tiff).end (length (chain_of tiff).offsets) yielded (sym here) in
      let found = met p.0 in
      search.2 found.0 found.1 (omega (arith, found.2, p.1)) found.3

  pub turned_here : (search : Search) (yielded : ℕ) → IsSearch tiff yielded search → is_cycle_start search yielded
      ≡ true
      → cycle_start_of tiff ≡ Some yielded
  turned_here (Running fast) yielded is e = absurd cc
  turned_here (Known None) yielded is e = absurd cc
  turned_here (Known (Some turn)) yielded is e = let same : turn ≡ yielded = grind (arith, nat_tests) in
      sym is ∙ ap (λ (n : ℕ). Some n) same

  pub not_here : (search : Search) (yielded : ℕ) → IsSearch tiff yielded search → is_cycle_start search yielded ≡ false
      → cycle_start_of tiff ≢ Some yielded
  not_here (Running fast) yielded is e = running yielded fast is
  not_here (Known None) yielded is e = λ same. cc
  not_here (Known (Some turn)) yielded is e = λ same.
      let equal : turn ≡ yielded = cc in absurd (grind (arith, nat_tests))

  -- A step of the search.
  module _ (yielded fast between : ℕ) (search : IsSearch tiff yielded (Running fast))
      (first : next_of tiff.head.endian tiff.file fast ≡ Some between) where
    first_lead : (between ≡ offset tiff (yielded + yielded + 1)) × LeadsOn tiff (yielded + yielded)
    first_lead = leads tiff (yielded + yielded) between (rw search.0 at first)

    pub stopped : next_of tiff.head.endian tiff.file between ≡ None → None ≡ cycle_start_of tiff
    stopped none = no_turning_page tiff (stops tiff (yielded + yielded + 1) (rw first_lead.0 at none))

    module _ (next : ℕ) (second : next_of tiff.head.endian tiff.file between ≡ Some next) where
      second_lead : (next ≡ offset tiff (yielded + yielded + 1 + 1)) × LeadsOn tiff (yielded + yielded + 1)
      second_lead = leads tiff (yielded + yielded + 1) next (rw first_lead.0 at second)

      pub next_is : next ≡ offset tiff (yielded + 1 + (yielded + 1))
      next_is = let n : yielded + yielded + 1 + 1 ≡ yielded + 1 + (yielded + 1) = omega arith in
          second_lead.0 ∙ ap (offset tiff) n

      pub on_two : (i : ℕ) → i < yielded + 1 + (yielded + 1) → LeadsOn tiff i
      on_two i h = grind (arith, second_lead, first_lead)

      pub still_running : next ≢ offset tiff (yielded + 1) → IsSearch tiff (yielded + 1) (Running next)
      still_running differs = grind (arith, on_two)

  pub stopped_first : (yielded fast : ℕ) → IsSearch tiff yielded (Running fast)
      → next_of tiff.head.endian tiff.file fast ≡ None
      → None ≡ cycle_start_of tiff
  stopped_first yielded fast search none = no_turning_page tiff (stops tiff (yielded + yielded) (rw search.0 at none))
