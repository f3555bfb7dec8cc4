-- Where a chain turns back.
use Rattle.std.proofs.Common.{◌≡◌, ℕ, zero, suc, ◌+◌, ◌-◌, ◌^◌, ◌<◌, ◌≤◌, ◌≢◌, inl, inr, true, false}
use Rattle.std.proofs.Common.{length, Option, Some}
use Rattle.std.proofs.Common.{None, refl, sym, ap, ◌∙◌, arith}
use Rattle.std.specs.Prelude.{◌==◌}
use Rattle.std.proofs.lemmas.Bool.{cases_lt}
use Rattle.fax_files.specs.declared.FileFault.{FileFault}
use Rattle.fax_files.specs.declared.FileFault.TheVariants.{DirectoryLoop}
use Rattle.fax_files.specs.Directory.{is_directory, next_offset}
use Rattle.fax_files.specs.views.Tiff.{TiffFile}
use Rattle.fax_files.specs.code.Chain.{next_of, offset, LeadsOn, IsRound, IsTurn, HasNoLoop, HasFewPages}
use Rattle.fax_files.specs.code.Chain.{cycle_start_of}
use Rattle.fax_files.specs.code.Chain.{turning_page}
use Rattle.fax_files.specs.views.Chain.{chain_of}
use Rattle.fax_files.proofs.ChainLaws.{has_one_chain}
use Rattle.fax_files.proofs.ChainPlaces.{IsByPlaces, by_places, along, link_next, onward_on}

module _ (tiff : TiffFile) where
  -- the next offset, one place on
  pub place_next : (i : ℕ) → offset tiff (i + 1) ≡ next_offset tiff.head.endian tiff.file (offset tiff i)
  place_next i = grind (arith, link_next)

  pub along_places : (i j k a b : ℕ) → a ≡ i + k → b ≡ j + k → offset tiff i ≡ offset tiff j → offset tiff a
      ≡ offset tiff b
  along_places = along tiff.head.endian tiff.file tiff.head.first

  -- what is known where a place leads on
  pub led : (i x : ℕ) → next_of tiff.head.endian tiff.file (offset tiff i) ≡ Some x
      → ((offset tiff i == 0) ≡ false) × (is_directory tiff.head.endian tiff.file (offset tiff i) ≡ true)
      × (next_offset tiff.head.endian tiff.file (offset tiff i) ≡ x)
  led i x e = grind arith

  -- a place leads on to the next one
  pub leads : (i x : ℕ) → next_of tiff.head.endian tiff.file (offset tiff i) ≡ Some x
      → (x ≡ offset tiff (i + 1)) × LeadsOn tiff i
  leads i x e = grind (arith, place_next)

  alike : (i j : ℕ) → offset tiff i ≡ offset tiff j → LeadsOn tiff j
      → (x : ℕ) × (next_of tiff.head.endian tiff.file (offset tiff i) ≡ Some x)
  alike i j same on = (offset tiff (j + 1), ap (next_of tiff.head.endian tiff.file) same ∙ on)

  pub leads_alike : (i j : ℕ) → offset tiff i ≡ offset tiff j → LeadsOn tiff j → LeadsOn tiff i
  leads_alike i j same on = let p = alike i j same on in (leads i p.0 p.1).1

  -- every place of a chain with a round leads on
  always_by : (start len : ℕ) → IsRound tiff start len → (fuel i : ℕ) → i ≤ fuel → LeadsOn tiff i
  always_by start len round zero i within = round.on i (omega (arith, round.some))
  always_by start len round (suc fuel) i within = elim (cases_lt i (start + len)) [
    | inl early ↦ round.on i early
    | inr late ↦
        let same : offset tiff i ≡ offset tiff (i - len) =
        along_places (start + len) start (i - (start + len)) i (i - len) (omega arith) (omega arith) round.back in
        leads_alike i (i - len) same (always_by start len round fuel (i - len) (omega (arith, round.some)))
  ]

  pub always : (start len : ℕ) → IsRound tiff start len → (i : ℕ) → LeadsOn tiff i
  always start len round i = always_by start len round i i (omega arith)

  abbrev n : ℕ
  n = length (chain_of tiff).offsets

  pub the_places : IsByPlaces tiff.head.endian tiff.file tiff.head.first (chain_of tiff).offsets (chain_of tiff).end
  the_places = by_places tiff.head.endian tiff.file tiff.head.first (chain_of tiff).offsets (chain_of tiff).end
      (has_one_chain tiff.head tiff.file).is

  pub before_end : (i : ℕ) → i < n → LeadsOn tiff i
  before_end i h =
      let p = the_places.on i h in
      (leads i (next_offset tiff.head.endian tiff.file (offset tiff i))
      (onward_on tiff.head.endian tiff.file p.0 (offset tiff i) p.1)).1

  abbrev Turns : Type 0
  Turns = (j : ℕ) × (j < n) × (offset tiff n ≡ offset tiff j) × ((chain_of tiff).end ≡ Some DirectoryLoop)

  -- a chain whose end leads on turns back there
  pub turns : LeadsOn tiff n → Turns
  turns on = grind (arith, the_places)

  module _ (j : ℕ) (earlier : j < n) (back : offset tiff n ≡ offset tiff j) where
    -- each place on the loop has the offset of one of the chain
    pub canonical : (i : ℕ) → j ≤ i → (k : ℕ) × (j ≤ k) × (k < n) × (offset tiff i ≡ offset tiff k)
    canonical zero h = let none : j ≡ 0 = omega arith in (0, omega arith, omega arith, refl)
    canonical (suc i) h = elim (cases_lt i j) [
      | inl low ↦ let same : suc i ≡ j = omega arith in (j, omega arith, earlier, ap (offset tiff) same)
      | inr high ↦
          let before = canonical i high in
          let k = before.0 in
          let moved : offset tiff (suc i) ≡ offset tiff (k + 1) = along_places i k 1 (suc i) (k + 1) (omega arith) refl
          before.3 in
          let _kept = before.1 in
          let below : k < n = before.2 in
          elim (cases_lt (k + 1) n) [
            | inl inside ↦ (k + 1, omega (arith, before.1), inside, moved)
            | inr outside ↦ let whole : k + 1 ≡ n = omega arith in
                (j, omega arith, earlier, moved ∙ ap (offset tiff) whole ∙ back)
          ]
    ]

    leads_everywhere : (i : ℕ) → LeadsOn tiff i
    leads_everywhere i = elim (cases_lt i j) [
      | inl low ↦ before_end i (omega (arith, earlier))
      | inr high ↦ let p = canonical i high in leads_alike i p.0 p.3 (before_end p.0 p.2)
    ]

  -- a chain that stops does not turn back
  pub stops : (t : ℕ) → next_of tiff.head.endian tiff.file (offset tiff t) ≡ None → HasNoLoop tiff
  stops t none = λ loop. elim the_places.ends [
    | inl e ↦ cc (e.1, loop)
    | inr (inl e) ↦ cc (e.2, loop)
    | inr (inr e) ↦ cc (leads_everywhere e.0 e.1 e.2 t, none)
  ]

  module _ (start len page : ℕ) (round : IsRound tiff start len) (turn : IsTurn tiff len page) where
    some : 0 < len
    some = round.some

    the_turn : Turns
    the_turn = turns (always start len round n)

    -- the round is on the loop
    on_loop : the_turn.0 ≤ start
    on_loop =
        let j = the_turn.0 in
        let earlier : j < n = the_turn.1 in
        elim (cases_lt start j) [
          | inl low ↦ elim (cases_lt (start + len) n) [
            | inl inside ↦ absurd (the_places.apart start (start + len) (omega (arith, some)) inside (sym round.back))
            | inr outside ↦
                let p = canonical j earlier the_turn.2 (start + len) (omega arith) in
                absurd (the_places.apart start p.0 (omega (arith, p.1)) p.2 (sym round.back ∙ p.3))
          ]
          | inr high ↦ high
        ]

    -- its length is the loop's
    length_is : len ≡ n - the_turn.0
    length_is =
        let j = the_turn.0 in
        let earlier : j < n = the_turn.1 in
        let reached : j ≤ start = on_loop in
        let around : offset tiff (start + (n - j)) ≡ offset tiff start =
        along_places n j (start - j) (start + (n - j)) start (omega arith) (omega arith) the_turn.2 in
        let at_most : len ≤ n - j = elim (cases_lt (n - j) len) [
          | inl fewer ↦ absurd (round.first (n - j) (omega arith) fewer around)
          | inr more ↦ more
        ] in
        let p = canonical j earlier the_turn.2 start reached in
        let k = p.0 in
        let low : j ≤ k = p.1 in
        let high : k < n = p.2 in
        let moved : offset tiff (k + len) ≡ offset tiff k =
        sym (along_places start k len (start + len) (k + len) refl refl p.3) ∙ round.back ∙ p.3 in
        elim (cases_lt len (n - j)) [
          | inl fewer ↦ elim (cases_lt (k + len) n) [
            | inl inside ↦ absurd (the_places.apart k (k + len) (omega (arith, some)) inside (sym moved))
            | inr outside ↦
                let wrapped : offset tiff (k + len) ≡ offset tiff (k + len - (n - j)) =
                along_places n j (k + len - n) (k + len) (k + len - (n - j)) (omega arith) (omega arith) the_turn.2 in
                absurd (the_places.apart (k + len - (n - j)) k (omega arith) high (sym wrapped ∙ moved))
          ]
          | inr more ↦ omega arith
        ]

    page_is : page ≡ the_turn.0
    page_is = grind (arith, length_is, the_places)

    pub turning : ((chain_of tiff).end ≡ Some DirectoryLoop) × (page + len ≡ n)
    turning = grind (arith, length_is, page_is)

  pub is_turning_page : (start len page : ℕ) → IsRound tiff start len → IsTurn tiff len page
      → Some (page + len) ≡ cycle_start_of tiff
  is_turning_page start len page round turn =
      let p = turning start len page round turn in rw (p.0, p.1) refl

  not_turning : (end : Option FileFault) (pages : ℕ) → end ≢ Some DirectoryLoop → None ≡ turning_page end pages
  not_turning end pages h = grind arith

  pub no_turning_page : HasNoLoop tiff → None ≡ cycle_start_of tiff
  no_turning_page none = not_turning (chain_of tiff).end n none

  pub turning_below : HasFewPages tiff → (start len page : ℕ) → IsRound tiff start len → IsTurn tiff len page
      → page + len < 2 ^ 32
  turning_below few start len page round turn =
      let p = turning start len page round turn in
      let count : n < 2 ^ 32 = few in
      omega (arith, p.1)
