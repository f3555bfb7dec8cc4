-- Groups of white rows of a strip, which are put again.
use Rattle.std.proofs.Common.{◌≡◌, ℕ, suc, ◌+◌, ◌*◌, ◌/◌, ◌%◌, List, [], ◌∷◌, ◌++◌, length, replicate, Bool, false}
use Rattle.std.proofs.Common.{if◌then◌else◌, nat_eq, refl, sym, ap, ◌∙◌, subst, arith, add-one, length-append}
use Rattle.std.proofs.Math.Nat.{suc-mod, mod-add-div, add-mul-mod_self_left}
use Rattle.std.proofs.lemmas.List.{replicate-append-replicate, length-replicate}
use Rattle.fax_bits.specs.declared.Colour.{Colour}
use Rattle.fax_bits.specs.views.Sink.{Sink, Appends}
use Rattle.fax_page.specs.declared.Coding.{Coding}
use Rattle.fax_page.specs.declared.Coding.TheVariants.{Mh, Mr, Mmr}
use Rattle.fax_page.specs.declared.Dimension.{Dimension}
use Rattle.fax_page.specs.declared.Dimension.TheVariants.{OneDimensional, TwoDimensional}
use Rattle.fax_page.specs.declared.StripForm.{StripForm}
use Rattle.fax_page.specs.Lines.{white_row}
use Rattle.fax_page.specs.Strip.{coded_line, coded_lines, fill_zeros, start_bits, written_dimension}
use Rattle.fax_page.specs.views.Writer.{last_of}
use Rattle.fax_page.proofs.WriterLemmas.{appended, lines_more}
use Rattle.fax_page.proofs.WhiteLineLemmas.{last_white}

-- in MR the rows are as far after a multiple of k
abbrev pub AreAtOnePlace : Coding → ℕ → ℕ → ℕ → Type 0
AreAtOnePlace coding k i j = coding ≡ Mr → i % k ≡ j % k

-- then so are the next ones
next_at_one_place : (coding : Coding) (k i j : ℕ) → AreAtOnePlace coding k i j → AreAtOnePlace coding k (i + 1) (j + 1)
next_at_one_place coding k i j same is =
    ap (λ n. n % k) (add-one i) ∙ suc-mod i k ∙ ap (λ n. suc n % k) (same is) ∙ sym (suc-mod j k)
    ∙ ap (λ n. n % k) (sym (add-one j))

-- and are coded alike, wherever they stand
same_dimension : (coding : Coding) (k i j : ℕ) → AreAtOnePlace coding k i j
    → written_dimension coding k i ≡ written_dimension coding k j
same_dimension Mh k i j same = refl
same_dimension Mr k i j same = ap (λ n. if nat_eq n 0 then OneDimensional else TwoDimensional) (same refl)
same_dimension Mmr k i j same = refl

same_start : (coding : Coding) (before after : ℕ) (dimension : Dimension)
    → start_bits coding false before dimension ≡ start_bits coding false after dimension
unfolding fill_zeros
same_start Mh before after dimension = refl
same_start Mr before after dimension = refl
same_start Mmr before after dimension = refl

module _ (form : StripForm) (k : ℕ) where
  same_line : form.aligned ≡ false → (before after i j : ℕ) (reference row : List Colour)
      → AreAtOnePlace form.coding k i j
      → coded_line form k before i reference row ≡ coded_line form k after j reference row
  unfolding coded_line
  same_line plain before after i j reference row same =
      rw (
        plain,
        same_dimension form.coding k i j same,
        same_start form.coding before after (written_dimension form.coding k j),
      ) refl

  same_lines : form.aligned ≡ false → (before after i j : ℕ) (reference : List Colour) (rows : List (List Colour))
      → AreAtOnePlace form.coding k i j
      → coded_lines form k before i reference rows ≡ coded_lines form k after j reference rows
  unfolding coded_lines
  same_lines plain before after i j reference [] same = refl
  same_lines plain before after i j reference (row ∷ rows) same =
      let line = coded_line form k before i reference row in
      let other = coded_line form k after j reference row in
      ap (λ (b : List Bool). b ++ coded_lines form k (before + length line) (i + 1) row rows)
      (same_line plain before after i j reference row same)
      ∙ ap (λ (b : List Bool). other ++ b)
      (same_lines plain (before + length line) (after + length other) (i + 1) (j + 1) row rows
      (next_at_one_place form.coding k i j same))

  abbrev white : List Colour
  white = white_row form.width

  -- white rows that are put after others
  pub white_after : (i a b m : ℕ) (first old new : Sink)
      → Appends first (coded_lines form k (length first.bits) i white (replicate a white)) old
      → Appends old (coded_lines form k (length old.bits) (i + a) white (replicate b white)) new → a + b ≡ m
      → Appends first (coded_lines form k (length first.bits) i white (replicate m white)) new
  white_after i a b m first old new before put all =
      let rows = replicate a white in
      let lines = coded_lines form k (length first.bits) i white rows in
      let place : length old.bits ≡ length first.bits + length lines =
      ap (λ (s : Sink). length s.bits) before ∙ length-append first.bits lines in
      let more = coded_lines form k (length first.bits + length lines) (i + length rows) (last_of white rows)
      (replicate b white) in
      let more_is : coded_lines form k (length old.bits) (i + a) white (replicate b white) ≡ more =
      rw (length-replicate a white, last_white form k a, place) refl in
      let all_is : lines ++ more ≡ coded_lines form k (length first.bits) i white (replicate m white) =
      sym (lines_more form k (length first.bits) i white rows (replicate b white))
      ∙ ap (coded_lines form k (length first.bits) i white)
      (replicate-append-replicate a b white ∙ ap (λ n. replicate n white) all) in
      subst (λ bits. Appends first bits new) all_is
      (appended first old new lines more before (subst (λ bits. Appends old bits new) more_is put))

  -- a row after groups is as far after a multiple of k as the first
  after_groups : (rows i n : ℕ) → (form.coding ≡ Mr → rows % k ≡ 0) → AreAtOnePlace form.coding k i (i + n * rows)
  after_groups rows i n whole is =
      let rows_are : rows ≡ k * (rows / k) = omega (arith, mod-add-div rows k, whole is) in
      let sum : i + k * (n * (rows / k)) ≡ i + n * rows = omega (arith, ap (λ m. n * m) rows_are) in
      sym (add-mul-mod_self_left i k (n * (rows / k))) ∙ ap (λ m. m % k) sum

  -- a group that is put once more
  pub group_more : form.aligned ≡ false → (rows i n : ℕ) (group : List Bool) (first old new : Sink)
      → (form.coding ≡ Mr → rows % k ≡ 0)
      → group ≡ coded_lines form k 0 i white (replicate rows white)
      → Appends first (coded_lines form k (length first.bits) i white (replicate (n * rows) white)) old
      → Appends old group new
      → Appends first (coded_lines form k (length first.bits) i white (replicate ((n + 1) * rows) white)) new
  group_more plain rows i n group first old new whole group_is before put =
      let here : group ≡ coded_lines form k (length old.bits) (i + n * rows) white (replicate rows white) =
      group_is
      ∙ same_lines plain 0 (length old.bits) i (i + n * rows) white (replicate rows white)
      (after_groups rows i n whole) in
      white_after i (n * rows) rows ((n + 1) * rows) first old new before
      (subst (λ bits. Appends old bits new) here put)
      (omega arith)
