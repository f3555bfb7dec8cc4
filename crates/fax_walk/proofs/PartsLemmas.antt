-- Bytes with gaps of zeros between those that are held.
use Rattle.std.proofs.lemmas.Grind.{common_steps}
use Rattle.std.proofs.Common.{◌≡◌, ℕ, zero, suc, ◌+◌, ◌-◌, ◌^◌, ◌<◌, ◌≤◌, List, [], ◌∷◌, ◌++◌, length, drop, set}
use Rattle.std.proofs.Common.{replicate, get_or, refl, ap, arith, append_assoc, append-nil, length-append}
use Rattle.std.proofs.Common.{length-drop, ◌*◌, ◌∙◌}
use Rattle.std.specs.Prelude.{decimal, Result, OnOk, OnErr, ⊤, flat_map}
use Rattle.fax_rows.specs.Coded.{packed_len, packed_row}
use Rattle.fax_rows.specs.laws.Rows.{WhiteRowsAreWritten}
use Rattle.fax_page.specs.Lines.{white_row}
use Rattle.std.proofs.lemmas.List.{replicate-append-replicate, drop-append-le, drop_all}
use Rattle.fax_walk.specs.declared.parts.ZeroRun.{ZeroRun}
use Rattle.std.proofs.lemmas.Fmt.{length-decimal-le}
use Rattle.fax_files.specs.Directory.{max_file}
use Rattle.fax_files.specs.views.Pbm.{head_bytes}
use Rattle.fax_walk.specs.code.SparseBytes.{spread, AreGaps, AreParts, zeros_of}

pub spread_length : (gaps : List ZeroRun) (held : List ℕ) (placed : ℕ) → AreGaps gaps held placed
    → length (spread gaps held) ≡ length held + zeros_of gaps
spread_length [] held placed are = omega arith
spread_length (gap ∷ gaps) held placed are =
    grind (arith, common_steps, spread_length gaps (drop gap.held held) are.2.0 are.2.2)

-- a gap has no more zeros than all gaps
pub zeros_at : (gaps : List ZeroRun) (i : ℕ) (gap : ZeroRun) → gap ≡ get_or gaps i gap → i < length gaps
    → gap.zeros ≤ zeros_of gaps
zeros_at [] i gap is there = absurd (omega (arith, there))
zeros_at (first ∷ gaps) zero gap is there = omega (arith, ap (λ (g : ZeroRun). g.zeros) is)
zeros_at (first ∷ gaps) (suc i) gap is there = omega (arith, zeros_at gaps i gap is (omega (arith, there)))

-- no bytes before the last gap are more than those that are held
pub placed_within : (gaps : List ZeroRun) (held : List ℕ) (placed : ℕ) → AreGaps gaps held placed → placed ≤ length held
placed_within [] held placed are = omega arith
placed_within (gap ∷ gaps) held placed are =
    grind (arith, common_steps, placed_within gaps (drop gap.held held) are.2.0 are.2.2)

-- where no held bytes stand after the last gap of some bytes, there is one
some_gaps : (gaps : List ZeroRun) (held : List ℕ) (placed : ℕ) → AreGaps gaps held placed
    → 1 ≤ length (spread gaps held)
    → length held - placed ≡ 0 → 1 ≤ length gaps
some_gaps [] held placed are some none = absurd (omega (arith, are, some, none))
some_gaps (gap ∷ gaps) held placed are some none = omega arith

-- more bytes are held
pub spread_more : (gaps : List ZeroRun) (held more : List ℕ) (placed : ℕ) → AreGaps gaps held placed
    → spread gaps (held ++ more) ≡ spread gaps held ++ more
spread_more [] held more placed are = refl
spread_more (gap ∷ gaps) held more placed are =
    grind (arith, common_steps, spread_more gaps (drop gap.held held) more are.2.0 are.2.2)

pub gaps_more : (gaps : List ZeroRun) (held more : List ℕ) (placed : ℕ) → AreGaps gaps held placed
    → AreGaps gaps (held ++ more) placed
gaps_more [] held more placed are = are
gaps_more (gap ∷ gaps) held more placed are =
    grind (arith, gaps_more gaps (drop gap.held held) more are.2.0 are.2.2, drop-append-le, length-append)

-- a gap after all bytes
module _ (gap : ZeroRun) where
  pub spread_gap : (gaps : List ZeroRun) (held : List ℕ) (placed : ℕ) → AreGaps gaps held placed
      → gap.held + placed ≡ length held
      → spread (gaps ++ gap ∷ []) held ≡ spread gaps held ++ replicate gap.zeros 0
  spread_gap [] held placed are all = grind (arith, common_steps)
  spread_gap (first ∷ gaps) held placed are all =
      let rest : gap.held + are.2.0 ≡ length (drop first.held held) =
      omega (arith, all, are.1, are.2.1, length-drop first.held held) in
      grind (arith, common_steps, spread_gap gaps (drop first.held held) are.2.0 are.2.2 rest)

  pub gaps_gap : (gaps : List ZeroRun) (held : List ℕ) (placed : ℕ) → AreGaps gaps held placed
      → gap.held + placed ≡ length held
      → 1 ≤ gap.held → AreGaps (gaps ++ gap ∷ []) held (placed + gap.held)
  gaps_gap [] held placed are all some = (some, omega (arith, all), (0, omega (arith, are), refl))
  gaps_gap (first ∷ gaps) held placed are all some =
      let rest : gap.held + are.2.0 ≡ length (drop first.held held) =
      omega (arith, all, are.1, are.2.1, length-drop first.held held) in
      let others = gaps_gap gaps (drop first.held held) are.2.0 are.2.2 rest some in
      (are.0, are.1, (are.2.0 + gap.held, omega (arith, are.2.1), others))

  pub zeros_gap : (gaps : List ZeroRun) → zeros_of (gaps ++ gap ∷ []) ≡ zeros_of gaps + gap.zeros
  zeros_gap [] = omega arith
  zeros_gap (first ∷ gaps) = omega (arith, zeros_gap gaps)

-- zeros after zeros
zeros_after : (front : List ℕ) (n m : ℕ)
    → front ++ (replicate (n + m) 0 ++ []) ≡ (front ++ (replicate n 0 ++ [])) ++ replicate m 0
zeros_after front n m = grind (arith, append_assoc, append-nil, replicate-append-replicate {A = ℕ})

-- the last gap, with more zeros
abbrev pub widened : ZeroRun → ℕ → ZeroRun
widened gap more = record gap { zeros = gap.zeros + more }

module _ (gap : ZeroRun) (more : ℕ) where
  pub spread_widened : (gaps : List ZeroRun) (held : List ℕ) (placed i : ℕ) → AreGaps gaps held placed
      → placed ≡ length held
      → i + 1 ≡ length gaps → gap ≡ get_or gaps i gap
      → spread (set gaps i (widened gap more)) held ≡ spread gaps held ++ replicate more 0
  spread_widened [] held placed i are all last is = absurd (omega (arith, last))
  spread_widened (first ∷ []) held placed zero are all last is = grind (arith, drop_all, zeros_after)
  spread_widened (first ∷ []) held placed (suc i) are all last is = absurd (omega (arith, last))
  spread_widened (first ∷ next ∷ gaps) held placed zero are all last is = absurd (omega (arith, last))
  spread_widened (first ∷ next ∷ gaps) held placed (suc i) are all last is =
      let rest : are.2.0 ≡ length (drop first.held held) =
      omega (arith, all, are.1, are.2.1, length-drop first.held held) in
      grind (
        arith,
        common_steps,
        spread_widened (next ∷ gaps) (drop first.held held) are.2.0 i are.2.2 rest (omega (arith, last)) is,
      )

  pub gaps_widened : (gaps : List ZeroRun) (held : List ℕ) (placed i : ℕ) → AreGaps gaps held placed → i < length gaps
      → gap ≡ get_or gaps i gap → AreGaps (set gaps i (widened gap more)) held placed
  gaps_widened [] held placed i are there is = absurd (omega (arith, there))
  gaps_widened (first ∷ gaps) held placed zero are there is = rw is are
  gaps_widened (first ∷ gaps) held placed (suc i) are there is =
      grind (arith, gaps_widened gaps (drop first.held held) are.2.0 i are.2.2 (omega (arith, there)) is)

  pub zeros_widened : (gaps : List ZeroRun) (i : ℕ) → i < length gaps → gap ≡ get_or gaps i gap
      → zeros_of (set gaps i (widened gap more)) ≡ zeros_of gaps + more
  zeros_widened [] i there is = absurd (omega (arith, there))
  zeros_widened (first ∷ gaps) zero there is = omega (arith, ap (λ (g : ZeroRun). g.zeros) is)
  zeros_widened (first ∷ gaps) (suc i) there is = omega (arith, zeros_widened gaps i (omega (arith, there)) is)

-- bytes with gaps, after which zeros are put
module _ (held : List ℕ) (gaps : List ZeroRun) (placed zeros more : ℕ) (are : AreParts held gaps placed zeros)
    (room : length (spread gaps held) + more ≤ max_file) where
  abbrev all : length (spread gaps held) ≡ length held + zeros_of gaps
  all = spread_length gaps held placed are.gaps_are

  pub more_fit : zeros + more < 2 ^ 64
  more_fit = omega (arith, are.zeros_are, all, room)

  -- in the last gap, which no held bytes follow
  module _ (origin : 1 ≤ length (spread gaps held)) (end : length held - placed ≡ 0) (i : ℕ)
      (last : i ≡ length gaps - 1) (gap : ZeroRun)
      (is : gap ≡ get_or gaps i gap) where
    end_is : placed ≡ length held
    end_is = omega (arith, end, placed_within gaps held placed are.gaps_are)

    there : i + 1 ≡ length gaps
    there = omega (arith, last, some_gaps gaps held placed are.gaps_are origin end)

    pub last_fit : gap.zeros + more < 2 ^ 64
    last_fit = omega (arith, all, room, zeros_at gaps i gap is (omega (arith, there)))

    pub wider : AreParts held (set gaps i (widened gap more)) placed (zeros + more)
    wider = record {
      gaps_are = gaps_widened gap more gaps held placed i are.gaps_are (omega (arith, there)) is;
      zeros_are = omega (arith, are.zeros_are, zeros_widened gap more gaps i (omega (arith, there)) is);
      fits = omega (arith, are.zeros_are, all, room);
    }

    pub wider_bytes : spread (set gaps i (widened gap more)) held ≡ spread gaps held ++ replicate more 0
    wider_bytes = spread_widened gap more gaps held placed i are.gaps_are end_is there is

  -- in a gap of their own
  module _ (after : ℕ) (some : 1 ≤ after) (end : after + placed ≡ length held) where
    abbrev next : ZeroRun
    next = record { held = after; zeros = more }

    pub one_more : AreParts held (gaps ++ next ∷ []) (placed + after) (zeros + more)
    one_more = record {
      gaps_are = gaps_gap next gaps held placed are.gaps_are end some;
      zeros_are = omega (arith, are.zeros_are, zeros_gap next gaps);
      fits = omega (arith, are.zeros_are, all, room);
    }

    pub one_more_bytes : spread (gaps ++ next ∷ []) held ≡ spread gaps held ++ replicate more 0
    one_more_bytes = spread_gap next gaps held placed are.gaps_are end

-- more bytes that are held, where they were put
module _ (held : List ℕ) (gaps : List ZeroRun) (placed zeros : ℕ) (are : AreParts held gaps placed zeros) where
  pub held_more : (more : List ℕ) → length (held ++ more) + zeros < 2 ^ 64 → AreParts (held ++ more) gaps placed zeros
  held_more more fits = grind (arith, gaps_more)

  pub held_put : {E : Type 0} (result : Result ⊤ E) (new more : List ℕ) → OnOk result (new ≡ held ++ more)
      → OnErr result (new ≡ held)
      → length (held ++ more) + zeros < 2 ^ 64 → AreParts new gaps placed zeros
  held_put result new more ok err fits = grind (arith, held_more)

  pub put_bytes : {E : Type 0} (result : Result ⊤ E) (new more : List ℕ) → OnOk result (new ≡ held ++ more)
      → OnOk result (spread gaps new ≡ spread gaps held ++ more)
  put_bytes result new more ok = grind (arith, spread_more)

-- an image's header is short
pub head_short : (width rows : ℕ) → width < 2 ^ 32 → rows < 2 ^ 32 → length (head_bytes width rows) ≤ 25
head_short width rows narrow few =
    let across : length (decimal width) ≤ 10 =
    length-decimal-le 10 width (omega arith) (omega (arith, narrow)) (omega (arith, narrow)) in
    let down : length (decimal rows) ≤ 10 =
    length-decimal-le 10 rows (omega arith) (omega (arith, few)) (omega (arith, few)) in
    grind (arith, common_steps, across, down)

-- white rows of an image are zeros
pub white_zeros : WhiteRowsAreWritten → (width count n : ℕ) → n ≡ count * packed_len width
    → flat_map packed_row (replicate count (white_row width)) ≡ replicate n 0
white_zeros written width zero n is = let none : 0 ≡ n = omega (arith, is) in ap (λ m. replicate m 0) none
white_zeros written width (suc count) n is =
    let len = packed_len width in
    let all : len + count * len ≡ n = omega (arith, is) in
    ap (λ bytes. bytes ++ flat_map packed_row (replicate count (white_row width))) (written.packed width)
    ∙ ap (λ bytes. replicate len 0 ++ bytes) (white_zeros written width count (count * len) refl)
    ∙ replicate-append-replicate len (count * len) 0
    ∙ ap (λ m. replicate m 0) all
