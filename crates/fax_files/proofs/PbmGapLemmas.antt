-- Gaps in a PBM's header: a gap that is read is one, and each gap is read to its end.
use Rattle.std.proofs.Common.{◌≡◌, ℕ, inl, inr, Bool, true, false, not, List, [], ◌∷◌, ◌++◌, Some, None, refl, sym, ap}
use Rattle.std.proofs.Common.{◌∙◌, arith}
use Rattle.std.proofs.Common.{append_assoc}
use Rattle.std.specs.Prelude.{◌==◌, IsTrue, if◌then◌else◌}
use Rattle.std.specs.List.{list_all}
use Rattle.std.proofs.lemmas.Bool.{and_parts}
use Rattle.fax_files.specs.Pbm.{is_white_space, IsPiece, ArePieces, IsGap}
use Rattle.fax_files.specs.code.Pbm.{is_line_end, is_digit, starts_white_space, skip_white_space, after_gap, has_digit}

pub white_is_no_hash : (c : ℕ) → is_white_space c ≡ true → (c == 35) ≡ false
white_is_no_hash c white = grind arith

pub white_begins : (c : ℕ) → is_white_space c ≡ true → starts_white_space c ≡ true
white_begins c white = rw (white_is_no_hash c white) white

pub piece_is_no_digit : (c : ℕ) → starts_white_space c ≡ true → is_digit c ≡ false
piece_is_no_digit c piece = grind arith

pub white_is_no_digit : (c : ℕ) → is_white_space c ≡ true → is_digit c ≡ false
white_is_no_digit c white = piece_is_no_digit c (white_begins c white)

-- pieces, and what stands after them
record HasPieces (bytes rest : List ℕ) : Type 0 where
  pieces : List (List ℕ)
  gap : List ℕ
  are : ArePieces pieces gap
  is : bytes ≡ gap ++ rest

-- the same of one piece or more
record HasGap (bytes rest : List ℕ) : Type 0 where
  first : List ℕ
  pieces : List (List ℕ)
  gap : List ℕ
  are : ArePieces (first ∷ pieces) gap
  is : bytes ≡ gap ++ rest

-- the rest of a comment, pieces, and what stands after them
record HasComment (bytes rest : List ℕ) : Type 0 where
  text : List ℕ
  end : ℕ
  pieces : List (List ℕ)
  gap : List ℕ
  all : IsTrue (list_all (λ t. not (is_line_end t)) text)
  ends : IsTrue (is_line_end end)
  are : ArePieces pieces gap
  is : bytes ≡ text ++ end ∷ (gap ++ rest)

abbrev Has : Bool → List ℕ → List ℕ → Type 0
Has true bytes rest = HasComment bytes rest
Has false bytes rest = HasPieces bytes rest

comment_ends : (c : ℕ) (bytes rest : List ℕ) → is_line_end c ≡ true → HasPieces bytes rest → HasComment (c ∷ bytes) rest
comment_ends c bytes rest ends has = record {
  text = [];
  end = c;
  pieces = has.pieces;
  gap = has.gap;
  all = refl;
  ends = ends;
  are = has.are;
  is = ap (λ (l : List ℕ). c ∷ l) has.is;
}

comment_goes_on : (c : ℕ) (bytes rest : List ℕ) → is_line_end c ≡ false → HasComment bytes rest
    → HasComment (c ∷ bytes) rest
comment_goes_on c bytes rest goes_on has = record {
  text = c ∷ has.text;
  end = has.end;
  pieces = has.pieces;
  gap = has.gap;
  all = rw goes_on has.all;
  ends = has.ends;
  are = has.are;
  is = ap (λ (l : List ℕ). c ∷ l) has.is;
}

comment_is_piece : (c : ℕ) (bytes rest : List ℕ) → c ≡ 35 → HasComment bytes rest → HasGap (c ∷ bytes) rest
comment_is_piece c bytes rest hash has =
    let piece : List ℕ = 35 ∷ has.text ++ has.end ∷ [] in
    record {
      first = piece;
      pieces = has.pieces;
      gap = piece ++ has.gap;
      are = (has.gap, inr (has.text, has.end, has.all, has.ends, refl), has.are, refl);
      is =
          rw (hash, has.is) (
          ap (λ (l : List ℕ). 35 ∷ l) (
          sym (append_assoc (has.text ++ has.end ∷ []) has.gap rest
          ∙ append_assoc has.text (has.end ∷ []) (has.gap ++ rest))
          )
          );
    }

white_is_piece : (c : ℕ) (bytes rest : List ℕ) → is_white_space c ≡ true → HasPieces bytes rest
    → HasGap (c ∷ bytes) rest
white_is_piece c bytes rest white has = record {
  first = c ∷ [];
  pieces = has.pieces;
  gap = c ∷ has.gap;
  are = (has.gap, inl (c, white, refl), has.are, refl);
  is = ap (λ (l : List ℕ). c ∷ l) has.is;
}

gap_has_pieces : (bytes rest : List ℕ) → HasGap bytes rest → HasPieces bytes rest
gap_has_pieces bytes rest has = record { pieces = has.first ∷ has.pieces; gap = has.gap; are = has.are; is = has.is }

-- the first piece begins at this byte
first_piece : (c : ℕ) (bytes rest : List ℕ) → starts_white_space c ≡ true
    → ((in_comment : Bool) → skip_white_space in_comment bytes ≡ Some rest → Has in_comment bytes rest)
    → skip_white_space (c == 35) bytes ≡ Some rest → HasGap (c ∷ bytes) rest
first_piece c bytes rest begins has next = grind (arith, comment_is_piece, white_is_piece)

has_read : (in_comment : Bool) (bytes rest : List ℕ) → skip_white_space in_comment bytes ≡ Some rest
    → Has in_comment bytes rest
has_read in_comment [] rest is = let no : ⊥ = cc in absurd no
has_read true (c ∷ bytes) rest is =
    elim (is_line_end c) as (λ v. is_line_end c ≡ v → skip_white_space (not v) bytes ≡ Some rest
    → HasComment (c ∷ bytes) rest) [
      | true ↦ λ ends next. comment_ends c bytes rest ends (has_read false bytes rest next)
      | false ↦ λ goes_on next. comment_goes_on c bytes rest goes_on (has_read true bytes rest next)
    ] refl is
has_read false (c ∷ bytes) rest is =
    elim (starts_white_space c) as (λ v. starts_white_space c ≡ v → (if v then (skip_white_space (c == 35) bytes) else
    (Some (c ∷ bytes))) ≡ Some rest
    → HasPieces (c ∷ bytes) rest) [
      | true ↦ λ begins next.
          gap_has_pieces (c ∷ bytes) rest (first_piece c bytes rest begins
          (λ in_comment more. has_read in_comment bytes rest more) next)
      | false ↦ λ none same. record { pieces = []; gap = []; are = refl; is = cc }
    ] refl is

-- a gap that is read is one
pub gap_is_read : (bytes rest : List ℕ) → after_gap bytes ≡ Some rest
    → (gap : List ℕ) × IsGap gap × (bytes ≡ gap ++ rest)
gap_is_read [] rest is = let no : ⊥ = cc in absurd no
gap_is_read (c ∷ bytes) rest is =
    elim (starts_white_space c) as (λ v. starts_white_space c ≡ v
    → (if v then (if v then (skip_white_space (c == 35) bytes) else (Some (c ∷ bytes))) else None) ≡ Some rest
    → (gap : List ℕ) × IsGap gap × (c ∷ bytes ≡ gap ++ rest)) [
      | true ↦ λ begins next.
          let has = first_piece c bytes rest begins (λ in_comment more. has_read in_comment bytes rest more) next in
          (has.gap, (has.first ∷ has.pieces, (λ e. cc), has.are), has.is)
      | false ↦ λ none next. let no : ⊥ = cc in absurd no
    ] refl is

-- in a comment
after_text : (text : List ℕ) (c : ℕ) (more : List ℕ) → list_all (λ t. not (is_line_end t)) text ≡ true
    → is_line_end c ≡ true
    → skip_white_space true (text ++ c ∷ more) ≡ skip_white_space false more
after_text [] c more all ends = ap (λ v. skip_white_space (not v) more) ends
after_text (t ∷ text) c more all ends =
    let parts = and_parts (not (is_line_end t)) (list_all (λ t. not (is_line_end t)) text) all in
    ap (λ v. skip_white_space v (text ++ c ∷ more)) parts.0 ∙ after_text text c more parts.1 ends

piece_passed : (piece more : List ℕ) → IsPiece piece → skip_white_space false (piece ++ more)
    ≡ skip_white_space false more
piece_passed piece more h = grind (arith, append_assoc, after_text)

pieces_passed : (pieces : List (List ℕ)) (gap rest : List ℕ) → ArePieces pieces gap
    → skip_white_space false (gap ++ rest) ≡ skip_white_space false rest
pieces_passed [] gap rest are = ap (λ (g : List ℕ). skip_white_space false (g ++ rest)) are
pieces_passed (piece ∷ pieces) gap rest are = grind (
  arith,
  append_assoc,
  piece_passed,
  pieces_passed pieces are.0 rest
      are.2,
)

-- a gap's first byte
record Begins (gap : List ℕ) : Type 0 where
  first : ℕ
  others : List ℕ
  begins : starts_white_space first ≡ true
  is : gap ≡ first ∷ others

pieces_begin : (pieces : List (List ℕ)) (gap : List ℕ) → (pieces ≡ [] → ⊥) → ArePieces pieces gap → Begins gap
pieces_begin [] gap some are = absurd (some refl)
pieces_begin (piece ∷ pieces) gap some are = grind arith

gap_begins : (gap : List ℕ) → IsGap gap → Begins gap
gap_begins gap is = pieces_begin is.0 gap is.1 is.2

-- what begins with a gap begins with no digit
pub gap_has_no_digit : (gap rest : List ℕ) → IsGap gap → has_digit (gap ++ rest) ≡ false
gap_has_no_digit gap rest is =
    let b = gap_begins gap is in
    ap (λ (g : List ℕ). has_digit (g ++ rest)) b.is ∙ piece_is_no_digit b.first b.begins

digit_stops : (rest : List ℕ) → has_digit rest ≡ true → skip_white_space false rest ≡ Some rest
digit_stops rest digit = grind arith

started_gap : (c : ℕ) (bytes : List ℕ) → starts_white_space c ≡ true → after_gap (c ∷ bytes) ≡ skip_white_space false (c
    ∷ bytes)
started_gap c bytes begins = ap (λ v. if v then (skip_white_space false (c ∷ bytes)) else None) begins

-- each gap before a digit is read to its end
pub gap_passed : (gap rest : List ℕ) → IsGap gap → has_digit rest ≡ true → after_gap (gap ++ rest) ≡ Some rest
gap_passed gap rest is digit =
    let b = gap_begins gap is in
    ap (λ (g : List ℕ). after_gap (g ++ rest)) b.is
    ∙ started_gap b.first (b.others ++ rest) b.begins
    ∙ ap (λ (g : List ℕ). skip_white_space false (g ++ rest)) (sym b.is)
    ∙ pieces_passed is.0 gap rest is.2
    ∙ digit_stops rest digit
