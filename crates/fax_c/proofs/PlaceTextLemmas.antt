-- The texts of places are UTF-8, and what they are read as.
use Rattle.std.proofs.Common.{◌≡◌, ℕ, ◌^◌, ◌<◌, List, [], ◌∷◌, ◌++◌, inl, inr, subst, sym, ◌∙◌, arith}
use Rattle.std.specs.Prelude.{codes, decimal, flat_map}
use Rattle.std.specs.List.{All}
use Rattle.std.specs.Str.{IsUtf8}
use Rattle.std.proofs.lemmas.Fmt.{IsAscii-decimal}
use Rattle.std.proofs.lemmas.List.Elements.{All-cons, All-head, All-nil, All-tail}
use Rattle.std.proofs.lemmas.Str.{IsUtf8-append, IsUtf8-from_ascii, IsUtf8-nil}
use Rattle.std.proofs.lemmas.Str.Ascii.{IsAscii-from_all}
use Rattle.fax_walk.specs.declared.cursor.Cursor.{Cursor}
use Rattle.fax_walk.specs.Pages.{IsCursor, IsLongCursor, LongCursorValue, cursor_text, long_cursor_text, runs_text}
use Rattle.fax_walk.specs.laws.Cursors.{TextsNameOne}
use Rattle.fax_c.specs.declared.places.FaxPlace.{FaxPlace}
use Rattle.fax_c.specs.views.PlaceTexts.{NamesNoPlace, ReadsPlace}
use Rattle.fax_c.specs.code.CallSteps.{IsPlaceTold}

decimal_utf8 : (n : ℕ) → n < 2 ^ 32 → IsUtf8 (decimal n)
decimal_utf8 n short = IsUtf8-from_ascii (decimal n) (IsAscii-decimal n (omega (arith, short)))

-- one character of ASCII
one_utf8 : (b : ℕ) → b < 128 → IsUtf8 (b ∷ [])
one_utf8 b short = IsUtf8-from_ascii (b ∷ []) (IsAscii-from_all (b ∷ [])
    (All-cons (λ n. n < 128) b [] short (All-nil (λ n. n < 128))))

colon : IsUtf8 (codes ":")
colon = one_utf8 58 (omega arith)

-- what the texts begin with
first_kind : IsUtf8 (codes "1:")
first_kind = IsUtf8-append (49 ∷ []) (58 ∷ []) (one_utf8 49 (omega arith)) colon

second_kind : IsUtf8 (codes "2:")
second_kind = IsUtf8-append (50 ∷ []) (58 ∷ []) (one_utf8 50 (omega arith)) colon

-- a text with a colon and a number after it
with_number : (text : List ℕ) (n : ℕ) → IsUtf8 text → n < 2 ^ 32 → IsUtf8 (text ++ codes ":" ++ decimal n)
with_number text n utf8 short =
    IsUtf8-append (text ++ codes ":") (decimal n) (IsUtf8-append text (codes ":") utf8 colon) (decimal_utf8 n short)

pub cursor_text_utf8 : (at : Cursor) → IsCursor at → IsUtf8 (cursor_text at)
cursor_text_utf8 at is =
    with_number _ at.row (IsUtf8-append _ _ first_kind (decimal_utf8 at.page is.page)) is.row

more_runs_utf8 : (runs : List ℕ) → All (λ run. run < 2 ^ 32) runs
    → IsUtf8 (flat_map (λ run. codes "," ++ decimal run) runs)
more_runs_utf8 [] all = IsUtf8-nil
more_runs_utf8 (run ∷ runs) all =
    let first = decimal_utf8 run (All-head (λ n. n < 2 ^ 32) run runs all) in
    IsUtf8-append _ _ (IsUtf8-append _ _ (one_utf8 44 (omega arith)) first)
    (more_runs_utf8 runs (All-tail (λ n. n < 2 ^ 32) run runs all))

runs_text_utf8 : (runs : List ℕ) → All (λ run. run < 2 ^ 32) runs → IsUtf8 (runs_text runs)
runs_text_utf8 [] all = IsUtf8-nil
runs_text_utf8 (run ∷ runs) all =
    IsUtf8-append _ _ (decimal_utf8 run (All-head (λ n. n < 2 ^ 32) run runs all))
    (more_runs_utf8 runs (All-tail (λ n. n < 2 ^ 32) run runs all))

pub long_cursor_text_utf8 : (place : LongCursorValue) → IsLongCursor place → IsUtf8 (long_cursor_text place)
long_cursor_text_utf8 place is =
    let begin = IsUtf8-append _ _ second_kind (decimal_utf8 place.at.page is.cursor.page) in
    let row = with_number _ place.at.row begin is.cursor.row in
    let bits = with_number _ place.bits row is.bits in
    IsUtf8-append _ _ (IsUtf8-append _ _ bits colon) (runs_text_utf8 place.runs is.runs)

-- bytes that are no UTF-8 are the text of no place
pub no_text : (text : List ℕ) → (IsUtf8 text → ⊥) → NamesNoPlace text
no_text text not = (
  λ at is same. not (subst IsUtf8 (sym same) (cursor_text_utf8 at is)),
  λ place is same. absurd (not (subst IsUtf8 (sym same) (long_cursor_text_utf8 place is))),
)

-- the place inside a strip that a text names is reported, or it is not, and why
pub place_read : (text : List ℕ) (found : LongCursorValue) (old place : FaxPlace) (old_runs runs : List ℕ) (status : ℕ)
    → TextsNameOne → IsLongCursor found → text ≡ long_cursor_text found
    → IsPlaceTold found old old_runs status place runs
    → ReadsPlace text old old_runs place runs status
place_read text found old place old_runs runs status names is text_is (inl (done, has, few, same, kept)) = grind arith
place_read text found old place old_runs runs status names is text_is
    (inr (same, same_runs, inl (no_room, longer, few))) = grind arith
place_read text found old place old_runs runs status names is text_is (inr (same, same_runs, inr (status_is, many))) =
    let none : NamesNoPlace text = (
      λ at at_is other_text. names.apart at found (sym other_text ∙ text_is),
      λ other other_is other_text. rw (names.places found other is other_is (sym text_is ∙ other_text)) at many,
    ) in
    inr (same, same_runs, inr (inl (status_is, none)))
