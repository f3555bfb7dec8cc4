-- The header of an image that a function reads is the one that is defined.
use Rattle.std.proofs.Common.{arith, ◌≡◌, ◌≢◌, ℕ, ◌+◌, ◌-◌, ◌*◌, Bool, true, false, not, List, [], ◌∷◌, ◌++◌}
use Rattle.std.proofs.Common.{Option, Some, None, Result, Ok, Err, refl, sym, ap, ◌∙◌, subst}
use Rattle.std.specs.Prelude.{MatchResult, ◌==◌, ◌&&◌, codes, fold, if◌then◌else◌}
use Rattle.std.specs.List.{list_all}
use Rattle.std.proofs.lemmas.Bool.{and_parts, false≢true}
use Rattle.std.proofs.lemmas.Bool.Decides.{nat_tests}
use Rattle.fax_files.specs.declared.pbm.PbmFault.{PbmFault}
use Rattle.fax_files.specs.declared.pbm.PbmFault.TheVariants.{BadHeader}
use Rattle.fax_files.specs.Pbm.{IsGap, IsHead, SpellsNumber, is_white_space}
use Rattle.fax_files.specs.code.Pbm as Code
use Rattle.fax_files.specs.code.Pbm.{starts_white_space, has_digit, is_digit, is_line_end}
use Rattle.fax_files.proofs.PbmGapLemmas.{gap_is_read, gap_passed, gap_has_no_digit, white_is_no_digit}
use Rattle.fax_files.proofs.PbmNumberLemmas.{number_begins}
use Rattle.fax_files.specs.Directory.{◌>>=◌}
use Rattle.fax_reads.specs.Images.{after_magic, after_pieces, after_gap, read_digits, read_number, after_space}
use Rattle.fax_reads.specs.Images.{HeadRead, read_head}

-- an answer that continues
went : {A B F : Type 0} (r : Result A F) (next : A → Result B F) (b : B) → r >>= next ≡ Ok b
    → (a : A) × (r ≡ Ok a) × (next a ≡ Ok b)
went (Ok a) next b is = (a, refl, is)
went (Err fault) next b is = let no : ⊥ = cc in absurd no

goes : {A B F : Type 0} {r : Result A F} {x : A} {y : Result B F} (next : A → Result B F) → r ≡ Ok x → next x ≡ y
    → (r >>= next) ≡ y
goes next at is = ap (λ r. r >>= next) at ∙ is

-- gaps
abbrev or_bad : Option (List ℕ) → Result (List ℕ) PbmFault
or_bad None = Err BadHeader
or_bad (Some rest) = Ok rest

of_or_bad : (found : Option (List ℕ)) (rest : List ℕ) → or_bad found ≡ Ok rest → found ≡ Some rest
of_or_bad None rest is = let no : ⊥ = cc in absurd no
of_or_bad (Some other) rest is = cc

pieces_are : (in_comment : Bool) (bytes : List ℕ)
    → after_pieces in_comment bytes ≡ or_bad (Code.skip_white_space in_comment bytes)
pieces_are in_comment [] = refl
pieces_are true (c ∷ bytes) = pieces_are (not (is_line_end c)) bytes
pieces_are false (c ∷ bytes) =
    elim (starts_white_space c) as (λ v. (if v then (after_pieces (c == 35) bytes) else (Ok (c ∷ bytes)))
    ≡ or_bad (if v then (Code.skip_white_space (c == 35) bytes) else (Some (c ∷ bytes)))) [
      | true ↦ pieces_are (c == 35) bytes
      | false ↦ refl
    ]

gap_same : (bytes : List ℕ) → after_gap bytes ≡ or_bad (Code.after_gap bytes)
gap_same [] = refl
gap_same (c ∷ bytes) =
    elim (starts_white_space c) as (λ v. (if v then (after_pieces (c == 35) bytes) else (Err BadHeader))
    ≡ or_bad (if v then (if v then (Code.skip_white_space (c == 35) bytes) else (Some (c ∷ bytes))) else None)) [
      | true ↦ pieces_are (c == 35) bytes
      | false ↦ refl
    ]

gap_is : (bytes rest : List ℕ) → after_gap bytes ≡ Ok rest → (gap : List ℕ) × IsGap gap × (bytes ≡ gap ++ rest)
gap_is bytes rest is = gap_is_read bytes rest (of_or_bad (Code.after_gap bytes) rest (sym (gap_same bytes) ∙ is))

gap_of : (gap rest : List ℕ) → IsGap gap → has_digit rest ≡ true → after_gap (gap ++ rest) ≡ Ok rest
gap_of gap rest is digit = gap_same (gap ++ rest) ∙ ap or_bad (gap_passed gap rest is digit)

-- numbers
abbrev with_digit : ℕ → ℕ → ℕ
with_digit number digit = 10 * number + (digit - 48)

record HasDigits (n : ℕ) (bytes : List ℕ) : Type 0 where
  digits : List ℕ
  some : has_digit bytes ≡ true → digits ≢ []
  all : list_all is_digit digits ≡ true
  is : bytes ≡ digits ++ (read_digits n bytes).1
  number : (read_digits n bytes).0 ≡ fold with_digit n digits

digits_are : (n : ℕ) (bytes : List ℕ) → HasDigits n bytes
digits_are n [] = record { digits = []; some = λ h. absurd (false≢true h); all = refl; is = refl; number = refl }
digits_are n (c ∷ bytes) =
    elim (is_digit c) as (λ v. is_digit c ≡ v → HasDigits n (c ∷ bytes)) [
      | true ↦ λ digit.
          let more = digits_are (with_digit n c) bytes in
          record {
            digits = c ∷ more.digits;
            some = λ h e. cc;
            all = rw digit more.all;
            is = rw digit (ap (λ (l : List ℕ). c ∷ l) more.is);
            number = rw digit more.number;
          }
      | false ↦ λ other. record {
        digits = [];
        some = λ h. absurd (false≢true (sym other ∙ h));
        all = refl;
        is = rw other refl;
        number = rw other refl;
      }
    ] refl

number_is : (bytes : List ℕ) (found : ℕ × List ℕ) → read_number bytes ≡ Ok found
    → (digits : List ℕ) × SpellsNumber digits found.0 × (bytes ≡ digits ++ found.1)
number_is [] found is = let no : ⊥ = cc in absurd no
number_is (c ∷ bytes) found is =
    elim (is_digit c) as (λ v. is_digit c ≡ v
    → (if v then (Ok (read_digits 0 (c ∷ bytes))) else (Err BadHeader)) ≡ Ok found
    → (digits : List ℕ) × SpellsNumber digits found.0 × (c ∷ bytes ≡ digits ++ found.1)) [
      | true ↦ λ digit same.
          let has = digits_are 0 (c ∷ bytes) in
          let all : read_digits 0 (c ∷ bytes) ≡ found = cc in
          subst (λ (f : ℕ × List ℕ). (digits : List ℕ) × SpellsNumber digits f.0 × (c ∷ bytes ≡ digits ++ f.1)) all
          (has.digits, (has.some digit, has.all, has.number), has.is)
      | false ↦ λ other same. let no : ⊥ = cc in absurd no
    ] refl is

stays : (n : ℕ) (after : List ℕ) → has_digit after ≡ false → read_digits n after ≡ (n, after)
stays n [] none = refl
stays n (c ∷ after) none = rw none refl

digits_of : (n : ℕ) (digits after : List ℕ) → list_all is_digit digits ≡ true → has_digit after ≡ false
    → read_digits n (digits ++ after) ≡ (fold with_digit n digits, after)
digits_of n [] after all none = stays n after none
digits_of n (c ∷ digits) after all none =
    let parts = and_parts (is_digit c) (list_all is_digit digits) all in
    rw (parts.0) (digits_of (with_digit n c) digits after parts.1 none)

origin : (bytes : List ℕ) → has_digit bytes ≡ true → read_number bytes ≡ Ok (read_digits 0 bytes)
origin [] digit = absurd (false≢true digit)
origin (c ∷ bytes) digit = rw digit refl

number_of : (digits : List ℕ) (n : ℕ) (after : List ℕ) → SpellsNumber digits n → has_digit after ≡ false
    → read_number (digits ++ after) ≡ Ok (n, after)
number_of digits n after is none =
    origin (digits ++ after) (number_begins digits n after is)
    ∙ ap (λ (found : ℕ × List ℕ). Ok found) (digits_of 0 digits after is.1 none
    ∙ ap (λ m. (m, after)) (sym is.2))

-- the first bytes and the last one
magic_is : (bytes rest : List ℕ) → after_magic bytes ≡ Ok rest → bytes ≡ codes "P4" ++ rest
magic_is bytes rest is = grind (arith, nat_tests)

space_is : (bytes rest : List ℕ) → after_space bytes ≡ Ok rest
    → (c : ℕ) × (is_white_space c ≡ true) × (bytes ≡ c ∷ rest)
space_is [] rest is = let no : ⊥ = cc in absurd no
space_is (c ∷ bytes) rest is =
    elim (is_white_space c) as (λ v. is_white_space c ≡ v → (if v then (Ok bytes) else (Err BadHeader)) ≡ Ok rest
    → (s : ℕ) × (is_white_space s ≡ true) × (c ∷ bytes ≡ s ∷ rest)) [
      | true ↦ λ white same. (c, white, cc)
      | false ↦ λ other same. let no : ⊥ = cc in absurd no
    ] refl is

space_of : (c : ℕ) (rest : List ℕ) → is_white_space c ≡ true → after_space (c ∷ rest) ≡ Ok rest
space_of c rest white = rw white refl

-- a header that is read is one
pub head_is : (bytes : List ℕ) (head : HeadRead) → read_head bytes ≡ Ok head
    → IsHead bytes head.width head.height head.rest
head_is bytes head is =
    let (at_gap, magic, is1) = went _ _ head is in
    let (at_width, gap, is2) = went _ _ head is1 in
    let (width, width_read, is3) = went _ _ head is2 in
    let (at_height, second, is4) = went _ _ head is3 in
    let (height, height_read, is5) = went _ _ head is4 in
    let (rest, space_read, is6) = went _ _ head is5 in
    let g = gap_is at_gap at_width gap in
    let w = number_is at_width width width_read in
    let s = gap_is width.1 at_height second in
    let h = number_is at_height height height_read in
    let e = space_is height.1 rest space_read in
    let all : record { width = width.0; height = height.0; rest = rest } ≡ head = cc in
    subst (λ (head : HeadRead). IsHead bytes head.width head.height head.rest) all
    (record {
      first_gap = g.0;
      width_digits = w.0;
      second_gap = s.0;
      height_digits = h.0;
      space = e.0;
      first_is_gap = g.1;
      width_is = w.1;
      second_is_gap = s.1;
      height_is = h.1;
      space_is = e.1;
      spelled =
          magic_is bytes at_gap magic
          ∙ ap (λ (l : List ℕ). codes "P4" ++ l) (
          g.2
          ∙ ap (λ (l : List ℕ). g.0 ++ l) (
          w.2
          ∙ ap (λ (l : List ℕ). w.0 ++ l) (
          s.2 ∙ ap (λ (l : List ℕ). s.0 ++ l) (h.2 ∙ ap (λ (l : List ℕ). h.0 ++ l) e.2)
          )
          )
          );
    })

-- and each header is read
pub head_of : (bytes : List ℕ) (width height : ℕ) (rest : List ℕ) → IsHead bytes width height rest
    → read_head bytes ≡ Ok (record { width = width; height = height; rest = rest })
head_of bytes width height rest head =
    let at_space = head.space ∷ rest in
    let at_height = head.height_digits ++ at_space in
    let at_second = head.second_gap ++ at_height in
    let at_width = head.width_digits ++ at_second in
    let space_no_digit = white_is_no_digit head.space head.space_is in
    let some_height = number_begins head.height_digits height at_space head.height_is in
    let some_width = number_begins head.width_digits width at_second head.width_is in
    let no_digit = gap_has_no_digit head.second_gap at_height head.second_is_gap in
    ap read_head head.spelled
    ∙ goes _ (gap_of head.first_gap at_width head.first_is_gap some_width) (
    goes _ (number_of head.width_digits width at_second head.width_is no_digit) (
    goes _ (gap_of head.second_gap at_height head.second_is_gap some_height) (
    goes _ (number_of head.height_digits height at_space head.height_is space_no_digit) (
    goes _ (space_of head.space rest head.space_is) refl
    )
    )
    )
    )

-- a header that is not read has one fault
abbrev IsBad : PbmFault → Type 0
IsBad fault = fault ≡ BadHeader

abbrev Bad : {A : Type 0} → Result A PbmFault → Type 0
Bad r = MatchResult r (λ _. Unit {0}) IsBad

goes_bad : {A B : Type 0} (r : Result A PbmFault) (next : A → Result B PbmFault) → Bad r → ((a : A) → Bad (next a))
    → Bad (r >>= next)
goes_bad (Ok a) next bad more = more a
goes_bad (Err fault) next bad more = bad

if_bad : {A : Type 0} (v : Bool) (a : A) → Bad (if v then (Ok a) else (Err BadHeader))
if_bad true a = tt
if_bad false a = refl

magic_bad : (bytes : List ℕ) → Bad (after_magic bytes)
magic_bad [] = refl
magic_bad (p ∷ []) = refl
magic_bad (p ∷ four ∷ bytes) = if_bad ((p == 80) && (four == 52)) bytes

or_bad_bad : (found : Option (List ℕ)) → Bad (or_bad found)
or_bad_bad None = refl
or_bad_bad (Some rest) = tt

gap_bad : (bytes : List ℕ) → Bad (after_gap bytes)
gap_bad bytes = rw (gap_same bytes) (or_bad_bad (Code.after_gap bytes))

number_bad : (bytes : List ℕ) → Bad (read_number bytes)
number_bad [] = refl
number_bad (c ∷ bytes) = if_bad (is_digit c) (read_digits 0 (c ∷ bytes))

space_bad : (bytes : List ℕ) → Bad (after_space bytes)
space_bad [] = refl
space_bad (c ∷ bytes) = if_bad (is_white_space c) bytes

pub head_bad : (bytes : List ℕ) → MatchResult (read_head bytes) (λ _. Unit {0}) (λ fault. fault ≡ BadHeader)
head_bad bytes =
    goes_bad _ _ (magic_bad bytes) (λ at_gap.
    goes_bad _ _ (gap_bad at_gap) (λ at_width.
    goes_bad _ _ (number_bad at_width) (λ width.
    goes_bad _ _ (gap_bad width.1) (λ at_height.
    goes_bad _ _ (number_bad at_height) (λ height.
    goes_bad _ _ (space_bad height.1) (λ rest. tt))))))
