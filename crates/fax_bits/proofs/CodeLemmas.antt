-- Codes as the function reads them: a code of a table that begins the bits is the one that is read.
use Rattle.std.proofs.Common.{arith, ◌≡◌, zero, suc, List, [], ◌∷◌, ◌++◌, Bool, true, false}
use Rattle.std.proofs.Common.{cond, refl, ap, sym, subst, Option, Some, None, Result, Ok, Err}
use Rattle.std.specs.Prelude.{MatchOption, Contains, IfOk}
use Rattle.std.specs.List.{list_any}
use Rattle.std.proofs.lemmas.List.Folds.{Any-from_list_any, list_any-from_Any}
use Rattle.fax_bits.specs.declared.codes.CodeEntry.{CodeEntry}
use Rattle.fax_bits.specs.declared.codes.CodeFault.{CodeFault}
use Rattle.fax_bits.specs.declared.codes.CodeFault.TheVariants.{DataEnds, BadCode}
use Rattle.fax_bits.specs.Bits.{StartsWith}
use Rattle.fax_bits.specs.Codes.{bits_of, Decodes, HasNoCode, after_front, is_cut_code, first_code, code_fault, read_or}
use Rattle.fax_bits.specs.Codes.{read_code}
use Rattle.fax_bits.specs.Reading.{read, failed, answered}
use Rattle.fax_bits.specs.views.Codes.{HasShortCodes, IsPrefixFree}
use Rattle.fax_bits.specs.laws.Codes.{ReadsOneWay}
use Rattle.fax_bits.proofs.PrefixLemmas.{takes_one, takes_bits}
use Rattle.fax_bits.proofs.ReadingLemmas.{IsCutBy}

-- what is left after a front, or no front
pub front_is : (front b : List Bool)
    → MatchOption (after_front front b) (StartsWith b front → ⊥) (λ rest. b ≡ front ++ rest)
front_is [] b = refl
front_is (true ∷ front) [] = λ h. let is = h.1 in cc
front_is (false ∷ front) [] = λ h. let is = h.1 in cc
front_is (true ∷ front) (false ∷ b) = λ h. let is = h.1 in cc
front_is (false ∷ front) (true ∷ b) = λ h. let is = h.1 in cc
front_is (true ∷ front) (true ∷ b) = grind (arith, front_is front b)
front_is (false ∷ front) (false ∷ b) = grind (arith, front_is front b)

-- a code is cut short
cut_is : (code b : List Bool) → is_cut_code code b ≡ true → IsCutBy code b
cut_is [] b is = grind arith
cut_is (bit ∷ code) [] is = (bit, code, refl)
cut_is (true ∷ code) (true ∷ b) is = let more = cut_is code b is in (more.0, more.1, ap (λ c. true ∷ c) more.2)
cut_is (false ∷ code) (false ∷ b) is = let more = cut_is code b is in (more.0, more.1, ap (λ c. false ∷ c) more.2)
cut_is (true ∷ code) (false ∷ b) is = grind arith
cut_is (false ∷ code) (true ∷ b) is = grind arith

is_cut_of : (b more : List Bool) (missing : Bool) → is_cut_code (b ++ missing ∷ more) b ≡ true
is_cut_of [] more missing = refl
is_cut_of (true ∷ b) more missing = is_cut_of b more missing
is_cut_of (false ∷ b) more missing = is_cut_of b more missing

module _ {M : Type 0} (b : List Bool) where
  abbrev IsFirst : List (CodeEntry M) → Option (M × List Bool) → Type 0
  IsFirst table r = MatchOption r (HasNoCode table b) (λ code. Decodes table b code.0 code.1)

  none_more : (entry : CodeEntry M) (table : List (CodeEntry M)) → HasNoCode table b
      → (StartsWith b (bits_of entry) → ⊥)
      → HasNoCode (entry ∷ table) b
  none_more entry table none not another (zero, inside, is) begins =
      not (subst (λ e. StartsWith b (bits_of e)) (sym is) begins)
  none_more entry table none not another (suc k, inside, is) begins = none another (k, omega (arith, inside), is) begins

  after : (entry : CodeEntry M) (table : List (CodeEntry M)) (r : Option (M × List Bool))
      → (StartsWith b (bits_of entry) → ⊥)
      → IsFirst table r → IsFirst (entry ∷ table) r
  after entry table None not none = none_more entry table none not
  after entry table (Some code) not taken = record {
    entry = taken.entry;
    listed = (suc taken.listed.0, omega (arith, taken.listed.1), taken.listed.2);
    means = taken.means;
    spelled = taken.spelled;
  }

  by_front : (entry : CodeEntry M) (table : List (CodeEntry M)) (r : Option (List Bool))
      → MatchOption r (StartsWith b (bits_of entry) → ⊥) (λ rest. b ≡ bits_of entry ++ rest)
      → IsFirst table (first_code table b)
      → IsFirst (entry ∷ table) (elim r [ Some rest ↦ Some (entry.meaning, rest) | None ↦ first_code table b ])
  by_front entry table None not more = after entry table (first_code table b) not more
  by_front entry table (Some rest) is more =
      record { entry = entry; listed = (0, omega arith, refl); means = refl; spelled = is }

  -- the first code of a table that begins the bits is taken, or none begins them
  first_is : (table : List (CodeEntry M)) → IsFirst table (first_code table b)
  first_is [] = λ entry at. absurd (omega (arith, at.1))
  first_is (entry ∷ table) =
      by_front entry table (after_front (bits_of entry) b) (front_is (bits_of entry) b) (first_is table)

  -- a code that is read is taken
  pub read_is_taken : (table : List (CodeEntry M)) (meaning : M) (rest : List Bool)
      → read_code table b ≡ read meaning rest → Decodes table b meaning rest
  read_is_taken table meaning rest is = by (first_code table b) (first_is table) is
    where
      by : (r : Option (M × List Bool)) → IsFirst table r
          → read_or (code_fault table b) r ≡ read meaning rest
          → Decodes table b meaning rest
      by (Some (found, remaining)) taken same =
          let meaning_is : found ≡ meaning = cc in
          let rest_is : remaining ≡ rest = cc in
          subst (λ m. Decodes table b m rest) meaning_is (subst (λ c. Decodes table b found c) rest_is taken)
      by None none same = absurd cc

  pub what_is_taken : (table : List (CodeEntry M)) (rest : List Bool) (r : Result M CodeFault)
      → read_code table b ≡ answered (λ m. m) r rest → IfOk r (λ meaning. Decodes table b meaning rest)
  what_is_taken table rest (Ok meaning) is = read_is_taken table meaning rest is
  what_is_taken table rest (Err fault) is = tt

  -- and of a table none of whose codes begins another a code that is taken is read
  pub taken_is_read : (table : List (CodeEntry M)) → IsPrefixFree table → (meaning : M) (rest : List Bool)
      → Decodes table b meaning rest → read_code table b ≡ read meaning rest
  taken_is_read table free meaning rest taken = by (first_code table b) (first_is table)
    where
      by : (r : Option (M × List Bool)) → IsFirst table r
          → read_or (code_fault table b) r ≡ read meaning rest
      by (Some (found, remaining)) first = let same = takes_one table free b found meaning remaining rest first taken
          in cc (same.0, same.1)
      by None none = absurd (none taken.entry taken.listed (rest, taken.spelled))

  pub none_is_read : (table : List (CodeEntry M)) → HasNoCode table b → read_code table b ≡ failed (code_fault table b)
  none_is_read table none = by (first_code table b) (first_is table)
    where
      by : (r : Option (M × List Bool)) → IsFirst table r
          → read_or (code_fault table b) r ≡ failed (code_fault table b)
      by (Some code) taken = absurd (none taken.entry taken.listed (code.1, taken.spelled))
      by None _ = refl

  -- the bits end within a code of the table
  pub ends_within : (table : List (CodeEntry M)) (entry : CodeEntry M) → Contains table entry
      → IsCutBy (bits_of entry) b
      → code_fault table b ≡ DataEnds
  ends_within table entry listed cut =
      let is : is_cut_code (bits_of entry) b ≡ true = rw (sym cut.2) (is_cut_of b cut.1 cut.0) in
      let any = list_any-from_Any (λ entry. is_cut_code (bits_of entry) b) table (
        listed.0,
        entry,
        listed.1,
        listed.2,
        is,
      ) in
      rw any refl

  -- or within none
  pub ends_within_none : (table : List (CodeEntry M))
      → ((entry : CodeEntry M) → Contains table entry → IsCutBy (bits_of entry) b → ⊥) → code_fault table b ≡ BadCode
  ends_within_none table none = by (list_any (λ entry. is_cut_code (bits_of entry) b) table) refl
    where
      by : (test : Bool) → list_any (λ entry. is_cut_code (bits_of entry) b) table ≡ test
          → cond test DataEnds BadCode ≡ BadCode
      by true is =
          let any = Any-from_list_any (λ entry. is_cut_code (bits_of entry) b) table is in
          absurd (none any.1 (any.0, any.2, any.3) (cut_is (bits_of any.1) b any.4))
      by false is = refl

-- a table is read in one way
pub reads_one_way : {M : Type 0} (table : List (CodeEntry M)) → HasShortCodes table → IsPrefixFree table
    → ReadsOneWay table
reads_one_way table short free = record {
  takes_bits = takes_bits table short;
  code = λ b meaning rest. (taken_is_read b table free meaning rest, read_is_taken b table meaning rest);
}
