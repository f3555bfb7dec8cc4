-- Parts of a page that are put one after the other.
use Rattle.std.proofs.Common.{◌≡◌, ℕ, zero, suc, ◌+◌, ◌<◌, ◌≤◌, List, [], ◌∷◌, ◌++◌, length, take, get_or, Vec, refl}
use Rattle.std.proofs.Common.{sym, ap, ◌∙◌, arith}
use Rattle.std.proofs.Common.{append_assoc, append-nil}
use Rattle.std.proofs.lemmas.List.{length-append}
use Rattle.std.specs.declared.alloc.Global.{Global}
use Rattle.std.specs.Prelude.{flat_map}
use Rattle.std.proofs.lemmas.List.Concat.{flat_map-append}
use Rattle.fax_files.specs.Layout.{two, four, array_bytes, offsets_from, WrittenField, field_bytes}
use Rattle.fax_files.specs.code.PageParts.{longs, lengths_of, joined_strips, fields_bytes}
use Rattle.fax_files.specs.views.Writing.{contents}

-- one more strip
pub contents_more : (strips : List (Vec ℕ Global)) (i : ℕ) (strip : Vec ℕ Global) → i < length strips
    → strip ≡ get_or strips i strip
    → contents (take (i + 1) strips) ≡ contents (take i strips) ++ strip.items ∷ []
contents_more [] i strip lt is = absurd (omega arith)
contents_more (first ∷ strips) zero strip lt is = ap (λ (v : Vec ℕ Global). v.items ∷ []) (sym is)
contents_more (first ∷ strips) (suc i) strip lt is = grind (arith, contents_more strips i strip (omega arith) is)

joined-push : (strips : List (List ℕ)) (strip : List ℕ) → joined_strips (strips ++ strip ∷ [])
    ≡ joined_strips strips ++ strip
joined-push [] strip = append-nil strip
joined-push (first ∷ strips) strip = grind (arith, append_assoc, joined-push strips strip)

longs-push : (numbers : List ℕ) (n : ℕ) → longs (numbers ++ n ∷ []) ≡ longs numbers ++ four n
longs-push [] n = append-nil (four n)
longs-push (first ∷ numbers) n = grind (arith, longs-push numbers n)

lengths_of-push : (strips : List (List ℕ)) (strip : List ℕ) → lengths_of (strips ++ strip ∷ [])
    ≡ lengths_of strips ++ length strip ∷ []
lengths_of-push [] strip = refl
lengths_of-push (first ∷ strips) strip = ap (λ (l : List ℕ). length first ∷ l) (lengths_of-push strips strip)

offsets_from-push : (start : ℕ) (strips : List (List ℕ)) (strip : List ℕ)
    → offsets_from start (strips ++ strip ∷ []) ≡ offsets_from start strips
    ++ (start + length (joined_strips strips)) ∷ []
offsets_from-push start [] strip = ap (λ (n : ℕ). n ∷ []) (omega arith)
offsets_from-push start (first ∷ strips) strip = grind (
  arith,
  length-append,
  offsets_from-push (start + length first)
      strips strip,
)

-- the strips up to one are no longer than all
joined-take : (strips : List (Vec ℕ Global)) (i : ℕ)
    → length (joined_strips (contents (take i strips))) ≤ length (joined_strips (contents strips))
joined-take strips zero = omega arith
joined-take [] (suc i) = omega arith
joined-take (first ∷ strips) (suc i) = grind (arith, length-append, joined-take strips i)

-- what is put for strip i of these
module _ (strips : List (Vec ℕ Global)) (i : ℕ) (strip : Vec ℕ Global) (lt : i < length strips)
    (is : strip ≡ get_or strips i strip) where
  abbrev before : List (List ℕ)
  before = contents (take i strips)

  pub joined_more : joined_strips (contents (take (i + 1) strips)) ≡ joined_strips before ++ strip.items
  joined_more = rw (contents_more strips i strip lt is) (joined-push before strip.items)

  pub lengths_more : longs (lengths_of (contents (take (i + 1) strips)))
      ≡ longs (lengths_of before) ++ four (length strip.items)
  lengths_more =
      rw (contents_more strips i strip lt is, lengths_of-push before strip.items)
      (longs-push (lengths_of before) (length strip.items))

  pub offsets_more : (start : ℕ) → longs (offsets_from start (contents (take (i + 1) strips)))
      ≡ longs (offsets_from start before) ++ four (start + length (joined_strips before))
  offsets_more start =
      rw (contents_more strips i strip lt is, offsets_from-push start before strip.items)
      (longs-push (offsets_from start before) (start + length (joined_strips before)))

  pub end_of_strip : length (joined_strips (contents (take (i + 1) strips)))
      ≡ length (joined_strips before) + length strip.items
  end_of_strip = ap length joined_more ∙ length-append (joined_strips before) strip.items

  pub within : length (joined_strips before) + length strip.items ≤ length (joined_strips (contents strips))
  within = omega (arith, end_of_strip, joined-take strips (i + 1))

-- what is put after a part is put after all before it
pub put_after : (now old part more : List ℕ) → now ≡ old ++ part → now ++ more ≡ old ++ (part ++ more)
put_after now old part more is = ap (λ (l : List ℕ). l ++ more) is ∙ append_assoc old part more

-- what stands after the strips, part by part
pub tail_put : (t0 t1 t2 t3 t r f z x y a l : List ℕ) → t0 ≡ r → t1 ≡ t0 ++ f ++ z → t2 ≡ t1 ++ x → t3 ≡ t2 ++ y
    → t ≡ t3 ++ a ++ l
    → t ≡ r ++ (f ++ z ++ (x ++ y ++ a ++ l))
tail_put t0 t1 t2 t3 t r f z x y a l e0 e1 e2 e3 e = rw (e, e3, e2, e1, e0) (simp append_assoc)

-- a directory, whose fields are put in two parts
pub directory_put : (o0 o1 o2 o3 o4 : List ℕ) (n : ℕ) (front more all : List WrittenField) → front ++ more ≡ all
    → length all ≡ n → o1 ≡ o0 ++ two n → o2 ≡ o1 ++ flat_map field_bytes front → o3 ≡ o2 ++ flat_map field_bytes more
    → o4 ≡ o3 ++ four 0
    → o4 ≡ o0 ++ fields_bytes all ++ four 0
directory_put o0 o1 o2 o3 o4 n front more all all_is count e1 e2 e3 e4 =
    rw (e4, e3, e2, e1, ← count, ← all_is, flat_map-append field_bytes front more) (simp append_assoc)

pub length-contents : (strips : List (Vec ℕ Global)) → length (contents strips) ≡ length strips
length-contents [] = refl
length-contents (first ∷ strips) = ap suc (length-contents strips)

-- numbers stand after the directory where there is not one
pub array_of_many : (numbers : List ℕ) → (length numbers ≡ 1 → ⊥) → array_bytes numbers ≡ longs numbers
array_of_many numbers many = grind arith

pub array_of_one : (numbers : List ℕ) → length numbers ≡ 1 → array_bytes numbers ≡ []
array_of_one numbers one = grind arith
