-- The form of a page is that of its fields, and within the limits.
use Rattle.std.proofs.Common.{◌≡◌, ◌≢◌, ℕ, ◌-◌, ◌/◌, ◌%◌, ◌^◌, ◌≤◌, min, Bool, true, List, Option, Some, None, Result}
use Rattle.std.proofs.Common.{Ok}
use Rattle.std.proofs.Common.{refl, sym, subst, ◌∙◌, arith}
use Rattle.std.specs.Int.{div_ceil}
use Rattle.fax_bits.specs.declared.FillOrder.TheVariants.{LsbFirst, MsbFirst}
use Rattle.fax_page.specs.declared.Coding.TheVariants.{Mh, Mr, Mmr}
use Rattle.std.specs.Prelude.{IfOk, nat_lt, ◌==◌, if◌then◌else◌}
use Rattle.std.proofs.lemmas.Bool.Decides.{nat_tests}
use Rattle.fax_files.specs.Directory.{◌>>=◌, Endian, FileFault, Entry, entries, field, scalar}
use Rattle.fax_files.specs.Page.{PageForm, form_in, is_between, most_pels, most_rows, page, strip_bytes}
use Rattle.fax_files.specs.declared.FileFault.TheVariants.{BadField, OutOfLimits, Unsupported}
use Rattle.fax_files.specs.declared.tags.TheConstants as Tags
use Rattle.fax_files.specs.code.Steps.{IsFormOf, first_number, placed_bytes, resolution_in, strip_field}

-- the value of a step that did not fail
pub bind_ok : {A B : Type 0} (r : Result A FileFault) (next : A → Result B FileFault) (y : B) → (r >>= next) ≡ Ok y
    → (x : A) × (r ≡ Ok x) × (next x ≡ Ok y)
bind_ok r next y e = grind arith

-- what holds after a step holds, where the step did not fail
after : {A B : Type 0} (P : B → Type 0) (r : Result A FileFault) (next : A → Result B FileFault)
    → ((x : A) → r ≡ Ok x → IfOk (next x) P) → IfOk (r >>= next) P
after P r next holds = grind arith

module _ (endian : Endian) (file : List ℕ) (fields : List Entry) where
  -- a scalar passed its test
  pub passed : (tag : ℕ) (absent : Option ℕ) (test : ℕ → Bool) (fault : ℕ → FileFault) (n : ℕ)
      → scalar endian file fields tag absent test fault ≡ Ok n → test n ≡ true
  unfolding scalar
  passed tag absent test fault n is = grind arith

  -- a scalar whose first value passes its test
  pub taken : (tag : ℕ) (absent : Option ℕ) (test : ℕ → Bool) (fault : ℕ → FileFault) (n : ℕ)
      → first_number endian file fields tag absent ≡ Ok n → test n ≡ true
      → scalar endian file fields tag absent test fault ≡ Ok n
  unfolding scalar
  taken tag absent test fault n first passes = rw (first, passes) refl

  abbrev t4_options : Result ℕ FileFault
  t4_options = scalar endian file fields Tags.T4_OPTIONS (Some 0) (λ _. true) BadField

  -- EOLs are aligned only where rows have them
  no_mmr : (compression options : ℕ) (is_t6 odd : Bool) → (if is_t6 then (Ok 0) else t4_options) ≡ Ok options
      → (options / 4 % 2 == 1) ≡ true → (if is_t6 then Mmr else (if odd then Mr else Mh)) ≢ Mmr
  no_mmr compression options is_t6 odd options_are aligned = grind arith

  -- the form that fields say is within the limits
  pub form_within : IfOk (form_in endian file fields) (IsFormOf endian file fields)
  unfolding form_in
  form_within =
      after (IsFormOf endian file fields) _ _ (λ width width_is.
      after (IsFormOf endian file fields) _ _ (λ rows rows_is.
      after (IsFormOf endian file fields) (scalar endian file fields Tags.BITS_PER_SAMPLE (Some 1) (is_between 1 1)
      Unsupported) _ (λ bits bits_are.
      after (IsFormOf endian file fields) (scalar endian file fields Tags.COMPRESSION None (is_between 3 4) Unsupported)
      _ (λ compression compression_is.
      after (IsFormOf endian file fields) (scalar endian file fields Tags.PHOTOMETRIC_INTERPRETATION None
      (is_between 0 1) Unsupported) _ (λ white white_is.
      after (IsFormOf endian file fields) (scalar endian file fields Tags.FILL_ORDER (Some 1) (is_between 1 2)
      Unsupported) _ (λ order order_is.
      after (IsFormOf endian file fields) (scalar endian file fields Tags.SAMPLES_PER_PIXEL (Some 1) (is_between 1 1)
      Unsupported) _ (λ samples samples_are.
      after (IsFormOf endian file fields) _ _ (λ in_strip in_strip_is.
      after (IsFormOf endian file fields) (if compression == 4 then (Ok 0) else t4_options) _ (λ options options_are.
      let wide = passed Tags.IMAGE_WIDTH None (is_between 1 most_pels) OutOfLimits width width_is in
      let high = passed Tags.IMAGE_LENGTH None (is_between 1 most_rows) OutOfLimits rows rows_is in
      let some = passed Tags.ROWS_PER_STRIP (Some (2 ^ 32 - 1)) (nat_lt 0) BadField in_strip in_strip_is in
      let some_rows : 1 ≤ rows = grind (arith, nat_tests, high) in
      let some_in_strip : 1 ≤ in_strip = grind (arith, nat_tests, some) in
      let found = resolution_in endian file fields in
      let form : PageForm = record {
        width = width;
        rows = rows;
        coding = if compression == 4 then Mmr else (if options % 2 == 1 then Mr else Mh);
        order = if order == 2 then LsbFirst else MsbFirst;
        aligned = options / 4 % 2 == 1;
        exchanged = white == 1;
        rows_per_strip = min in_strip rows;
        strips = div_ceil rows (min in_strip rows);
        x = found.x;
        y = found.y;
        unit = found.unit;
      } in
      let within : IsFormOf endian file fields form = record {
        some_width = grind (arith, nat_tests, wide);
        width = grind (arith, nat_tests, wide);
        some_rows = some_rows;
        rows = grind (arith, nat_tests, high);
        some_in_strip = omega arith;
        in_strip = omega arith;
        strips = refl;
        aligned = no_mmr compression options (compression == 4) (options % 2 == 1) options_are;
        found = refl;
      } in
      within)))))))))

-- a form that is returned after two steps
same_end : {A B C : Type 0} (a : Result A FileFault) (b : Result B FileFault) (made form : C)
    → (a >>= λ _. b >>= λ _. Ok made) ≡ Ok form
    → form ≡ made
same_end a b made form e = grind arith

module _ (endian : Endian) (file : List ℕ) (q : ℕ) where
  abbrev pub after_form : PageForm → Result PageForm FileFault
  after_form form =
      strip_field endian file (entries endian file q) Tags.STRIP_OFFSETS form.strips
      >>= λ _. strip_field endian file (entries endian file q) Tags.STRIP_BYTE_COUNTS form.strips >>= λ _. Ok form

  -- a page has the form that its fields say, where its strips have their entries
  pub page_is : page endian file q ≡ (form_in endian file (entries endian file q) >>= after_form)
  unfolding page
  page_is = grind arith

  -- so it is within the limits
  pub form_of_fields : (form : PageForm) → page endian file q ≡ Ok form
      → IsFormOf endian file (entries endian file q) form
  form_of_fields form e =
      let fields = entries endian file q in
      let made = bind_ok (form_in endian file fields) after_form form (sym page_is ∙ e) in
      let field : ℕ → Result Entry FileFault = λ tag. strip_field endian file fields tag made.0.strips in
      let within = subst (λ r. IfOk r (IsFormOf endian file fields)) made.1 (form_within endian file fields) in
      subst (IsFormOf endian file fields) (sym (same_end (field Tags.STRIP_OFFSETS) (field Tags.STRIP_BYTE_COUNTS)
      made.0 form made.2)) within

pub strip_is_placed : (endian : Endian) (file : List ℕ) (q s : ℕ) → strip_bytes endian file q s
    ≡ placed_bytes endian file (field (entries endian file q) Tags.STRIP_OFFSETS)
    (field (entries endian file q) Tags.STRIP_BYTE_COUNTS) s
unfolding strip_bytes
strip_is_placed endian file q s = grind arith
