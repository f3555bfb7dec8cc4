-- A row in one-dimensional coding that is read run by run, and a white run and the black one after
-- it that are read at once.
use Rattle.std.proofs.lemmas.Grind.{common_steps}
use Rattle.std.proofs.Common.{◌≡◌, ℕ, ◌+◌, ◌-◌, ◌<◌, ◌≤◌, List, [], ◌++◌, length, take, get_or, replicate, Bool}
use Rattle.std.proofs.Common.{refl, ap, sym, ◌∙◌, subst, arith, inl}
use Rattle.std.specs.Prelude.{◌⊎◌}
use Rattle.std.proofs.Math.ListN.{get_or-append}
use Rattle.std.proofs.Math.Seq.{get_or-append_right}
use Rattle.std.proofs.lemmas.List.{ext_get_or, get_or-replicate}
use Rattle.fax_bits.specs.declared.Colour.{Colour}
use Rattle.fax_bits.specs.declared.Colour.TheVariants.{White, Black}
use Rattle.fax_bits.specs.declared.pairs.RunPair.{RunPair}
use Rattle.fax_bits.specs.Reading.{read, failed}
use Rattle.fax_bits.specs.Written.{run_bits}
use Rattle.fax_bits.specs.views.Pairs.{IsPairRead}
use Rattle.fax_bits.specs.views.Source.{Source}
use Rattle.fax_rows.specs.declared.RowFault.{RowFault}
use Rattle.fax_rows.specs.Rows.{other}
use Rattle.fax_rows.specs.ReadRows.{Runs, read_run, read_runs, read_one_dimensional}
use Rattle.fax_rows.specs.code.Put.{AreChangesPut, HasRoom}
use Rattle.fax_rows.specs.code.ChangeLists.{row_of, toggled, pels_of_changes, IsToggledFrom, TogglesAt}
use Rattle.fax_rows.proofs.ChosenRunLemmas.{AreWrittenRuns, runs_begin, runs_go_on}
use Rattle.fax_rows.proofs.PlacedReadLemmas.{put_on}
use Rattle.fax_rows.proofs.PlacedRowLemmas.{toggled-first}
use Rattle.fax_rows.proofs.RowRuleLemmas.{a_run, no_run, all_runs}
use Rattle.fax_rows.proofs.RunReadLemmas.{run_read}
use Rattle.fax_rows.proofs.TurnLemmas.{length-pels_of_changes, pel-pels_of_changes}

-- pels that places give
pub record AreFirstPels (front : List Colour) (total : ℕ) (changes : List ℕ) : Type 0 where
  pub long : length front ≡ total
  pub pels : (k : ℕ) → k < total → toggled Black changes k ≡ get_or front k White

-- the places of the runs that are read, after which the row has a colour; where they are seen to be
-- chosen, the bits are written so
pub record HasRead (width : ℕ) (b : List Bool) (chosen : Type 0) (total : ℕ) (colour : Colour) (changes : List ℕ)
    (end : ℕ)
    (rest : List Bool) : Type 0 where
  pub front : List Colour
  pub same : read_one_dimensional width b ≡ read_runs width (record { pels = front; colour = colour }) rest
  pub first : AreFirstPels front total (take end changes)
  pub after : (i : ℕ) → total ≤ i → toggled Black (take end changes) i ≡ colour
  pub put : AreChangesPut width changes end total
  pub written : chosen → AreWrittenRuns b total colour rest

pub none_read : {width : ℕ} {changes : List ℕ} (b : List Bool) (chosen : Type 0) → HasRoom width changes
    → HasRead width b chosen 0 White changes 1 b
none_read {width} {changes} b chosen room = record {
  front = [];
  same = refl;
  first = record { long = refl; pels = λ k h. absurd (omega (arith, h)) };
  after = grind (arith, toggled-first);
  put = grind (arith, toggled-first);
  written = λ h. runs_begin b;
}

first_more : (front : List Colour) (total column : ℕ) (colour : Colour) (old new : List ℕ)
    → AreFirstPels front total old → ((i : ℕ) → total ≤ i → toggled Black old i ≡ colour) → total ≤ column
    → IsToggledFrom old new column → AreFirstPels (front ++ replicate (column - total) colour) column new
first_more front total column colour old new first after right toggle_change =
    grind (arith, common_steps, get_or-append, get_or-append_right, get_or-replicate)

pub finish_by_table : {width : ℕ} {b : List Bool} {chosen also : Type 0} {total column : ℕ} {colour : Colour} {old new :
    List ℕ}
    {end next : ℕ} {mid rest : List Bool}
    → HasRead width b chosen total colour old end mid → total < width → read_run colour width total mid
    ≡ read column rest
    → total ≤ column
    → column ≤ width → TogglesAt old new end next column
    → (also → chosen × (mid ≡ run_bits colour (column - total) ++ rest)
    × ((0 < column - total) ⊎ ((total ≡ 0) × (colour ≡ White))))
    → HasRead width b also column (other colour) new next rest
finish_by_table {width} {b} {chosen} {also} {total} {column} {colour} {old} {new} {end} {next} {mid} {rest} before
    unfinished run
    right within turns choice =
    let at : Runs = record { pels = before.front; colour = colour } in
    let long : length before.front ≡ total = before.first.long in
    record {
      front = before.front ++ replicate (column - total) colour;
      same =
          before.same
          ∙ a_run width at column mid rest (omega (arith, long, unfinished))
          (ap (λ n. read_run colour width n mid) long ∙ run)
          ∙ ap (λ n. read_runs width (record {
            pels = before.front ++ replicate (column - n) colour;
            colour = other colour;
          }) rest) long;
      first = first_more before.front total column colour (take end old) (take next new) before.first before.after right
          turns.toggled;
      after = λ i h. turns.toggled.right i h ∙ ap other (before.after i (omega arith));
      put = put_on before.put turns within;
      written = λ h.
          let is = choice h in runs_go_on b total column colour mid rest (before.written is.0) right is.1 is.2;
    }

written_again : (colour : Colour) (b : List Bool) (total run : ℕ) (rest : List Bool) → b ≡ run_bits colour run ++ rest
    → b ≡ run_bits colour (total + run - total) ++ rest
written_again colour b total run rest is = grind (arith, common_steps)

-- the two runs of a pair are read on from white
pub pair_read_on : {width : ℕ} {b : List Bool} {chosen : Type 0} {total : ℕ} {colour : Colour} {old mid new : List ℕ}
    {end next last : ℕ} {remaining rest : List Bool} {pair : RunPair}
    → HasRead width b chosen total colour old end remaining → colour ≡ White → total < width
    → IsPairRead remaining pair rest
    → total + pair.white + pair.black ≤ width → TogglesAt old mid end next (total + pair.white)
    → TogglesAt mid new next last (total + pair.white + pair.black)
    → HasRead width b chosen (total + pair.white + pair.black) White new last rest
pair_read_on {width} {b} {chosen} {total} {colour} {old} {mid} {new} {end} {next} {last} {remaining} {rest} {pair}
    before
    white
    unfinished is
    within turns again =
    let some = is.black_some in
    let first = run_read width total pair.white is.white (omega arith) in
    let second = run_read width (total + pair.white) pair.black is.black (omega arith) in
    finish_by_table {chosen = chosen}
    (finish_by_table {also = chosen} (subst (λ c. HasRead width b chosen total c old end remaining) white before)
    unfinished first.0
    (omega arith) (omega arith) turns
    (λ h. (
      h,
      written_again White remaining total pair.white is.middle is.white_written,
      inl
          (omega (arith, is.white_some)),
    )))
    (omega arith) second.0 (omega arith) (omega arith)
    again
    (λ h. (
      h,
      written_again Black is.middle (total + pair.white) pair.black rest is.black_written,
      inl
          (omega (arith, is.black_some)),
    ))

-- what was read before no pair was
pub white_read : {width : ℕ} {b : List Bool} {chosen : Type 0} {ahead again : Source} {total : ℕ} {colour : Colour}
    {changes : List ℕ}
    {end : ℕ} → HasRead width b chosen total colour changes end ahead.remaining → colour ≡ White → again ≡ ahead
    → HasRead width b chosen total White changes end again.remaining
white_read before white same = grind (arith, common_steps)

-- a row whose next run has a fault
pub row_stops : {width : ℕ} {b : List Bool} {chosen : Type 0} {total : ℕ} {colour : Colour} {changes : List ℕ} {end : ℕ}
    {remaining : List Bool} {fault : RowFault} → HasRead width b chosen total colour changes end remaining
    → total < width
    → read_run colour width total remaining ≡ failed fault → read_one_dimensional width b ≡ failed fault
row_stops {width = width} {total = total} {colour = colour} {remaining = remaining} {fault = fault} before unfinished is
    =
    let long : length before.front ≡ total = before.first.long in
    before.same
    ∙ no_run width (record { pels = before.front; colour = colour }) remaining fault (omega (arith, long, unfinished))
    (ap (λ n. read_run colour width n remaining) long ∙ is)

-- a row that is read to its end
pub row_done : {width : ℕ} {b : List Bool} {chosen : Type 0} {total : ℕ} {colour : Colour} {changes : List ℕ} {end : ℕ}
    {rest : List Bool} → HasRead width b chosen total colour changes end rest → total ≡ width
    → read_one_dimensional width b ≡ read (row_of changes end width) rest
row_done {width = width} {total = total} {colour = colour} {changes = changes} {end = end} {rest = rest} before
    end_there
    =
    let pels = pels_of_changes width (take end changes) in
    let long : length before.front ≡ width = before.first.long ∙ end_there in
    let whole : before.front ≡ pels = ext_get_or White before.front pels
    (long ∙ sym (length-pels_of_changes width (take end changes)))
    (λ k h. let inside : k < width = omega (arith, long, h) in
    sym (pel-pels_of_changes width (take end changes) k inside
    ∙ before.first.pels k (omega (arith, inside, end_there)))) in
    before.same ∙ all_runs width (record { pels = before.front; colour = colour }) rest long
    ∙ ap (λ row. read row rest) whole
