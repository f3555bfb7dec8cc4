use Rattle.std.proofs.Common.{◌≡◌, ℕ, suc, ◌<◌, length, get_or, ◌∙◌, arith, get_or-set_same}
use Rattle.std.proofs.lemmas.Grind.{common_steps}
use Rattle.std.proofs.Math.ListN.{set}
use Rattle.std.proofs.lemmas.List.{length-set}
use Rattle.fax_rows.proofs.PlacedExchangeLemmas.{without_first, turned_white, with_first, turned_black}
use Rattle.fax_rows.proofs.changes_of_row.invert.Goals as goal
use Rattle.fax_rows.proofs.changes_of_row.invert.Goals.{After-slice_known-then-changes-eq0-1, After-slice_known-3-1}

-- each place went one to the left
left_by_one : (c : After-slice_known-then-changes-eq0-1) → (k : ℕ) → suc k < length c.args.changes.now
    → get_or c.rotate_left.new.self k 0 ≡ get_or c.args.changes.now (suc k) 0
left_by_one c k h = grind arith

pub returns-then-changes-eq0-clause-elements : goal.returns-then-changes-eq0-clause-elements
returns-then-changes-eq0-clause-elements c =
    without_first c.args.changes.now c.rotate_left.new.self c.args.end c.args.width c.requires c.if-changes-eq0.true
    c.rotate_left.ensures.len (left_by_one c)

pub returns-then-changes-eq0-clause-toggled : goal.returns-then-changes-eq0-clause-toggled
returns-then-changes-eq0-clause-toggled c =
    turned_white c.args.changes.now c.rotate_left.new.self c.args.end c.args.width c.requires c.if-changes-eq0.true
    c.rotate_left.ensures.len (left_by_one c)

-- each place went one to the right
right_by_one : (c : After-slice_known-3-1) → (k : ℕ) → suc k < length c.args.changes.now
    → get_or (set c.rotate_right.new.self 0 0) (suc k) 0 ≡ get_or c.args.changes.now k 0
right_by_one c k h = grind (arith, common_steps)

len : (c : After-slice_known-3-1) → length (set c.rotate_right.new.self 0 0) ≡ length c.args.changes.now
len c = length-set c.rotate_right.new.self 0 0 ∙ c.rotate_right.ensures.len

first : (c : After-slice_known-3-1) → get_or (set c.rotate_right.new.self 0 0) 0 0 ≡ 0
first c = get_or-set_same c.rotate_right.new.self 0 0 0 (omega (arith, c.rotate_right.ensures.len, c.requires.room))

pub returns-clause-elements : goal.returns-clause-elements
returns-clause-elements c =
    with_first c.args.changes.now (set c.rotate_right.new.self 0 0) c.args.end c.args.width c.requires
    (omega (arith, c.if-changes-eq0.false))
    (len c) (first c) (right_by_one c)

pub returns-clause-toggled : goal.returns-clause-toggled
returns-clause-toggled c =
    turned_black c.args.changes.now (set c.rotate_right.new.self 0 0) c.args.end c.args.width c.requires
    (omega (arith, c.if-changes-eq0.false))
    (len c) (first c) (right_by_one c)
