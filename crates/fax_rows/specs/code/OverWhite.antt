-- A row in two-dimensional coding that is read over a white reference row.
use Rattle.std.specs.Prelude.{ℕ, ◌<◌, ◌==◌, if◌then◌else◌, Bool, List, None, Some, true, pos}
use Rattle.fax_bits.specs.declared.Colour.TheVariants.{White}
use Rattle.fax_bits.specs.declared.mode_codes.ModeCode.TheVariants.{Horizontal, Vertical}
use Rattle.fax_bits.specs.Codes.{Decodes}
use Rattle.fax_bits.specs.Tables.{modes}
use Rattle.fax_rows.specs.declared.two_dimensional.horizontal_runs.TwoRuns.{TwoRuns}
use Rattle.fax_rows.specs.declared.two_dimensional.over_white.OverWhiteState.{OverWhiteState}
use Rattle.fax_rows.specs.declared.two_dimensional.over_white.StepOverWhite.{StepOverWhite}
use Rattle.fax_rows.specs.declared.two_dimensional.over_white.StepOverWhite.TheVariants.{Runs, End}
use Rattle.fax_rows.specs.declared.two_dimensional.steps.CodingState.{CodingState}
use Rattle.fax_rows.specs.code.NeedsTable.{AreReadRuns}

-- how far the row is read, as over any reference row: a0 is white, and b1 is at the row's end
abbrev pub placed_over_white : OverWhiteState → CodingState
placed_over_white at =
    record {
      position = record {
        a0 = if at.first_pel == 0 then None else Some at.first_pel;
        colour = White;
      };
      end = at.end;
      b1 = 1;
    }

-- the runs have pels, but for the first one of a row
pub record HavePels (first_pel : ℕ) (runs : TwoRuns) : Type 0 where
  pub first : 0 < first_pel → 0 < runs.first
  pub second : 0 < runs.second

-- the bits begin with such a step (T.4, section 4.2.1.3.2)
abbrev pub IsStepOverWhite : ℕ → ℕ → List Bool → StepOverWhite → List Bool → Type 0
IsStepOverWhite width first_pel b (Runs runs) rest =
    (middle : List Bool) × Decodes modes b Horizontal middle
    × AreReadRuns true White width first_pel middle runs rest × HavePels first_pel runs
IsStepOverWhite width first_pel b End rest = Decodes modes b (Vertical (pos 0)) rest
