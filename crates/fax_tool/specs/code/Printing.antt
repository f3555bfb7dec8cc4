-- Steps of printing lines.
use Rattle.std.specs.Prelude.{◌≡◌, ℕ, ◌+◌, ◌<◌, ◌≤◌, Bool, List, [], ◌++◌, length, take, Option}
use Rattle.std.specs.Prelude.{Some, None, IfSome, Result, Ok, Err, codes}
use Rattle.std.specs.Io.KnownBytes.{Appends}
use Rattle.fax_bits.specs.declared.Memory.{Memory as NoMemory}
use Rattle.fax_walk.specs.declared.walk_start.WalkStart.{WalkStart}
use Rattle.fax_walk.specs.declared.end.End.{End}
use Rattle.fax_walk.specs.declared.end.End.TheVariants.{EndOfPages, Fault, Outside}
use Rattle.fax_walk.specs.declared.end.WalkFault.{WalkFault}
use Rattle.fax_walk.specs.declared.end.WalkFault.TheVariants.{AtRow, CursorOutside}
use Rattle.fax_walk.specs.declared.end.WalkFault.TheVariants.{Memory as NoRoom}
use Rattle.fax_walk.specs.views.InOrder.{IsNumber, EndsAfter}
use Rattle.fax_tool.specs.Text.{PrintedLine, named, next_after, next_line, texts_of}

-- how lines end where a walk or a reader of pages answers so; want of memory is no end
abbrev pub end_of : WalkFault → Option End
end_of (AtRow page row cause) = Some (Fault page row cause)
end_of CursorOutside = Some Outside
end_of NoRoom = None

-- a run begins with this that continues after so many of such lines, which began so
pub record IsNextAfter (tail : List PrintedLine → End → Type 0) (origin : WalkStart) (count : ℕ)
    (next : WalkStart) : Type 0 where
  pub lines : List PrintedLine
  pub end : End
  pub is : tail lines end
  pub within : count ≤ length lines
  pub next_is : next ≡ next_after origin (take count lines)

-- line number `count` is collected, or the lines have ended after so many; where memory was refused
-- the text is as it was
abbrev pub IsLinePut : (List PrintedLine → End → Type 0) → ℕ → List ℕ → Result (Option End) NoMemory
    → ℕ → List ℕ → Type 0
IsLinePut tail count text (Ok None) new_count new_text =
    (line : PrintedLine) × IsNumber tail count line × (new_count ≡ count + 1)
    × (new_text ≡ text ++ line.text)
IsLinePut tail count text (Ok (Some end)) new_count new_text =
    EndsAfter tail count end × (new_count ≡ count) × (new_text ≡ text)
IsLinePut tail count text (Err memory) new_count new_text = new_text ≡ text

-- printing ended so after so many lines: with their end, and fewer than the limit, or at the limit
abbrev pub EndsWith : List PrintedLine → End → ℕ → Option ℕ → Option End → Type 0
EndsWith lines end count max (Some met) =
    (end ≡ met) × (count ≡ length lines) × IfSome max (λ limit. count < limit)
EndsWith lines end count max None = (max ≡ Some count) × (count ≤ length lines)

-- so many of such lines were printed, and printing ended so
pub record PrintsLines (tail : List PrintedLine → End → Type 0) (max : Option ℕ)
    (ending : Option End) (count : ℕ) (output new_output : Option (List ℕ)) : Type 0 where
  pub lines : List PrintedLine
  pub end : End
  pub is : tail lines end
  pub ends : EndsWith lines end count max ending
  pub printed : Appends output new_output (texts_of (take count lines))

-- where to continue after so many of such lines, with long cursors or without
abbrev pub IsNextLine : (List PrintedLine → End → Type 0) → WalkStart → ℕ → Bool → List ℕ → Type 0
IsNextLine tail origin count long line =
    (next : WalkStart) × IsNextAfter tail origin count next × (line ≡ next_line (named long next))

-- what is printed after so many of such lines where printing ended so
abbrev pub IsLastLine : (List PrintedLine → End → Type 0) → WalkStart → ℕ → Bool → Option End
    → List ℕ
    → Type 0
IsLastLine tail origin count long None line = IsNextLine tail origin count long line
IsLastLine tail origin count long (Some EndOfPages) line = line ≡ codes "end\n"
IsLastLine tail origin count long (Some (Fault page row cause)) line =
    IsNextLine tail origin count long line
IsLastLine tail origin count long (Some Outside) line = line ≡ []
