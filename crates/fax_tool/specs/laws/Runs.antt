-- Laws of runs, which the functions of the module `laws` prove.
-- A definition without a citation is this project's profile.
use Rattle.std.specs.Prelude.{◌≡◌, ℕ, ◌≤◌, Bool, false, true, List, [], ◌∷◌, ◌++◌, length, Option}
use Rattle.std.specs.Prelude.{None}
use Rattle.fax_walk.specs.declared.walk_start.WalkStart.{WalkStart}
use Rattle.fax_walk.specs.declared.walk_start.WalkStart.TheVariants.{AtCursor, AtLongCursor}
use Rattle.fax_walk.specs.declared.end.End.{End}
use Rattle.fax_walk.specs.Pages.{IsCursor, IsLongCursor}
use Rattle.fax_walk.specs.laws.Tails.{IsReachedPlace}
use Rattle.fax_tool.specs.Text.{PrintedLine, Printed, is_cut, next_line, texts_of, text_of, up_to}
use Rattle.fax_tool.specs.Run.{AreRowLines}
use Rattle.fax_files.specs.Directory.{max_file}

-- a run of `rows` over a file from what it begins with, with long cursors or without, and with a
-- limit or with none: what it writes, the lines of rows at the beginning of that, and whether the
-- limit cut it
pub record IsRunOfRows (file : List ℕ) (long : Bool) (origin : WalkStart) (max : Option ℕ)
    (text : Printed) (rows : List ℕ) (cut : Bool) : Type 0 where
  pub lines : List PrintedLine
  pub end : End
  pub are : AreRowLines file origin lines end
  pub text_is : text ≡ text_of long max origin lines end
  pub rows_are : rows ≡ texts_of (up_to max lines)
  pub cut_is : cut ≡ is_cut max lines

-- the numbers of what a run begins with have 32 bits
abbrev pub IsStartInRange : WalkStart → Type 0
IsStartInRange (AtCursor at) = IsCursor at
IsStartInRange (AtLongCursor place) = IsLongCursor place

-- a run begins with what is read of the text that stands after these lines of rows and `next `, as
-- the words of `rows` give it: a cursor, or a long one, of that text
pub record IsReadAfter (rows output : List ℕ) (next : WalkStart) : Type 0 where
  pub limits : IsStartInRange next
  pub is : output ≡ rows ++ next_line next

-- Runs of `rows` over a file with these limits and then one with this limit, the first from what it
-- begins with, each later one from what is read of the text that the run before it printed. The
-- runs before the last write these lines of rows, and the last one writes such lines, this text,
-- and is cut or not
abbrev pub AreRunsOfRows : List ℕ → Bool → WalkStart → List (Option ℕ) → Option ℕ → List ℕ → List ℕ
    → Printed → Bool → Type 0
AreRunsOfRows file long origin [] max before rows last cut =
    IsRunOfRows file long origin max last rows cut × (before ≡ [])
AreRunsOfRows file long origin (limit ∷ limits) max before rows last cut =
    (text : Printed) × (first : List ℕ) × (was_cut : Bool) × (next : WalkStart) × (others : List ℕ)
    × IsRunOfRows file long origin limit text first was_cut × IsReadAfter first text.output next
    × AreRunsOfRows file long next limits max others rows last cut × (before ≡ first ++ others)

-- lines of rows and the last text of several runs are those of one run that writes this, with these
-- lines of rows: a beginning of its lines, and where the last run was not cut, all that it writes
pub record AreAsOneRun (before rows : List ℕ) (last : Printed) (cut : Bool) (lines : List ℕ)
    (whole : Printed) : Type 0 where
  pub more : List ℕ
  pub beginning : lines ≡ before ++ rows ++ more
  pub output : cut ≡ false → before ++ last.output ≡ whole.output
  pub error : cut ≡ false → last.error ≡ whole.error
  pub status : cut ≡ false → last.status ≡ whole.status

-- what runs may begin with: any cursor whose numbers have 32 bits, and with long cursors a place
-- inside a strip whose numbers have 32 bits, and to which its strip's rows lead
abbrev pub MayBegin : List ℕ → Bool → WalkStart → Type 0
MayBegin file long (AtCursor at) = IsCursor at
MayBegin file false (AtLongCursor place) = ⊥
MayBegin file true (AtLongCursor place) = IsLongCursor place × IsReachedPlace file place

-- a run that its limit cut prints where to continue, and it is read
abbrev pub CutRunsAreReadOn : Type 0
CutRunsAreReadOn =
    (file : List ℕ) (long : Bool) (origin : WalkStart) (max : Option ℕ) (text : Printed) (rows :
    List ℕ)
    → length file ≤ max_file → MayBegin file long origin
    → IsRunOfRows file long origin max text rows true
    → (next : WalkStart) × IsReadAfter rows text.output next

-- runs of `rows` over a file that is not too long, each from what is read of the text that the run
-- before it printed, write together what one run writes, up to where the last of them is cut
abbrev pub RunsGoOn : Type 0
RunsGoOn =
    (file : List ℕ) (long : Bool) (origin : WalkStart) (limits : List (Option ℕ)) (max : Option ℕ)
    (before rows : List ℕ) (last : Printed) (cut : Bool) (whole : Printed) (lines : List ℕ)
    (was_cut : Bool)
    → length file ≤ max_file → MayBegin file long origin
    → AreRunsOfRows file long origin limits max before rows last cut
    → IsRunOfRows file long origin None whole lines was_cut
    → AreAsOneRun before rows last cut lines whole
