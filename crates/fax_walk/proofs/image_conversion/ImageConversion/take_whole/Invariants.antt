use Rattle.std.proofs.Common.{◌≡◌, ℕ, List, ◌++◌, length, None}
use Rattle.fax_walk.specs.views.Converting.{IsConverting}
use Rattle.fax_walk.proofs.image_conversion.ImageConversion.take_whole.Given as goal

-- the bytes before those that are left are taken
abbrev pub invariant-loop-image : goal.invariant-loop-image
invariant-loop-image l = record {
  none : l.reader.fault ≡ None;
  done : List ℕ;
  split : l.fn.bytes ≡ done ++ l.reader.remaining;
  so_far : (before : List ℕ)
      → IsConverting before l.initial.self.options l.initial.self.images l.initial.self.output
      → IsConverting (before ++ done) l.self.options l.self.images l.self.output;
  options : l.self.options ≡ l.initial.self.options;
}

abbrev pub decreases-loop-image : goal.decreases-loop-image
decreases-loop-image l = length l.reader.remaining
