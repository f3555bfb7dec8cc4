use Rattle.std.proofs.Common.{◌≡◌, map}
use Rattle.std.specs.List.{range_with_len}
use Rattle.fax_files.specs.views.Writing.{contents}
use Rattle.fax_c.proofs.AddPageLemmas.{the_strip}
use Rattle.fax_c.proofs.writing.code_strips.Given as goal

-- the strips so far are coded
abbrev pub invariant-loop-s : goal.invariant-loop-s
invariant-loop-s l = contents l.strips.items ≡ map (the_strip l.fn.form l.fn.k l.fn.stride l.fn.raster)
    (range_with_len 0 l.s)
