use Rattle.std.proofs.Common.{refl, inl, arith}
use Rattle.fax_c.proofs.writing.add_given.Goals as goal

pub returns : goal.returns
returns c =
    inl (
      c.in-Some.form,
      (
        c.in-Some.ensures,
        omega (arith, c.if-k-eq0.false),
        c.if-not-holds_raster.ensures.some refl,
        c.if-not-is_writing.ensures.some refl,
      ),
      inl (c.if-not-is_held.ensures.held refl, c.if-not-is_total_said.ensures.some refl, c.add_page.ensures),
    )
