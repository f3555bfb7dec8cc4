use Rattle.std.proofs.Common.{arith, ◌∙◌, sym, ap}
use Rattle.fax_files.specs.Directory.{Entry}
use Rattle.fax_files.proofs.EntryLemmas.{holds_integers, value_inside, short_len, other_len}
use Rattle.fax_files.proofs.numbers.File.value_at.Goals as goal

pub overflow_add-offset : goal.overflow_add-offset
overflow_add-offset c =
    omega (
      arith,
      value_inside _ _ _ c.args.i c.values_offset.result c.value_len.result c.values_offset.ensures
          c.value_len.ensures.value
          c.requires.there,
    )

pub u16_at-requires : goal.u16_at-requires
u16_at-requires c =
    let inside = value_inside _ _ _ c.args.i c.values_offset.result c.value_len.result c.values_offset.ensures
    c.value_len.ensures.value
    c.requires.there in
    omega (
      arith,
      short_len c.args.entry.now (ap (λ (e : Entry). e.kind) (sym c.entry.view_is)
          ∙ c.if-entry-eq-SHORT.true),
      inside,
    )

pub u32_at-requires : goal.u32_at-requires
u32_at-requires c =
    let inside = value_inside _ _ _ c.args.i c.values_offset.result c.value_len.result c.values_offset.ensures
    c.value_len.ensures.value
    c.requires.there in
    let integer = (holds_integers _ _ _ _ c.requires.there).kind in
    omega (
      arith,
      other_len c.args.entry.now integer (λ e. c.if-entry-eq-SHORT.false
          (ap (λ (e : Entry). e.kind) c.entry.view_is ∙ e)),
      inside,
    )
